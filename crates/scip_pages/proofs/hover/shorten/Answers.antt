use Rattle.std.proofs.Common.{◌≡◌, ◌∙◌, ◌+◌, ◌++◌, ℕ, List, ap, arith, length, take}
use Rattle.scip_pages.specs.Hover.{ellipsis, uncut_end}
use Rattle.scip_pages.proofs.HoverLemmas.{cut_front, whole_front}
use Rattle.scip_pages.proofs.hover.shorten.Goals as goal

pub returns-then-len-le-MAX_HOVER : goal.returns-then-len-le-MAX_HOVER
returns-then-len-le-MAX_HOVER c = λ whole is.
    is ∙ whole_front whole (omega (arith, c.if-len-le-MAX_HOVER.true, c.len.ensures, ap length is))

pub returns : goal.returns
returns c = λ whole is.
    let old : List ℕ = c.args.text.now.items in
    let end : c.uncut_end-end.result ≡ uncut_end old 4096 =
    c.uncut_end-end.ensures ∙ ap (λ (text : List ℕ). uncut_end text 4096) c.deref.ensures.value in
    c.in_ok-extend_from_slice.ensures.items
    ∙ (ap (λ (front : List ℕ). front ++ c.as_bytes.result.now)
    (c.truncate.ensures.items ∙ ap (λ (n : ℕ). take n old) end)
    ∙ (ap (λ (sign : List ℕ). take (uncut_end old 4096) old ++ sign) c.as_bytes.ensures.value
    ∙ (ap (λ (text : List ℕ). take (uncut_end text 4096) text ++ ellipsis) is
    ∙ cut_front whole (omega (arith, c.if-len-le-MAX_HOVER.false, c.len.ensures, ap length is)))))
