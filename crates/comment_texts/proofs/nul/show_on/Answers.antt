use Rattle.std.proofs.Common.{◌≡◌, ◌∙◌, ◌-◌, ◌++◌, ℕ, List, ap, take, string_bytes, arith}
use Rattle.comment_texts.proofs.NulLemmas.{cut_before, cut_behind, shown_whole, shown_more}
use Rattle.comment_texts.proofs.nul.show_on.Goals as goal

less_none : (n : ℕ) → n - 0 ≡ n
less_none n = omega arith

pub range-requires-clause-end_boundary : goal.range-requires-clause-end_boundary
range-requires-clause-end_boundary c =
    cut_before c.args.text.now c.plain_len-len.result c.plain_len-len.ensures.value c.utf8.text

pub returns-then-len-text-clause-on : goal.returns-then-len-text-clause-on
returns-then-len-text-clause-on c =
    shown_whole (string_bytes c.args.shown.now) (string_bytes c.push_str.new.self) c.args.text.now
    c.plain_len-len.result c.plain_len-len.ensures.value c.if-len-text.true
    (c.in_ok-push_str.ensures.bytes ∙ ap (λ (t : List ℕ). string_bytes c.args.shown.now ++ t)
    (c.range.ensures.value ∙ ap (λ (n : ℕ). take n c.args.text.now) (less_none c.plain_len-len.result)))

pub range_from-requires : goal.range_from-requires
range_from-requires c = λ some.
    cut_behind c.args.text.now c.plain_len-len.result c.plain_len-len.ensures.value
    (omega (arith, c.plain_len-len.ensures.within, c.if-len-text.false)) c.utf8.text

pub returns-clause-on : goal.returns-clause-on
returns-clause-on c =
    shown_more (string_bytes c.args.shown.now) (string_bytes c.push_str.new.self) (string_bytes c.push.new.self)
    c.args.text.now c.range_from.result.now
    c.plain_len-len.result c.plain_len-len.ensures.value
    (omega (arith, c.plain_len-len.ensures.within, c.if-len-text.false))
    (c.in_ok-push_str.ensures.bytes ∙ ap (λ (t : List ℕ). string_bytes c.args.shown.now ++ t)
    (c.range.ensures.value ∙ ap (λ (n : ℕ). take n c.args.text.now) (less_none c.plain_len-len.result)))
    c.in_ok-push.ensures.bytes c.range_from.ensures.value
