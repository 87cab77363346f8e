use Rattle.std.proofs.Common.{◌∙◌, ◌++◌, ℕ, List, ap, arith}
use Rattle.std.specs.Borrow.{Bor}
use Rattle.diagnostics.specs.Hints.{tried}
use Rattle.diagnostics.specs.Appended.{listed_text}
use Rattle.diagnostics.proofs.HintLemmas.{texts}
use Rattle.diagnostics.proofs.WordingLemmas.{text_is}
use Rattle.diagnostics.proofs.hints.hint_text.Goals as goal

pub returns : goal.returns
returns c =
    let found = c.in_ok-found.found.items in
    tried (texts found) (omega (arith, c.if-front-gt-MAX_FRONT.false)) c.in_ok-found.ensures
    (c.in_ok-push_hints.ensures
    ∙ ap (λ (t : List ℕ). t ++ listed_text (texts c.as_slice.result.now)) c.new-text.ensures.bytes
    ∙ ap (λ (l : List (Bor (List ℕ))). listed_text (texts l)) c.as_slice.ensures.value ∙ text_is (texts found))
