use Rattle.std.proofs.Common.{◌∙◌, ◌++◌, ℕ, List, ap, take}
use Rattle.std.specs.String.{string_bytes}
use Rattle.std.proofs.lemmas.Result.{on_ok_weaker}
use Rattle.diagnostics.specs.Characters.{characters}
use Rattle.diagnostics.specs.Tables.Steps.{near}
use Rattle.diagnostics.proofs.NearLemmas.{both_near}
use Rattle.diagnostics.proofs.excerpt.push_around.Goals as goal

pub returns : goal.returns
returns c =
    on_ok_weaker c.push_both.result (λ h.
    h ∙ ap (λ (l : List ℕ). string_bytes c.args.out.now ++ l)
    (both_near c.args.number.now c.args.front.now c.args.back.now c.end_of_line-before.result.now c.cut.result.0.now
    c.cut.result.1.now c.args.len c.end_of_line-before.ensures (c.cut.ensures.front ∙ c.front_of_line.ensures.marked)
    (ap (λ (l : List ℕ). take near (characters l)) c.cut.ensures.back ∙ c.front_of_line.ensures.behind)))
    c.push_both.ensures
