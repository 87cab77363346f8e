use Rattle.std.proofs.Common.{◌∙◌, ap, refl, List, ℕ, []}
use Rattle.std.specs.Prelude.{Option, unwrap_or}
use Rattle.std.specs.Borrow.{Bor}
use Rattle.command_line.proofs.ValueLemmas.{text_or_none}
use Rattle.command_line.proofs.options.real.text_by_real.Goals as goal

pub returns : goal.returns
returns c = ap (λ (s : Bor (List ℕ)). s.now) c.unwrap_or.ensures
    ∙ text_or_none c.first_by_real.result _ refl
    ∙ ap (λ (o : Option (List ℕ)). unwrap_or o []) c.first_by_real.ensures
