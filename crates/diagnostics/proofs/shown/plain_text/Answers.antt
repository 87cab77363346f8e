use Rattle.std.proofs.Common.{◌∙◌, ap, sym, List, ℕ, false}
use Rattle.std.specs.List.{list_any}
use Rattle.std.specs.Str.{chars}
use Rattle.diagnostics.specs.Shown.{is_obeyed}
use Rattle.diagnostics.proofs.ShownLemmas.{stands, no_text}
use Rattle.diagnostics.proofs.shown.plain_text.Goals as goal

pub returns-else-has_obeyed : goal.returns-else-has_obeyed
returns-else-has_obeyed c = (
  stands c.args.character.now false c.in-Ok.ensures.cases.1
      (ap (λ (text : List ℕ). list_any is_obeyed (chars text)) (sym c.in-Ok.ensures.cases.0)
      ∙ sym c.has_obeyed.ensures ∙ c.if-has_obeyed.false),
  c.in-Ok.ensures.cases.0,
)

pub returns-in-Err : goal.returns-in-Err
returns-in-Err c = no_text c.args.character.now c.in-Err.ensures.cases.0
