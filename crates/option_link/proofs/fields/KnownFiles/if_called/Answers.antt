use Rattle.std.proofs.Common.{refl, sym, ◌∙◌}
use Rattle.std.proofs.lemmas.Slice.Eq.{bytes_eq-Decides}
use Rattle.option_link.proofs.fields.KnownFiles.if_called.Goals as goal

pub returns-else-not-is_text : goal.returns-else-not-is_text
returns-else-not-is_text c = (
  refl,
  c.in-Some.declared.now,
  c.in-Some.ensures.stands,
  sym c.simple_name.ensures
      ∙ (bytes_eq-Decides c.simple_name.result.now c.args.word.now).0 (sym c.is_text.ensures ∙ c.if-not-is_text.false),
)
