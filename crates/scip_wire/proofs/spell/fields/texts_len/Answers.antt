use Rattle.std.proofs.Common.{IsUtf8, sym}
use Rattle.std.proofs.lemmas.List.Elements.{All-same}
use Rattle.scip_wire.proofs.spell.fields.texts_len.Goals as goal

pub returns-clause-fit : goal.returns-clause-fit
returns-clause-fit c = All-same IsUtf8 _ _ (sym c.as_slice.ensures) c.slice_len.ensures.fit
