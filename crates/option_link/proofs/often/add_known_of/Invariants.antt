use Rattle.option_link.specs.KnownFields.{AreKnownFields}
use Rattle.option_link.proofs.often.add_known_of.Given as goal

abbrev pub invariant-loop-index : goal.invariant-loop-index
invariant-loop-index l = AreKnownFields l.files.names.now l.files.known.now l.often.fields.items
