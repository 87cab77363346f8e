use Rattle.option_link.specs.KnownFields.{AreKnownFields}
use Rattle.option_link.proofs.often.fields_of.Given as goal

abbrev pub invariant-loop-number : goal.invariant-loop-number
invariant-loop-number l = AreKnownFields l.files.0.now l.files.1.0.now l.often.fields.items
