use Rattle.std.proofs.Common.{◌<◌}
use Rattle.option_link.specs.Fields.{IsItem}
use Rattle.option_link.specs.declared.place.DeclaredPlace.{DeclaredPlace}
use Rattle.option_link.proofs.fields.KnownFiles.first_among.Given as goal

abbrev pub invariant-loop-index : goal.invariant-loop-index
invariant-loop-index l = (field : DeclaredPlace) → IsItem l.self.names.now l.self.known.now l.set l.message field
    → field.index < l.index → ⊥
