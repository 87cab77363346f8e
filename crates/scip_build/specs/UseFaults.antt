-- Faults of uses.
use Rattle.std.specs.Prelude.{Bool, false}
use Rattle.proto_visibility.specs.declared.fault.LinkFault.{LinkFault}
use Rattle.proto_visibility.specs.declared.fault.LinkFault.TheVariants.{Ambiguous}
use Rattle.proto_visibility.specs.declared.files.FilePlace.{FilePlace}
use Rattle.scip_build.specs.Telling.{is_one_place}

-- whether a fault is that of an ambiguous use at a place
abbrev pub is_ambiguous : LinkFault → FilePlace → Bool
is_ambiguous (Ambiguous other) place = is_one_place other place
is_ambiguous fault place = false
