use Rattle.proto_visibility.specs.Tables.ClashTables.{AreFirst}
use Rattle.proto_visibility.proofs.ClashLemmas.{NoneClash}
use Rattle.proto_visibility.proofs.clash.first_clash.Given as goal

abbrev pub invariant-loop-index : goal.invariant-loop-index
invariant-loop-index l = record { first : AreFirst l.items l.index l.names; clear : NoneClash l.items l.index }
