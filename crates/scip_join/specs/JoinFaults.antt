-- What is said about why indexes have no join.
use Rattle.std.specs.Prelude.{ℕ, List, codes}
use Rattle.scip_join.specs.declared.join_fault.JoinFault.{JoinFault}
use Rattle.scip_join.specs.declared.join_fault.JoinFault.TheVariants.{OtherRoot, OtherEncoding, Twice, Memory}

abbrev pub name_of : JoinFault → List ℕ
name_of OtherRoot = codes "OtherRoot"
name_of OtherEncoding = codes "OtherEncoding"
name_of (Twice two) = codes "Twice"
name_of Memory = codes "Memory"
