-- Why not all documents of an index are shown: its name. (The names are this project's own.)
use Rattle.std.specs.Prelude.{ℕ, List, codes}
use Rattle.scip_site.specs.declared.show_fault.ShowFault.{ShowFault}
use Rattle.scip_site.specs.declared.show_fault.ShowFault.TheVariants.{Write, Memory}

abbrev pub name_of : ShowFault → List ℕ
name_of Write = codes "Write"
name_of Memory = codes "Memory"
