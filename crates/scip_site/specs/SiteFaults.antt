-- Why a folder of pages isn't all made: its name. (The names are this project's own.)
use Rattle.std.specs.Prelude.{ℕ, List, codes}
use Rattle.scip_site.specs.ShowFaults.{name_of as show_name}
use Rattle.scip_site.specs.declared.site_fault.SiteFault.{SiteFault}
use Rattle.scip_site.specs.declared.site_fault.SiteFault.TheVariants.{Show, NothingThere}

abbrev pub name_of : SiteFault → List ℕ
name_of (Show fault) = show_name fault
name_of NothingThere = codes "NothingThere"
