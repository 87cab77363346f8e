-- Why a document of an index is left out: what is said about it. (The names are this project's own.)
use Rattle.std.specs.Prelude.{ℕ, List, ◌++◌, codes}
use Rattle.scip_pages.specs.declared.snapshot_fault.SnapshotFault.TheVariants.{NoDocument, NoUnit, Misfit, Memory}
use Rattle.scip_site.specs.declared.left_out.LeftOut.{LeftOut}
use Rattle.scip_site.specs.declared.left_out.LeftOut.TheVariants.{BadPath, Unreadable, NotText, NoSnapshot}

abbrev pub name_of : LeftOut → List ℕ
name_of BadPath = codes "BadPath"
name_of Unreadable = codes "Unreadable"
name_of NotText = codes "NotText"
name_of (NoSnapshot NoDocument) = codes "NoDocument"
name_of (NoSnapshot NoUnit) = codes "NoUnit"
name_of (NoSnapshot (Misfit number)) = codes "Misfit"
name_of (NoSnapshot Memory) = codes "Memory"

-- the line that says so of the document with a path
abbrev pub line_with : (path name : List ℕ) → List ℕ
line_with path name = codes "protoscip: " ++ path ++ codes ": " ++ name

abbrev pub line_of : List ℕ → LeftOut → List ℕ
line_of path left = line_with path (name_of left)
