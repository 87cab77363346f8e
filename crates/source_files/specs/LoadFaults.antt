-- Why there is no tree: its name, and what each step to a tree answers.
use Rattle.std.specs.Prelude.{ℕ, ⊤, Bool, List, Option, codes, string_bytes}
use Rattle.source_tree.specs.Files.{SourceFile}
use Rattle.source_tree.specs.Refusals.{AreTooMany}
use Rattle.source_files.specs.Listings.{Listing}
use Rattle.source_files.specs.declared.load_fault.LoadFault.{LoadFault}
use Rattle.source_files.specs.declared.load_fault.LoadFault.TheVariants.{Unreadable, TooMany, BadPath, SamePath, Memory}
use Rattle.source_files.specs.Roots.{FilesBelow, IsUnreadableBelow}
use Rattle.source_files.specs.Taken.{OfTaken}
use Rattle.source_files.specs.Loads.{HasBadPath, HasSamePath}

-- the name in a line that says so (the names are this project's own)
abbrev pub name_of : LoadFault → List ℕ
name_of (Unreadable name) = codes "Unreadable"
name_of TooMany = codes "TooMany"
name_of (BadPath path) = codes "BadPath"
name_of (SamePath path) = codes "SamePath"
name_of Memory = codes "Memory"

-- why files below several roots can't be read
abbrev pub MayStopBelow : (List ℕ → List ℕ → Option Listing → Type 0) → (List ℕ → Option (List ℕ) → Type 0)
    → (leaves_out : Bool) → (roots : List (List ℕ)) → LoadFault → Type 0
MayStopBelow lists gives leaves_out roots (Unreadable name) =
    IsUnreadableBelow lists gives leaves_out roots (string_bytes name)
MayStopBelow lists gives leaves_out roots Memory = ⊤
MayStopBelow lists gives leaves_out roots other = ⊥

-- why files that were read make no tree, with the path that is to be named
abbrev pub MayRefuseFiles : (sources included : List SourceFile) → LoadFault → Type 0
MayRefuseFiles sources included (Unreadable name) = ⊥
MayRefuseFiles sources included TooMany = AreTooMany sources included
MayRefuseFiles sources included (BadPath path) = HasBadPath (string_bytes path) sources included
MayRefuseFiles sources included (SamePath path) = HasSamePath (string_bytes path) sources included
MayRefuseFiles sources included Memory = ⊤

-- why those make none that are taken below a root and included roots
abbrev pub MayRefuseTaken : (leaves_out : Bool) → (own : FilesBelow) → (others : List FilesBelow) → LoadFault → Type 0
MayRefuseTaken leaves_out own others Memory = ⊤
MayRefuseTaken leaves_out own others fault =
    OfTaken leaves_out own others (λ sources included bad. MayRefuseFiles sources included fault)
