-- Why the sources below a root aren't read.
use Rattle.std.specs.Prelude.{ℕ, ⊤, Bool, List, Option, string_bytes}
use Rattle.source_files.specs.Listings.{Listing}
use Rattle.source_files.specs.declared.load_fault.LoadFault.{LoadFault}
use Rattle.source_files.specs.declared.load_fault.LoadFault.TheVariants.{Unreadable, Memory}
use Rattle.source_files.specs.Roots.{StopsBelow}

-- what can't be read is named; nothing is said about memory; and no other fault comes
abbrev pub MayStop : (List ℕ → List ℕ → Option Listing → Type 0) → (List ℕ → Option (List ℕ) → Type 0)
    → (leaves_out : Bool) → (root : List ℕ) → LoadFault → Type 0
MayStop lists gives leaves_out root (Unreadable name) = StopsBelow lists gives leaves_out root (string_bytes name)
MayStop lists gives leaves_out root Memory = ⊤
MayStop lists gives leaves_out root other = ⊥
