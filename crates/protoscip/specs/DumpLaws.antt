-- What the definitions say about dumps, whatever the code does.
use Rattle.std.specs.Prelude.{◌≡◌, ℕ, List}
use Rattle.proto_parse.specs.dialect.Dialect.{Dialect}
use Rattle.protoscip.specs.Dump.{IsListing, IsRefusal}
use Rattle.protoscip.specs.declared.fault.Fault.{Fault}
use Rattle.protoscip.specs.declared.fault.Fault.TheVariants.{Memory}

-- a source has one listing at most
abbrev pub OneListing : Type 0
OneListing = (dialect : Dialect) (bytes listing other : List ℕ) → IsListing dialect bytes listing
    → IsListing dialect bytes other → listing ≡ other

-- a source that has a listing isn't refused, unless memory runs out
abbrev pub ListedUnlessMemory : Type 0
ListedUnlessMemory = (dialect : Dialect) (bytes listing : List ℕ) (fault : Fault) → IsListing dialect bytes listing
    → IsRefusal dialect bytes fault → fault ≡ Memory
