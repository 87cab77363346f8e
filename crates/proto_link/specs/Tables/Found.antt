-- What a lookup finds.
use Rattle.std.specs.Prelude.{◌≡◌, ℕ, Bool, List, [], ◌∷◌, Option, Some, None, Result, Ok, Err, IsErr}
use Rattle.std.specs.declared.alloc.AllocError.{AllocError}
use Rattle.proto_decl.specs.Names.{qualified}
use Rattle.proto_decl.specs.declared.uses.Use.{Use}
use Rattle.proto_visibility.specs.declared.fault.LinkFault.{LinkFault}
use Rattle.proto_visibility.specs.declared.fault.LinkFault.TheVariants.{Memory}
use Rattle.proto_visibility.specs.Files.{File}
use Rattle.proto_link.specs.declared.target.Target.{Target}
use Rattle.proto_visibility.specs.Knows.{is_type, is_aggregate, KnowsAs}
use Rattle.proto_link.specs.Resolves.{Innermost, Resolves, wanted}

-- the full name of the word in the innermost scope in which it is a type
pub record IsSingle (files : List File) (file : ℕ) (word from name : List ℕ) : Type 0 where
  pub start : List ℕ
  pub innermost : Innermost files file is_type word from start
  pub name_is : name ≡ qualified start word

-- the full name of the words in the innermost scope in which the first is an aggregate, if it is that of what is wanted
pub record IsCompound (files : List File) (file : ℕ) (is_extended : Bool) (first words from name : List ℕ)
    : Type 0 where
  pub start : List ℕ
  pub innermost : Innermost files file is_aggregate first from start
  pub name_is : name ≡ qualified start words
  pub known : KnowsAs files file (wanted is_extended) name

-- the use resolves to no full name
abbrev pub HasNoName : List File → ℕ → Use → Type 0
HasNoName files file type_use = (name : List ℕ) → Resolves files file type_use name → ⊥

-- what is found by the answer about a use: why it names nothing, unless memory was refused
abbrev pub FindsFault : Result Target LinkFault → Result (Option LinkFault) AllocError → Type 0
FindsFault (Ok target) found = found ≡ Ok None
FindsFault (Err Memory) found = IsErr found
FindsFault (Err fault) found = found ≡ Ok (Some fault)

abbrev pub listed : Option LinkFault → List LinkFault
listed None = []
listed (Some fault) = fault ∷ []
