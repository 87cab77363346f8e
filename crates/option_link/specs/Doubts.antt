-- What is found step by step of names that may name another field, for the code.
use Rattle.std.specs.Prelude.{◌≡◌, ℕ, Bool, true, false, Option, Some, None, List, ◌∷◌}
use Rattle.proto_options.specs.declared.names.OptionName.{OptionName}
use Rattle.proto_options.specs.declared.options.FileOption.{FileOption}
use Rattle.proto_visibility.specs.Files.{File}
use Rattle.proto_visibility.specs.Knows.{NameKind}
use Rattle.proto_link.specs.Uncertain.{IsFartherFrom, IsFirstUnread}
use Rattle.option_link.specs.declared.contexts.Context.{Context}
use Rattle.option_link.specs.declared.place.DeclaredPlace.{DeclaredPlace}
use Rattle.option_link.specs.declared.target.UncertainName.{UncertainName}
use Rattle.option_link.specs.Contexts.{LookedUpFrom, MayBeExtended}
use Rattle.option_link.specs.Uncertain.{IsLookedUpFarther, IsShared, first_sought}

-- the first word is found farther out
pub record IsWordFarther (files : List File) (file : ℕ) (option : FileOption) (number : ℕ) (admits : NameKind → Bool)
    (word from : List ℕ) : Type 0 where
  pub shared : List ℕ
  pub is_shared : IsShared files file option number from shared
  pub farther : IsFartherFrom files file admits word from shared

-- the same of the first of these words
pub record AreFoundFarther (files : List File) (file : ℕ) (option : FileOption) (number : ℕ) (words : List (List ℕ))
    (from : List ℕ) : Type 0 where
  pub word : List ℕ
  pub others : List (List ℕ)
  pub are : words ≡ word ∷ others
  pub farther : IsWordFarther files file option number (first_sought others) word from

-- a name in this is looked up from some scope
pub record HasLookup (files : List File) (option : FileOption) (number : ℕ) (context : Context) : Type 0 where
  pub message : DeclaredPlace
  pub extended : MayBeExtended files option context message
  pub from : List ℕ
  pub looked_from : LookedUpFrom files option number message from

-- and the first of these words is found farther out
pub record LookUpFarther (files : List File) (file : ℕ) (option : FileOption) (number : ℕ) (context : Context)
    (words : List (List ℕ)) : Type 0 where
  pub has : HasLookup files option number context
  pub are : AreFoundFarther files file option number words has.from

-- the number, if it is so
abbrev pub number_if : (is : Bool) → (number : ℕ) → Option ℕ
number_if true number = Some number
number_if false number = None

-- a name that is looked up in this and names that, or nothing, is in doubt behind a file
pub record IsDoubtOf (files : List File) (file : ℕ) (text : List ℕ) (option : FileOption) (number : ℕ)
    (name : OptionName) (inner : Context) (target : Option DeclaredPlace) (behind : ℕ) : Type 0 where
  pub at : DeclaredPlace
  pub is_target : target ≡ Some at
  pub farther : IsLookedUpFarther files file text option number name inner
  pub first : IsFirstUnread files file behind

-- the same of one that is looked up in something, or in nothing
pub record IsDoubtHere (files : List File) (file : ℕ) (text : List ℕ) (option : FileOption) (number : ℕ)
    (name : OptionName) (context : Option Context) (target : Option DeclaredPlace) (behind : ℕ) : Type 0 where
  pub inner : Context
  pub in_context : context ≡ Some inner
  pub is : IsDoubtOf files file text option number name inner target behind

-- the uncertain name so far, or else this one, if it is in doubt behind a file
abbrev pub first_doubt : Option UncertainName → (number : ℕ) → (behind : Option ℕ) → Option UncertainName
first_doubt (Some uncertain) number behind = Some uncertain
first_doubt None number (Some behind) = Some (record { name_number = number; behind = behind })
first_doubt None number None = None
