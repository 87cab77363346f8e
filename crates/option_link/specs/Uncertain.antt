-- Which names in options may name another field once a file that can't be read is mended.
use Rattle.std.specs.Prelude.{◌≡◌, ◌≤◌, ◌<◌, ℕ, Bool, None, List, [], ◌∷◌}
use Rattle.proto_decl.specs.Facts.{Facts}
use Rattle.proto_options.specs.declared.names.OptionName.{OptionName}
use Rattle.proto_options.specs.declared.names.OptionRole.TheVariants as roles
use Rattle.proto_options.specs.declared.options.FileOption.{FileOption}
use Rattle.proto_visibility.specs.Files.{File, HasFacts}
use Rattle.proto_visibility.specs.Knows.{NameKind, is_aggregate}
use Rattle.proto_link.specs.Uncertain.{IsFartherFrom, IsFirstUnread, package_name}
use Rattle.option_link.specs.declared.contexts.Context.{Context}
use Rattle.option_link.specs.declared.facts.OptionFacts.{OptionFacts}
use Rattle.option_link.specs.declared.place.DeclaredPlace.{DeclaredPlace}
use Rattle.option_link.specs.declared.target.UncertainName.{UncertainName}
use Rattle.option_link.specs.Lookups.{is_any}
use Rattle.option_link.specs.Contexts.{HasWords, LookedUpFrom, MayBeExtended}
use Rattle.option_link.specs.OptionNames.{NamesPlace}

-- what the first word of a name in parentheses or in brackets is looked up as
abbrev pub first_sought : (others : List (List ℕ)) → NameKind → Bool
first_sought [] = is_any
first_sought (other ∷ others) = is_aggregate

-- The first scope that other files may have names in, of those from which a name is looked up: for a part the package
-- of its file (to a message's own scope no other file adds a name without a clash), and in braces the very first one,
-- which is of the file that declares the message.
pub data IsShared (files : List File) (file : ℕ) (option : FileOption) (number : ℕ) (from : List ℕ)
    : List ℕ → Type 0 where
  part : {facts : Facts} → number < option.setting.parts → HasFacts files file facts
      → IsShared files file option number from (package_name facts)
  in_braces : option.setting.parts ≤ number → IsShared files file option number from from

-- The first word of a name in parentheses or in brackets is found farther out than that: that it isn't found there, or
-- on the way, may be since a file that is seen can't be read.
pub record IsLookedUpFarther (files : List File) (file : ℕ) (text : List ℕ) (option : FileOption) (number : ℕ)
    (name : OptionName) (context : Context) : Type 0 where
  pub extension : name.role ≡ roles.Extension
  pub plain : name.name.leading_dot ≡ None
  pub word : List ℕ
  pub others : List (List ℕ)
  pub words : HasWords text name (word ∷ others)
  pub message : DeclaredPlace
  pub extended : MayBeExtended files option context message
  pub from : List ℕ
  pub looked_from : LookedUpFrom files option number message from
  pub shared : List ℕ
  pub is_shared : IsShared files file option number from shared
  pub farther : IsFartherFrom files file (first_sought others) word from shared

-- A name of an option names a field, but is found so far out that it may name another one once this file can be read:
-- the first of those that the option's file sees and that have no facts.
pub record IsInDoubt (files : List File) (known : List OptionFacts) (file : ℕ) (text : List ℕ) (option : FileOption)
    (number behind : ℕ) : Type 0 where
  pub name : OptionName
  pub at : DeclaredPlace
  pub names : NamesPlace files known file text option number name at
  pub farther : IsLookedUpFarther files file text option number name names.context
  pub first : IsFirstUnread files file behind

-- The uncertain name of an option is the first such one.
pub record IsUncertainName (files : List File) (known : List OptionFacts) (file : ℕ) (text : List ℕ)
    (option : FileOption) (uncertain : UncertainName) : Type 0 where
  pub doubt : IsInDoubt files known file text option uncertain.name_number uncertain.behind
  pub first : (before behind : ℕ) → before < uncertain.name_number
      → IsInDoubt files known file text option before behind → ⊥
