-- Which uses may name another type once a file that can't be read is mended.
use Rattle.std.specs.Prelude.{◌≡◌, ◌<◌, ℕ, Bool, true, false, Option, Some, None, List, [], ◌∷◌, length, Contains}
use Rattle.std.specs.Prelude.{MatchOption}
use Rattle.std.specs.List.{slice_get}
use Rattle.proto_decl.specs.Names.{IsAround, package_of}
use Rattle.proto_decl.specs.Facts.{Facts}
use Rattle.proto_decl.specs.declared.uses.Use.{Use}
use Rattle.proto_visibility.specs.Files.{File, HasFacts, IsSource}
use Rattle.proto_visibility.specs.Sees.{Sees}
use Rattle.proto_visibility.specs.Knows.{NameKind, is_type, is_aggregate}
use Rattle.proto_link.specs.declared.uncertain_use.UncertainUse.{UncertainUse}
use Rattle.proto_link.specs.Resolves.{Innermost, words_of}
use Rattle.proto_link.specs.Mended.{IsAroundOrSame}
use Rattle.proto_link.specs.Targets.{Names}

-- The other scope is around the one, and not the same.
abbrev pub IsFartherOut : (scope outer : List ℕ) → Type 0
IsFartherOut scope outer = (next : List ℕ) × IsAround scope next × IsAroundOrSame next outer

-- what the first word of a use is looked up as
abbrev pub first_wanted : (is_extended : Bool) → (others : List (List ℕ)) → NameKind → Bool
first_wanted true others = is_aggregate
first_wanted false [] = is_type
first_wanted false (other ∷ others) = is_aggregate

-- The scope in which a word is found is farther out than this one: that it isn't found there, or in a scope on the way,
-- may be since a file that is seen can't be read.
pub record IsFartherFrom (files : List File) (file : ℕ) (admits : NameKind → Bool) (word from nearer : List ℕ)
    : Type 0 where
  pub start : List ℕ
  pub innermost : Innermost files file admits word from start
  pub passed : IsFartherOut nearer start

-- the full name of a file's package
abbrev pub package_name : Facts → List ℕ
package_name facts = package_of facts.package_name (length facts.package_name)

-- The scope is farther out than the package of the file with this number.
abbrev pub IsBeyondPackage : List File → (file : ℕ) → (start : List ℕ) → Type 0
IsBeyondPackage files file start =
    (facts : Facts) × HasFacts files file facts × IsFartherOut (package_name facts) start

-- The first word is found farther out than the file's package. (To a message's own scope no other file adds a name
-- without a clash.)
pub record IsFoundFarther (files : List File) (file : ℕ) (type_use : Use) : Type 0 where
  pub facts : Facts
  pub known : HasFacts files file facts
  pub word : List ℕ
  pub others : List (List ℕ)
  pub words_are : words_of type_use ≡ word ∷ others
  pub plain : type_use.has_leading_dot ≡ false
  pub farther : IsFartherFrom files file (first_wanted type_use.is_extended others) word type_use.scope
      (package_name facts)

-- the use names a type
abbrev pub HasTarget : List File → ℕ → Use → Type 0
HasTarget files file type_use = (name : List ℕ) × (owner : ℕ) × Names files file type_use name owner

-- the file with this number has no facts
pub record HasNoFacts (files : List File) (number : ℕ) : Type 0 where
  pub file : File
  pub numbered : slice_get files number ≡ Some file
  pub unread : file.facts ≡ None

-- the least of the files without facts that a file sees
pub record IsFirstUnread (files : List File) (file number : ℕ) : Type 0 where
  pub unread : HasNoFacts files number
  pub sees : Sees files file number
  pub least : (lesser : ℕ) → lesser < number → HasNoFacts files lesser → Sees files file lesser → ⊥

-- this first one, if the file sees one
abbrev pub IsFirstUnreadIf : List File → (file : ℕ) → Option ℕ → Type 0
IsFirstUnreadIf files file first = MatchOption first
    ((number : ℕ) → HasNoFacts files number → Sees files file number → ⊥) (IsFirstUnread files file)

-- the same of each of the first so many files, by its number
pub record AreFirstUnread (files : List File) (count : ℕ) (firsts : List (Option ℕ)) : Type 0 where
  pub one_each : length firsts ≡ count
  pub are : (file : ℕ) (first : Option ℕ) → slice_get firsts file ≡ Some first → IsFirstUnreadIf files file first

-- A use of a source names a type, but is found so far out that it may name another one once this file can be read: the
-- first of those that the source sees and that have no facts.
pub record IsUncertain (files : List File) (uncertain : UncertainUse) : Type 0 where
  pub source : IsSource files uncertain.place.file
  pub facts : Facts
  pub known : HasFacts files uncertain.place.file facts
  pub type_use : Use
  pub listed : Contains facts.uses type_use
  pub stands : uncertain.place.span ≡ type_use.span
  pub named : HasTarget files uncertain.place.file type_use
  pub farther : IsFoundFarther files uncertain.place.file type_use
  pub behind : IsFirstUnread files uncertain.place.file uncertain.behind
