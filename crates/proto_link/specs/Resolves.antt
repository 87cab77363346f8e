-- What a use of a type names (proto3 language guide, "Packages and Name Resolution"; that names which aren't types,
-- or aggregates, are passed by, and that the innermost aggregate decides, is the profile's).
use Rattle.std.specs.Prelude.{ℕ, Bool, true, false, List, [], ◌∷◌, map}
use Rattle.proto_decl.specs.Names.{qualified, dotted, IsAround}
use Rattle.proto_decl.specs.declared.uses.Use.{Use}
use Rattle.proto_visibility.specs.Files.{File}
use Rattle.proto_visibility.specs.Knows.{NameKind, is_type, is_message, is_aggregate, KnowsAs}

-- The innermost scope, from this one outwards, in which the file knows the word as one of these.
pub data Innermost (files : List File) (file : ℕ) (admits : NameKind → Bool) (word : List ℕ) : (from found : List ℕ)
    → Type 0 where
  here : {scope : List ℕ}
      → KnowsAs files file admits (qualified scope word) → Innermost files file admits word scope scope
  farther : {scope outer found : List ℕ}
      → (KnowsAs files file admits (qualified scope word) → ⊥) → IsAround scope outer
      → Innermost files file admits word outer found
      → Innermost files file admits word scope found

-- What a use may name: a type, but a message if an `extend` extends it (proto2 specification, "Extend").
abbrev pub wanted : (is_extended : Bool) → NameKind → Bool
wanted true = is_message
wanted false = is_type

-- By the words of the use, whether an `extend` extends what it names, whether a dot leads, and its scope: the full name
-- of the type that it names.
pub data ResolvesIn (files : List File) (file : ℕ)
    : (is_extended has_dot : Bool) → (words : List (List ℕ)) → (from name : List ℕ) → Type 0 where
  -- a leading dot: the rest is a full name
  absolute : {is_extended : Bool} {words : List (List ℕ)} {from : List ℕ}
      → KnowsAs files file (wanted is_extended) (dotted words)
      → ResolvesIn files file is_extended true words from (dotted words)
  -- one component: the innermost scope in which it is a type
  single : {word scope from : List ℕ}
      → Innermost files file is_type word from scope
      → ResolvesIn files file false false (word ∷ []) from (qualified scope word)
  -- one that is extended: the innermost scope in which it is an aggregate; there it is a message
  extended : {word scope from : List ℕ}
      → Innermost files file is_aggregate word from scope
      → KnowsAs files file is_message (qualified scope word)
      → ResolvesIn files file true false (word ∷ []) from (qualified scope word)
  -- more: the innermost scope in which the first is an aggregate; the whole name from there is a type
  compound : {is_extended : Bool} {first second scope from : List ℕ} {others : List (List ℕ)}
      → Innermost files file is_aggregate first from scope
      → KnowsAs files file (wanted is_extended) (qualified scope (dotted (first ∷ (second ∷ others))))
      → ResolvesIn files file is_extended false (first ∷ (second ∷ others)) from
      (qualified scope (dotted (first ∷ (second ∷ others))))

abbrev pub words_of : Use → List (List ℕ)
words_of type_use = map (λ component. component.name) type_use.components

-- the full name of the type that a use of this file names
abbrev pub Resolves : List File → ℕ → Use → List ℕ → Type 0
Resolves files file type_use name =
    ResolvesIn files file type_use.is_extended type_use.has_leading_dot (words_of type_use) type_use.scope name
