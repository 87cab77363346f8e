-- How a name in parentheses or in brackets is looked up (protoc 3.21, `LookupSymbol`; proto3 language guide, "Packages
-- and Name Resolution"): as a use of a type is, but one component takes the innermost scope that has anything of that
-- name, and what is named has to be a field.
use Rattle.std.specs.Prelude.{ℕ, Bool, true, false, List, [], ◌∷◌}
use Rattle.proto_decl.specs.Names.{qualified, dotted}
use Rattle.proto_decl.specs.declared.declaration.DeclarationKind.TheVariants.{Message, Enum, Service, Field, Oneof}
use Rattle.proto_decl.specs.declared.declaration.DeclarationKind.TheVariants.{Value, Method}
use Rattle.proto_visibility.specs.Files.{File}
use Rattle.proto_visibility.specs.Knows.{NameKind, KnowsAs, is_type, is_message, is_aggregate}
use Rattle.proto_visibility.specs.Knows.NameKind.{OfPackage, OfDeclaration}
use Rattle.proto_link.specs.Resolves.{Innermost}
use Rattle.option_link.specs.declared.sought.Sought.{Sought}
use Rattle.option_link.specs.declared.sought.Sought.TheVariants.{Anything, AField, AMessage, AType, AnAggregate}

-- whatever has a name
abbrev pub is_any : NameKind → Bool
is_any _ = true

abbrev pub is_field : NameKind → Bool
is_field OfPackage = false
is_field (OfDeclaration Message) = false
is_field (OfDeclaration Enum) = false
is_field (OfDeclaration Service) = false
is_field (OfDeclaration Field) = true
is_field (OfDeclaration Oneof) = false
is_field (OfDeclaration Value) = false
is_field (OfDeclaration Method) = false

-- what a name is looked up as, for the code
abbrev pub admits : Sought → NameKind → Bool
admits Anything kind = is_any kind
admits AField kind = is_field kind
admits AMessage kind = is_message kind
admits AType kind = is_type kind
admits AnAggregate kind = is_aggregate kind

-- By its words, whether a dot leads, and the scope from which it is looked up: the full name of the field.
pub data LooksUp (files : List File) (file : ℕ)
    : (has_dot : Bool) → (words : List (List ℕ)) → (from name : List ℕ) → Type 0 where
  -- a leading dot: the rest is a full name
  absolute : {words : List (List ℕ)} {from : List ℕ}
      → KnowsAs files file is_field (dotted words) → LooksUp files file true words from (dotted words)
  -- one component: the innermost scope that has anything of that name; there it is a field
  single : {word scope from : List ℕ}
      → Innermost files file is_any word from scope → KnowsAs files file is_field (qualified scope word)
      → LooksUp files file false (word ∷ []) from (qualified scope word)
  -- more: the innermost scope in which the first is an aggregate; the whole name from there is a field
  compound : {first second scope from : List ℕ} {others : List (List ℕ)}
      → Innermost files file is_aggregate first from scope
      → KnowsAs files file is_field (qualified scope (dotted (first ∷ (second ∷ others))))
      → LooksUp files file false (first ∷ (second ∷ others)) from
      (qualified scope (dotted (first ∷ (second ∷ others))))

-- The only full name that it may have, be that known or not.
pub data LooksFor (files : List File) (file : ℕ)
    : (has_dot : Bool) → (words : List (List ℕ)) → (from name : List ℕ) → Type 0 where
  absolute : {words : List (List ℕ)} {from : List ℕ} → LooksFor files file true words from (dotted words)
  single : {word scope from : List ℕ}
      → Innermost files file is_any word from scope
      → LooksFor files file false (word ∷ []) from (qualified scope word)
  compound : {first second scope from : List ℕ} {others : List (List ℕ)}
      → Innermost files file is_aggregate first from scope
      → LooksFor files file false (first ∷ (second ∷ others)) from
      (qualified scope (dotted (first ∷ (second ∷ others))))
