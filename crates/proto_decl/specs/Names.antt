-- Names and scopes (proto3 specification, "Identifiers"; proto3 language guide, "Packages and Name Resolution"),
-- and the numbers that full names are hashed by.
use Rattle.std.specs.Prelude.{ℕ, ◌≡◌, ◌<◌, ◌==◌, not, true, List, [], ◌∷◌, ◌++◌, length, take, map, ◌+◌, ◌*◌, ◌%◌, ◌^◌}
use Rattle.std.specs.Char.{to_ascii_lowercase}
use Rattle.std.specs.List.{join_with_byte, list_all, slice_split, fold}
use Rattle.proto_lex.specs.declared.span.Span.{Span}
use Rattle.proto_lex.specs.Lexed.{part_of}
use Rattle.proto_lex.specs.Ascii as ascii
use Rattle.proto_decl.specs.declared.uses.Component.{Component}

-- The full name of a name in the scope with this full name. The root's is empty.
abbrev pub qualified : (scope name : List ℕ) → List ℕ
qualified [] name = name
qualified (byte ∷ scope) name = (byte ∷ scope) ++ ascii.dot ∷ name

-- No byte is a dot.
abbrev pub HasNoDot : (name : List ℕ) → Type 0
HasNoDot name = list_all (λ byte. not (byte == ascii.dot)) name ≡ true

-- A simple name has bytes, of which none is a dot.
pub record IsSimple (name : List ℕ) : Type 0 where
  pub some : 0 < length name
  pub no_dot : HasNoDot name

-- The name with small letters for its capitals A to Z.
abbrev pub small_letters : (name : List ℕ) → List ℕ
small_letters name = map to_ascii_lowercase name

-- Components that are joined by dots.
abbrev pub dotted : List (List ℕ) → List ℕ
dotted components = join_with_byte ascii.dot components

-- The components of a full name, and the full name that its first ones make.
abbrev pub components_of : List ℕ → List (List ℕ)
components_of name = slice_split (λ byte. byte == ascii.dot) name

abbrev pub prefix_of : List ℕ → (count : ℕ) → List ℕ
prefix_of name count = dotted (take count (components_of name))

-- The package that the first components of a package's name make.
abbrev pub package_of : List Component → (count : ℕ) → List ℕ
package_of components count = dotted (map (λ component. component.name) (take count components))

-- A component of a name: what is at the span.
abbrev pub component_at : (text : List ℕ) → Span → Component
component_at text span = record { name = part_of text span; span = span }

abbrev pub components_at : (text : List ℕ) → List Span → List Component
components_at text spans = map (component_at text) spans

-- The scope around the one with this full name (proto3 language guide, "Packages and Name Resolution"): of a message or
-- a service the next message out or the package, of a package its parent package. Its full name is what is before the
-- last dot; where there is no dot it is that of the root, which has none around it.
pub data IsAround : (scope outer : List ℕ) → Type 0 where
  before_dot : {outer : List ℕ} (name : List ℕ) → HasNoDot name → IsAround (outer ++ ascii.dot ∷ name) outer
  root : {byte : ℕ} {name : List ℕ} → HasNoDot (byte ∷ name) → IsAround (byte ∷ name) []

-- ---- the number of a full name: its bytes are mixed in one by one, so that it is the same however the name is parted

abbrev pub hash64_byte : (hash64 byte : ℕ) → ℕ
hash64_byte hash64 byte = (hash64 * 1099511628211 % 2 ^ 64 + byte) % 2 ^ 64

abbrev pub hash64_on : (hash64 : ℕ) → List ℕ → ℕ
hash64_on hash64 bytes = fold hash64_byte hash64 bytes

abbrev pub hash64 : List ℕ → ℕ
hash64 name = hash64_on 0 name

-- that of a scope's full name with what comes before a name in the scope
abbrev pub hash64_front : (scope : List ℕ) → ℕ
hash64_front [] = 0
hash64_front (byte ∷ scope) = hash64_byte (hash64 (byte ∷ scope)) ascii.dot
