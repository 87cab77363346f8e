-- The uses of a file have components, where the names of its tree do.
use Rattle.std.proofs.Common.{ℕ, ◌<◌, Bool, List, [], ◌∷◌, length, map, subst, arith}
use Rattle.std.specs.List.{All}
use Rattle.std.proofs.lemmas.List.{length-map}
use Rattle.std.proofs.lemmas.List.Elements.{All-nil, All-cons, All-head, All-tail}
use Rattle.proto_parse.specs.tree.TypeName.{TypeName}
use Rattle.proto_parse.specs.tree.File.{File}
use Rattle.proto_parse.specs.Parts.{parts_of, types_of}
use Rattle.proto_parse.specs.Filled.{FilledTypeName, FilledPart}
use Rattle.proto_parse.proofs.PartLemmas.{items-all}
use Rattle.proto_decl.specs.Names.{component_at}
use Rattle.proto_decl.specs.Declares.{inside_part, file_surrounding}
use Rattle.proto_decl.specs.Uses.{use_of, is_extending, used_by, uses_of}
use Rattle.proto_decl.specs.declared.uses.Use.{Use}
use Rattle.proto_decl.proofs.WalkedLemmas.{uses_are}

-- a use has a component
abbrev pub IsFilled : Use → Type 0
IsFilled used = 0 < length used.components

names_filled : (is_extended : Bool) (text scope : List ℕ) (names : List TypeName) → All FilledTypeName names
    → All IsFilled (map (use_of is_extended text scope) names)
names_filled is_extended text scope [] all = All-nil IsFilled
names_filled is_extended text scope (name ∷ names) all =
    All-cons IsFilled (use_of is_extended text scope name) (map (use_of is_extended text scope) names)
    (omega (arith, All-head FilledTypeName name names all, length-map name.components (component_at text)))
    (names_filled is_extended text scope names (All-tail FilledTypeName name names all))

pub uses_filled : (text : List ℕ) (file : File) → All FilledPart (parts_of file) → All IsFilled (uses_of text file)
uses_filled text file filled =
    subst (λ (uses : List Use). All IsFilled uses) (uses_are text (file_surrounding text file) file.items)
    (items-all (inside_part text) (used_by text) FilledPart IsFilled
    (λ surrounding part some. names_filled (is_extending part) text surrounding.scope (types_of part) some)
    (file_surrounding text file) file.items filled)
