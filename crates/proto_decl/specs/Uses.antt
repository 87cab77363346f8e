-- Which types a file uses, in order of place (proto3 specification, "Fields" and "Service definition"; proto2
-- specification, "Extend"). A scalar type isn't a use. The field of a group has no use of its type: the group declares
-- it there.
use Rattle.std.specs.Prelude.{ℕ, Bool, true, false, Option, Some, None, List, map}
use Rattle.std.specs.List.{flat_map}
use Rattle.std.specs.Option.{is_some}
use Rattle.proto_lex.specs.declared.span.Span.{Span}
use Rattle.proto_parse.specs.tree.TypeName.{TypeName}
use Rattle.proto_parse.specs.tree.FileItem.{FileItem}
use Rattle.proto_parse.specs.tree.File.{File}
use Rattle.proto_parse.specs.Parts.{Part, types_of, placed_parts}
use Rattle.proto_parse.specs.Parts.Part.{BlockPart}
use Rattle.proto_decl.specs.Names.{components_at}
use Rattle.proto_decl.specs.Imports.{start_of, end_of}
use Rattle.proto_decl.specs.Declares.{inside_part, file_surrounding}
use Rattle.proto_decl.specs.declared.surrounding.Surrounding.{Surrounding}
use Rattle.proto_decl.specs.declared.uses.Use.{Use}

-- where a type's name starts: its leading dot, if there is one, or its first component
abbrev pub name_start : Option Span → List Span → ℕ
name_start None components = start_of components
name_start (Some dot) components = dot.start

-- The use of a type in the scope with this full name, by an `extend` or not.
abbrev pub use_of : (is_extended : Bool) → (text scope : List ℕ) → TypeName → Use
use_of is_extended text scope name = record {
  components = components_at text name.components;
  has_leading_dot = is_some name.leading_dot;
  is_extended = is_extended;
  span = record { start = name_start name.leading_dot name.components; end = end_of name.components };
  scope = scope;
}

-- Whether a part extends the type that it names. Of blocks only an `extend` names one.
abbrev pub is_extending : Part → Bool
is_extending (BlockPart head) = true
is_extending _ = false

-- What a part uses: each type that it names, in the scope around it.
abbrev pub used_by : (text : List ℕ) → Surrounding → Part → List Use
used_by text surrounding part = map (use_of (is_extending part) text surrounding.scope) (types_of part)

-- All that items use that this surrounds, part by part.
abbrev pub uses_in : (text : List ℕ) → Surrounding → List FileItem → List Use
uses_in text surrounding items =
    flat_map (λ placed. used_by text placed.around placed.part) (placed_parts (inside_part text) surrounding items)

-- All uses of a file.
abbrev pub uses_of : (text : List ℕ) → File → List Use
uses_of text file = uses_in text (file_surrounding text file) file.items
