-- Which lists of a tree are never empty: the components of its names, and the literals of its imports.
use Rattle.std.specs.Prelude.{◌<◌, Option, Some, None, List, length, All}
use Rattle.proto_lex.specs.declared.span.Span.{Span}
use Rattle.proto_grammar.specs.declared.tree.TypeName.{TypeName}
use Rattle.proto_grammar.specs.declared.tree.Import.{Import}
use Rattle.proto_grammar.specs.declared.tree.File.{File}
use Rattle.proto_parse.specs.Parts.{Part, types_of, parts_of}

abbrev pub HasSome : List Span → Type 0
HasSome spans = 0 < length spans

abbrev pub FilledTypeName : TypeName → Type 0
FilledTypeName name = HasSome name.components

abbrev pub FilledPart : Part → Type 0
FilledPart part = All FilledTypeName (types_of part)

abbrev pub FilledPackage : Option (List Span) → Type 0
FilledPackage None = Unit {0}
FilledPackage (Some components) = HasSome components

abbrev pub FilledImport : Import → Type 0
FilledImport import = HasSome import.literals

pub record FilledFile (file : File) : Type 0 where
  pub package_name : FilledPackage file.package_name
  pub imports : All FilledImport file.imports
  pub parts : All FilledPart (parts_of file)
