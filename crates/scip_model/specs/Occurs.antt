-- What occurs in the document of a source: exactly this, whatever its order (`scip.proto`, Occurrence and SymbolRole;
-- which symbols occur, and the file's own range, is the profile's).
use Rattle.std.specs.Prelude.{◌≡◌, ℕ, ◌+◌, ℤ, pos, Option, Some, None, List, Contains}
use Rattle.std.specs.List.{slice_get}
use Rattle.proto_lex.specs.declared.span.Span.{Span}
use Rattle.proto_lex.specs.declared.position.Encoding.{Encoding}
use Rattle.proto_lex.specs.Position.{position_of}
use Rattle.scip_records.specs.Range.{RangeNumbers}
use Rattle.scip_records.specs.declared.records.Occurrence.{Occurrence}
use Rattle.proto_decl.specs.Facts.{Facts}
use Rattle.proto_decl.specs.declared.imports.Imported.{Imported}
use Rattle.proto_decl.specs.declared.declaration.Declaration.{Declaration}
use Rattle.proto_decl.specs.declared.detail.Detail.{Detail}
use Rattle.proto_decl.specs.declared.uses.Component.{Component}
use Rattle.scip_symbol.specs.Entities.{OfFile}
use Rattle.scip_symbol.specs.Entities as symbols
use Rattle.scip_symbol.specs.Package.{Package}
use Rattle.proto_visibility.specs.Files.{File, HasFacts, HasPath}
use Rattle.proto_visibility.specs.declared.lookup.Entity.{Entity}
use Rattle.proto_visibility.specs.declared.lookup.Entity.TheVariants as link
use Rattle.scip_model.specs.Packages.{Packages, package_of_path, package_of_file, package_of_part}
use Rattle.scip_model.specs.Chosen.{Chosen, IsKeptDeclaration}
use Rattle.scip_model.specs.Detailed.{detail_at}
use Rattle.scip_model.specs.Named.{HasDeclaration, Home, NamesIn, text_of, package_at, declaration_in, home_of_file}

-- (`scip.proto`, SymbolRole: UnspecifiedSymbolRole, Definition and Import)
abbrev pub no_role : ℤ
no_role = pos 0

abbrev pub definition_role : ℤ
definition_role = pos 1

abbrev pub import_role : ℤ
import_role = pos 2

-- from where a span begins to where it ends (`scip.proto`, Occurrence.range)
abbrev pub range_over : Encoding → (text : List ℕ) → Span → RangeNumbers
range_over encoding text span = record {
  start_line = (position_of encoding text span.start).line;
  start_column = (position_of encoding text span.start).column;
  end_line = (position_of encoding text span.end).line;
  end_column = (position_of encoding text span.end).column;
}

abbrev pub start_of_text : RangeNumbers
start_of_text = record { start_line = 0; start_column = 0; end_line = 0; end_column = 0 }

-- A package that a component names occurs always, a declaration if it is kept.
abbrev pub IsShown : Chosen → Entity → Type 0
IsShown chosen (link.Package count) = Unit {0}
IsShown chosen (link.Declared file declaration) = IsKeptDeclaration chosen file declaration

-- an entity's symbol over a span
abbrev pub occurrence_over : Encoding → (text : List ℕ) → Package → Span → symbols.Entity → ℤ → Occurrence
occurrence_over encoding text id span entity roles =
    record {
      range = range_over encoding text span;
      symbol = text_of id entity;
      symbol_roles = roles;
      enclosing_range = None;
    }

-- over all of a declaration, if details are asked for (`scip.proto`, Occurrence.enclosing_range)
abbrev pub enclosing_with : Encoding → (text : List ℕ) → Option Detail → Option RangeNumbers
enclosing_with encoding text None = None
enclosing_with encoding text (Some detail) = Some (range_over encoding text detail.extent)

-- a declaration's symbol over its name
abbrev pub definition_over : Encoding → (text : List ℕ) → Home → Facts → Declaration → Option Detail → Occurrence
definition_over encoding text home facts declared detail = record {
  range = range_over encoding text declared.name;
  symbol = text_of home.id (declaration_in home facts declared);
  symbol_roles = definition_role;
  enclosing_range = enclosing_with encoding text detail;
}

-- What occurs in the document of a source, which has this text.
pub data Occurs (files : List File) (chosen : Chosen) (ids : Packages) (encoding : Encoding) (source : ℕ)
    (text : List ℕ) : Occurrence → Type 0 where
  -- the file itself
  of_file : {file : File} → slice_get files source ≡ Some file
      → Occurs files chosen ids encoding source text
      (record {
        range = start_of_text;
        symbol = text_of (package_of_file files ids source) (OfFile file.path);
        symbol_roles = definition_role;
        enclosing_range = None;
      })
  -- each file that it imports, over the literals, if it is there
  of_import : {facts : Facts} {imported : Imported} → HasFacts files source facts → Contains facts.imports imported
      → HasPath files imported.path
      → Occurs files chosen ids encoding source text
      (occurrence_over encoding text (package_of_path ids imported.path) imported.span (OfFile imported.path)
      import_role)
  -- each component of its package's name: the package up to it
  of_package : {facts : Facts} (index : ℕ) {component : Component} → HasFacts files source facts
      → slice_get facts.package_name index ≡ Some component
      → Occurs files chosen ids encoding source text
      (occurrence_over encoding text ids.run component.span (package_at facts (index + 1)) definition_role)
  -- each declaration that is kept, over its name
  of_declaration : {facts : Facts} (index : ℕ) {declared : Declaration}
      → HasDeclaration files source index facts declared → IsKeptDeclaration chosen source index
      → Occurs files chosen ids encoding source text
      (definition_over encoding text (home_of_file files ids source) facts declared (detail_at facts index))
  -- each component of a use that names a package, or a declaration that is kept
  of_component : {component : Component} {part : Entity} {entity : symbols.Entity}
      → NamesIn files ids source component part entity → IsShown chosen part
      → Occurs files chosen ids encoding source text
      (occurrence_over encoding text (package_of_part files ids part) component.span entity no_role)
