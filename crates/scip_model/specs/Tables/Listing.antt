-- The occurrences of a document, list by list: each list is in order of place.
use Rattle.std.specs.Prelude.{◌≡◌, ℕ, ◌+◌, Bool, true, false, if◌then◌else◌, Option, Some, None, List, [], ◌∷◌, ◌++◌}
use Rattle.std.specs.Prelude.{take, not, ◌&&◌, Result, Ok, Err, IsErr}
use Rattle.std.specs.List.{slice_get, list_any}
use Rattle.std.specs.Str.{bytes_eq}
use Rattle.std.specs.Option.{option_and_then, option_map}
use Rattle.std.specs.declared.alloc.AllocError.{AllocError}
use Rattle.proto_lex.specs.declared.span.Span.{Span}
use Rattle.proto_lex.specs.declared.position.Encoding.{Encoding}
use Rattle.scip_records.specs.declared.records.Occurrence.{Occurrence}
use Rattle.index_hooks.specs.declared.choice.Choice.{Choice}
use Rattle.proto_decl.specs.Names.{components_of}
use Rattle.proto_decl.specs.Facts.{Facts}
use Rattle.proto_decl.specs.declared.imports.Imported.{Imported}
use Rattle.proto_decl.specs.declared.declaration.Declaration.{Declaration}
use Rattle.proto_decl.specs.declared.uses.Component.{Component}
use Rattle.proto_decl.specs.declared.uses.Use.{Use}
use Rattle.scip_symbol.specs.Entities.{OfFile, OfPackage}
use Rattle.scip_symbol.specs.Entities as symbols
use Rattle.scip_symbol.specs.Package.{Package}
use Rattle.proto_visibility.specs.Files.{File}
use Rattle.proto_link.specs.declared.target.Target.{Target}
use Rattle.proto_visibility.specs.declared.lookup.Entity.{Entity}
use Rattle.proto_visibility.specs.declared.lookup.Entity.TheVariants as link
use Rattle.proto_visibility.specs.declared.fault.LinkFault.{LinkFault}
use Rattle.proto_visibility.specs.declared.fault.LinkFault.TheVariants as fault
use Rattle.scip_model.specs.Packages.{Packages, package_of_path, package_of_part}
use Rattle.scip_model.specs.Chosen.{Chosen}
use Rattle.scip_model.specs.Named.{HasDeclaration, Home, text_of, package_at, declaration_in, home_of_file}
use Rattle.scip_model.specs.Detailed.{detail_at}
use Rattle.scip_model.specs.Occurs.{definition_over, occurrence_over, start_of_text, no_role, definition_role}
use Rattle.scip_model.specs.Occurs.{import_role}

-- What each item of a list gives, by its index, one after the other.
abbrev pub each_from : {A B : Type 0} → (ℕ → A → List B) → (index : ℕ) → List A → List B
each_from gives index [] = []
each_from gives index (x ∷ xs) = gives index x ++ each_from gives (index + 1) xs

-- the target that was found for a use
abbrev pub found_at : Option (Option Target) → Option Target
found_at None = None
found_at (Some found) = found

-- whether some file that isn't left out has this path
abbrev pub has_path : List File → List ℕ → Bool
has_path files path = list_any (λ file. bytes_eq path file.path && not file.is_left_out) files

-- What is found by the linker's answer: nothing if the use names no type. Only want of memory stays a fault.
abbrev pub Finds : Result Target LinkFault → Result (Option Target) AllocError → Type 0
Finds (Ok target) found = found ≡ Ok (Some target)
Finds (Err (fault.Unresolved place)) found = found ≡ Ok None
Finds (Err (fault.Ambiguous place)) found = found ≡ Ok None
Finds (Err (fault.Broken number)) found = IsErr found
Finds (Err (fault.Duplicate first second)) found = IsErr found
Finds (Err (fault.MissingImport place)) found = IsErr found
Finds (Err fault.Memory) found = IsErr found

-- what the components of a use name for which this was found
abbrev pub parts_of : Option Target → List Entity
parts_of None = []
parts_of (Some target) = target.parts

-- the place of a use for which nothing was found
abbrev pub unless_found : Option Target → Span → List Span
unless_found None span = span ∷ []
unless_found (Some target) span = []

abbrev pub unresolved_use_at : List (Option Target) → ℕ → Use → List Span
unresolved_use_at found index type_use = unless_found (found_at (slice_get found index)) type_use.span

-- whether the choice keeps a declaration
abbrev pub keeps_by : Option Choice → Bool
keeps_by None = false
keeps_by (Some choice) = choice.keep

abbrev pub keeps : Chosen → (file index : ℕ) → Bool
keeps chosen file index =
    keeps_by (option_and_then (λ (of_file : List Choice). slice_get of_file index) (slice_get chosen file))

abbrev pub is_shown : Chosen → Entity → Bool
is_shown chosen (link.Package count) = true
is_shown chosen (link.Declared file index) = keeps chosen file index

abbrev pub declared_in : Home → Facts → (index : ℕ) → Option symbols.Entity
declared_in home facts index = option_map (declaration_in home facts) (slice_get facts.declarations index)

abbrev pub declared_by : List File → Packages → (file index : ℕ) → Option symbols.Entity
declared_by files ids file index =
    option_and_then (λ (f : File). option_and_then
    (λ (facts : Facts). declared_in (home_of_file files ids file) facts index) f.facts) (slice_get files file)

-- what a part of a full name names
abbrev pub entity_of : List File → Packages → (name : List ℕ) → Entity → Option symbols.Entity
entity_of files ids name (link.Package count) = Some (OfPackage (take count (components_of name)))
entity_of files ids name (link.Declared file index) = declared_by files ids file index

-- it has a symbol
abbrev pub IsNameable : List File → (name : List ℕ) → Entity → Type 0
IsNameable files name (link.Package count) = symbols.IsEntity (OfPackage (take count (components_of name)))
IsNameable files name (link.Declared file index) =
    (facts : Facts) × (declared : Declaration) × HasDeclaration files file index facts declared

abbrev pub AreNameable : List File → Target → Type 0
AreNameable files target = (index : ℕ) (part : Entity) → slice_get target.parts index ≡ Some part
    → IsNameable files target.name part

-- the file's own
abbrev pub own_occurrence : Package → (path : List ℕ) → Occurrence
own_occurrence id path =
    record {
      range = start_of_text;
      symbol = text_of id (OfFile path);
      symbol_roles = definition_role;
      enclosing_range = None;
    }

-- with the package of what occurs
module _ (id : Package) (encoding : Encoding) (text : List ℕ) where
  abbrev pub at_package : Facts → ℕ → Component → List Occurrence
  at_package facts index component =
      occurrence_over encoding text id component.span (package_at facts (index + 1)) definition_role ∷ []

  abbrev pub at_entity : Span → Option symbols.Entity → List Occurrence
  at_entity span None = []
  at_entity span (Some entity) = occurrence_over encoding text id span entity no_role ∷ []

-- with that of their file
abbrev pub at_declaration : Home → Encoding → (text : List ℕ) → Chosen → (file : ℕ) → Facts → ℕ → Declaration
    → List Occurrence
at_declaration home encoding text chosen file facts index declared =
    if keeps chosen file index then definition_over encoding text home facts declared
    (detail_at facts index) ∷ [] else []

-- with that of the file that is named
module _ (ids : Packages) (encoding : Encoding) (text : List ℕ) where
  abbrev pub at_import : List File → ℕ → Imported → List Occurrence
  at_import files index imported =
      if has_path files imported.path then occurrence_over encoding text (package_of_path ids imported.path)
      imported.span (OfFile imported.path) import_role ∷ [] else []

  module _ (files : List File) (chosen : Chosen) where
    abbrev pub at_part : (name : List ℕ) → Span → Option Entity → List Occurrence
    at_part name span None = []
    at_part name span (Some part) =
        if is_shown chosen part then at_entity (package_of_part files ids part) encoding text span
        (entity_of files ids name part) else []

    abbrev pub at_component : Target → ℕ → Component → List Occurrence
    at_component target index component = at_part target.name component.span (slice_get target.parts index)

    abbrev pub at_target : Option Target → Use → List Occurrence
    at_target None type_use = []
    at_target (Some target) type_use = each_from (at_component target) 0 type_use.components

    abbrev pub at_use : List (Option Target) → ℕ → Use → List Occurrence
    at_use found index type_use = at_target (found_at (slice_get found index)) type_use
