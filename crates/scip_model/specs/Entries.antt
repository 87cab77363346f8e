-- The symbol entries of the document of a source, and those of included files (`scip.proto`, SymbolInformation; which
-- symbols have one, the texts that document them, and the names that they are shown by, is the profile's).
use Rattle.std.specs.Prelude.{ℕ, Option, List, [], ◌++◌, ◌≡◌, ◌+◌, true, Some}
use Rattle.std.specs.List.{slice_get}
use Rattle.proto_decl.specs.declared.declaration.Declaration.{Declaration}
use Rattle.proto_decl.specs.declared.detail.Detail.{Detail}
use Rattle.proto_decl.specs.Declares.{simple_name}
use Rattle.proto_decl.specs.Names.{package_of}
use Rattle.proto_decl.specs.Facts.{Facts}
use Rattle.proto_decl.specs.declared.uses.Component.{Component}
use Rattle.proto_visibility.specs.Files.{File, HasFacts, IsSource}
use Rattle.proto_visibility.specs.declared.lookup.Entity.TheVariants as link
use Rattle.index_hooks.specs.declared.choice.DocChoice.{DocChoice}
use Rattle.index_hooks.specs.declared.choice.DocChoice.TheVariants.{Pass, Nothing, Leading, Trailing, Both}
use Rattle.index_hooks.specs.declared.choice.Choice.{Choice}
use Rattle.scip_symbol.specs.Entities.{OfFile}
use Rattle.scip_symbol.specs.Package.{Package}
use Rattle.scip_symbol.specs.Entities as symbols
use Rattle.scip_records.specs.declared.records.SymbolInformation.{SymbolInformation}
use Rattle.scip_model.specs.Packages.{Packages, package_of_file}
use Rattle.scip_model.specs.Chosen.{Chosen, IsChosen}
use Rattle.scip_model.specs.Detailed.{detail_at, details_in, details_with, file_kind, kind_if_asked, package_kind}
use Rattle.scip_model.specs.Named.{HasDeclaration, NamesIn, Home, text_of, package_at, declaration_in, home_of_file}
-- an empty text is left out
pub use Rattle.scip_records.specs.Texts.{unless_empty}

-- the texts that document a declaration (`scip.proto`, SymbolInformation.documentation; which they are is the
-- profile's)
abbrev pub documentation_of : DocChoice → Declaration → List (List ℕ)
documentation_of Pass declaration = []
documentation_of Nothing declaration = []
documentation_of Leading declaration = unless_empty declaration.leading
documentation_of Trailing declaration = unless_empty declaration.trailing
documentation_of Both declaration = unless_empty declaration.leading ++ unless_empty declaration.trailing

-- of a file, shown by its path, with its kind if details are asked for
abbrev pub file_entry : Package → (path : List ℕ) → Option (List Detail) → SymbolInformation
file_entry id path details = record {
  symbol = text_of id (OfFile path);
  documentation = [];
  display_name = path;
  details = kind_if_asked details file_kind;
}

-- of the package of the first components of a file's package name, shown by its full name
abbrev pub package_entry : Package → Facts → (count : ℕ) → SymbolInformation
package_entry id facts count = record {
  symbol = text_of id (package_at facts count);
  documentation = [];
  display_name = package_of facts.package_name count;
  details = kind_if_asked facts.details package_kind;
}

-- of a declaration, with the texts chosen for it, shown by its simple name, and with its details if they are asked for
abbrev pub declaration_entry : Home → Facts → Declaration → Option Detail → Choice → SymbolInformation
declaration_entry home facts declared detail choice = record {
  symbol = text_of home.id (declaration_in home facts declared);
  documentation = documentation_of choice.doc declared;
  display_name = simple_name declared.path;
  details = details_with home facts declared detail;
}

-- the entry of a declaration that is kept, by its file's number and its own
pub record IsKeptEntry (files : List File) (chosen : Chosen) (ids : Packages) (file index : ℕ)
    (entry : SymbolInformation) : Type 0 where
  pub facts : Facts
  pub declaration : Declaration
  pub choice : Choice
  pub has : HasDeclaration files file index facts declaration
  pub is_chosen : IsChosen chosen file index choice
  pub keeps : choice.keep ≡ true
  pub is : entry ≡ declaration_entry (home_of_file files ids file) facts declaration
      (detail_at facts index) choice

-- The entries of a source: the file, each component of its package's name, and each declaration that is kept.
pub data HasEntry (files : List File) (chosen : Chosen) (ids : Packages) (source : ℕ) : SymbolInformation → Type 0 where
  of_file : {file : File} → slice_get files source ≡ Some file
      → HasEntry files chosen ids source (file_entry (package_of_file files ids source) file.path (details_in file))
  of_package : {facts : Facts} (index : ℕ) {component : Component} → HasFacts files source facts
      → slice_get facts.package_name index ≡ Some component
      → HasEntry files chosen ids source (package_entry ids.run facts (index + 1))
  of_declaration : (index : ℕ) {entry : SymbolInformation} → IsKeptEntry files chosen ids source index entry
      → HasEntry files chosen ids source entry

-- The external entries (`scip.proto`, Index.external_symbols): each declaration of an included file that is kept, and
-- that a component of a use in a source names.
pub record HasExternal (files : List File) (chosen : Chosen) (ids : Packages) (entry : SymbolInformation) : Type 0 where
  pub source : ℕ
  pub is_source : IsSource files source
  pub component : Component
  pub entity : symbols.Entity
  pub number : ℕ
  pub index : ℕ
  pub names : NamesIn files ids source component (link.Declared number index) entity
  pub file : File
  pub numbered : slice_get files number ≡ Some file
  pub included : file.is_included ≡ true
  pub kept : IsKeptEntry files chosen ids number index entry
