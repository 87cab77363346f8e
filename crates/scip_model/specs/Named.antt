-- The entities that have symbols, as the linker's files give them.
use Rattle.std.specs.Prelude.{◌≡◌, ℕ, Some, List, take, Contains}
use Rattle.std.specs.List.{slice_get}
use Rattle.proto_decl.specs.Names.{components_of}
use Rattle.proto_decl.specs.Facts.{Facts}
use Rattle.proto_decl.specs.Laws.{component_names}
use Rattle.proto_decl.specs.declared.declaration.Declaration.{Declaration}
use Rattle.proto_decl.specs.declared.uses.Component.{Component}
use Rattle.proto_decl.specs.declared.uses.Use.{Use}
use Rattle.scip_symbol.specs.Entities.{OfPackage, symbol_in}
use Rattle.scip_symbol.specs.Entities as symbols
use Rattle.scip_symbol.specs.Package.{Package}
use Rattle.scip_symbol.specs.SymbolText.{symbol_text}
use Rattle.proto_visibility.specs.Files.{File, HasFacts}
use Rattle.proto_link.specs.Targets.{IsTarget}
use Rattle.proto_visibility.specs.declared.lookup.Entity.{Entity}
use Rattle.proto_visibility.specs.declared.lookup.Entity.TheVariants as link
use Rattle.proto_link.specs.declared.target.Target.{Target}
use Rattle.scip_model.specs.Packages.{Packages}
pub use Rattle.scip_model.specs.Repeated.{Home, declaration_in, home_of_file}

-- a declaration of one of the files, by the file's number and its own
pub record HasDeclaration (files : List File) (file index : ℕ) (facts : Facts)
    (declaration : Declaration) : Type 0 where
  pub has_facts : HasFacts files file facts
  pub numbered : slice_get facts.declarations index ≡ Some declaration

-- the text of an entity's symbol, in a package (`scip.proto`, Symbol)
unfoldable pub text_of : Package → symbols.Entity → List ℕ
text_of id entity = symbol_text (symbol_in id entity)

-- the package of the first components of a file's package name
abbrev pub package_at : Facts → (count : ℕ) → symbols.Entity
package_at facts count = OfPackage (component_names (take count facts.package_name))

-- the entity is that of a declaration, by the file's number and its own
pub record IsDeclaredAs (files : List File) (ids : Packages) (file index : ℕ) (entity : symbols.Entity) : Type 0 where
  pub facts : Facts
  pub declaration : Declaration
  pub has : HasDeclaration files file index facts declaration
  pub is : entity ≡ declaration_in (home_of_file files ids file) facts declaration

-- What a component of a use is the name of, of a use that resolves to this full name.
abbrev pub IsNamedAs : (files : List File) (ids : Packages) (name : List ℕ) → Entity → symbols.Entity → Type 0
IsNamedAs files ids name (link.Package count) entity = entity ≡ OfPackage (take count (components_of name))
IsNamedAs files ids name (link.Declared file index) entity = IsDeclaredAs files ids file index entity

-- A component of a use in a file names an entity: of the linker's, and of those that have symbols.
pub record NamesIn (files : List File) (ids : Packages) (file : ℕ) (component : Component) (part : Entity)
    (entity : symbols.Entity) : Type 0 where
  pub facts : Facts
  pub type_use : Use
  pub target : Target
  pub index : ℕ
  pub has_facts : HasFacts files file facts
  pub listed : Contains facts.uses type_use
  pub is_target : IsTarget files file type_use target
  pub component_is : slice_get type_use.components index ≡ Some component
  pub part_is : slice_get target.parts index ≡ Some part
  pub entity_is : IsNamedAs files ids target.name part entity
