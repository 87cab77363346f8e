-- The descriptors of the entities that a proto3 tree has: files, packages and declarations (the profile's table).
use Rattle.std.specs.Prelude.{◌≢◌, ℕ, List, [], ◌∷◌, ◌++◌, codes, map, All}
use Rattle.proto_lex.specs.Lexes.{Spells}
use Rattle.proto_lex.specs.declared.token.TokenKind.TheVariants.{Identifier}
use Rattle.scip_symbol.specs.SpellsSymbol.{descriptor}
use Rattle.scip_symbol.specs.Package.{Package}
use Rattle.source_tree.specs.Path.{IsGoodPath}
use Rattle.proto_decl.specs.declared.declaration.DeclarationKind.{DeclarationKind}
use Rattle.proto_decl.specs.declared.declaration.DeclarationKind.TheVariants.{Message, Enum, Service, Field, Oneof}
use Rattle.proto_decl.specs.declared.declaration.DeclarationKind.TheVariants.{Value, Method}
use Rattle.proto_decl.specs.declared.declaration.DeclarationStep.{DeclarationStep}
use Rattle.scip_symbol.specs.declared.symbol.Suffix.{Suffix}
use Rattle.scip_symbol.specs.declared.symbol.Suffix.TheVariants as suffix
use Rattle.scip_symbol.specs.declared.symbol.Descriptor.{Descriptor}
use Rattle.scip_symbol.specs.declared.symbol.SymbolParts.{SymbolParts}
use Rattle.scip_symbol.specs.declared.symbol.SymbolParts.TheVariants.{Global}

-- a file by its path, a package by its components, and a declaration by its package and the path to it, outermost
-- first; its file's path may be before the package's components, if another file declares the same name
pub data Entity : Type 0 where
  OfFile : (path : List ℕ) → Entity
  OfPackage : (components : List (List ℕ)) → Entity
  OfDeclaration : (components : List (List ℕ)) → (path : List DeclarationStep) → Entity

-- messages, enums and services are types; fields and values are terms
abbrev pub suffix_of : DeclarationKind → Suffix
suffix_of Message = suffix.«Type»
suffix_of Enum = suffix.«Type»
suffix_of Service = suffix.«Type»
suffix_of Field = suffix.Term
suffix_of Value = suffix.Term
suffix_of Oneof = suffix.Meta
suffix_of Method = suffix.Method []

abbrev pub namespace_of : List ℕ → Descriptor
namespace_of name = descriptor name suffix.Namespace

abbrev pub step_descriptor : DeclarationStep → Descriptor
step_descriptor step = descriptor step.name (suffix_of step.kind)

abbrev pub descriptors_of : Entity → List Descriptor
descriptors_of (OfFile path) = namespace_of path ∷ []
descriptors_of (OfPackage components) = map namespace_of components
descriptors_of (OfDeclaration components path) = map namespace_of components ++ map step_descriptor path

abbrev pub scheme_text : List ℕ
scheme_text = codes "scip-protobuf"

-- the symbol with these descriptors in a package
abbrev pub global_in : Package → List Descriptor → SymbolParts
global_in p descriptors =
    Global (record {
      scheme = scheme_text;
      manager = p.manager;
      name = p.name;
      version = p.version;
      descriptors = descriptors;
    })

-- the entity's symbol, in the package that the settings name
abbrev pub symbol_in : Package → Entity → SymbolParts
symbol_in p entity = global_in p (descriptors_of entity)

-- an identifier of the lexical elements
abbrev pub IsIdentifier : List ℕ → Type 0
IsIdentifier = Spells Identifier

-- The namespaces before a declaration: those of its package; that of its file, which isn't empty, may be before them.
pub data AreNamespaces : List (List ℕ) → Type 0 where
  of_package : {components : List (List ℕ)} → All IsIdentifier components → AreNamespaces components
  of_file : {file : List ℕ} {components : List (List ℕ)} → file ≢ [] → All IsIdentifier components
      → AreNamespaces (file ∷ components)

-- a file's path is good, names are identifiers, and there is at least one component or step
abbrev pub IsEntity : Entity → Type 0
IsEntity (OfFile path) = IsGoodPath path
IsEntity (OfPackage components) = (components ≢ []) × All IsIdentifier components
IsEntity (OfDeclaration components path) =
    AreNamespaces components × (path ≢ []) × All (λ step. IsIdentifier step.name) path
