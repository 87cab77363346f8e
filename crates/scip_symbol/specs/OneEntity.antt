-- Facts in which no two declarations have one full name: there a symbol names one entity.
use Rattle.std.specs.Prelude.{◌≡◌, ◌≢◌, ℕ, List, [], ◌∷◌, ◌++◌, map, All, Contains}
use Rattle.std.specs.List.{flat_map}
use Rattle.proto_decl.specs.Laws.{component_names, AreHeld}
use Rattle.proto_decl.specs.Facts.{Facts}
use Rattle.proto_decl.specs.declared.declaration.DeclarationStep.{DeclarationStep}
use Rattle.proto_decl.specs.declared.declaration.Declaration.{Declaration}
use Rattle.scip_symbol.specs.Entities.{Entity, OfFile, OfPackage, OfDeclaration}

-- a declaration of a file with these facts
abbrev pub declaration_at : Facts → Declaration → Entity
declaration_at facts declaration = OfDeclaration (component_names facts.package_name) declaration.path

abbrev pub declarations_of : List Facts → List Entity
declarations_of files = flat_map (λ facts. map (declaration_at facts) facts.declarations) files

-- facts of files in which a full name is that of one declaration
pub record AreWithoutClash (files : List Facts) : Type 0 where
  pub held : All (λ facts. AreHeld facts.package_name facts.declarations) files
  pub one_name : (facts others : Facts) (d other : Declaration) → Contains files facts → Contains files others
      → Contains facts.declarations d → Contains others.declarations other
      → d.full_name ≡ other.full_name → declaration_at facts d ≡ declaration_at others other

-- What holds one of the declarations is one of them, too, and no two have one name that are held by the same, or are
-- outermost behind the same namespaces.
pub record IsWithoutClash (declarations : List Entity) : Type 0 where
  pub holder : (components : List (List ℕ)) (outer inner : List DeclarationStep) → outer ≢ []
      → Contains declarations (OfDeclaration components (outer ++ inner))
      → Contains declarations (OfDeclaration components outer)
  pub one_name : (components : List (List ℕ)) (outer : List DeclarationStep) (step other : DeclarationStep)
      → Contains declarations (OfDeclaration components (outer ++ step ∷ []))
      → Contains declarations (OfDeclaration components (outer ++ other ∷ [])) → step.name ≡ other.name → step ≡ other

-- if the entity is a declaration, it is one of these
abbrev pub IsAmong : (declarations : List Entity) → Entity → Type 0
IsAmong declarations (OfFile path) = Unit {0}
IsAmong declarations (OfPackage components) = Unit {0}
IsAmong declarations (OfDeclaration components path) = Contains declarations (OfDeclaration components path)
