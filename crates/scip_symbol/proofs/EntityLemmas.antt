-- The symbols of entities have spellings, and name one entity each.
use Rattle.std.proofs.Common.{◌≡◌, ◌≢◌, ℕ, List, [], ◌∷◌, ◌++◌, codes, map, refl, ap, sym, ◌∙◌, subst}
use Rattle.std.specs.Prelude.{All}
use Rattle.std.proofs.lemmas.Bool.{eqb-false}
use Rattle.std.proofs.lemmas.List.Elements.{All-cons, All-nil, All-head, All-tail, All-append}
use Rattle.proto_lex.specs.Lexes.{identifier, sign}
use Rattle.source_tree.specs.Path.{IsGoodPath}
use Rattle.scip_symbol.specs.Parts.{IsScheme, IsPart, IsSuffix, IsDescriptor, IsGlobal}
use Rattle.scip_symbol.specs.Package.{Package, IsPackage}
use Rattle.scip_symbol.specs.Entities.{Entity, OfFile, OfPackage, OfDeclaration, suffix_of, namespace_of}
use Rattle.scip_symbol.specs.Entities.{step_descriptor, descriptors_of, scheme_text, IsIdentifier, IsEntity}
use Rattle.scip_symbol.specs.Entities.{AreNamespaces}
use Rattle.scip_symbol.specs.Entities.AreNamespaces.{of_package, of_file}
use Rattle.proto_decl.specs.declared.declaration.DeclarationKind.{DeclarationKind}
use Rattle.proto_decl.specs.declared.declaration.DeclarationKind.TheVariants.{Message, Enum, Service, Field, Oneof}
use Rattle.proto_decl.specs.declared.declaration.DeclarationKind.TheVariants.{Value, Method}
use Rattle.proto_decl.specs.declared.declaration.DeclarationStep.{DeclarationStep}
use Rattle.scip_symbol.specs.declared.symbol.Descriptor.{Descriptor}

-- ---- an entity's descriptors are a symbol's

behind-none : {A : Type 0} (xs : List A) (b : A) (rest : List A) → xs ++ (b ∷ rest) ≢ []
behind-none [] b rest = λ e. cc
behind-none (x ∷ xs) b rest = λ e. cc

path-some : (path : List ℕ) → IsGoodPath path → path ≢ []
path-some path is = λ e. behind-none is.name 46 (codes "proto") (sym is.ending ∙ e)

identifier-some : (name : List ℕ) → IsIdentifier name → name ≢ []
identifier-some name (identifier h t) = λ e. cc
identifier-some name (sign h) = λ e. cc

kind-suffix : (kind : DeclarationKind) → IsSuffix (suffix_of kind)
kind-suffix Message = tt
kind-suffix Enum = tt
kind-suffix Service = tt
kind-suffix Field = tt
kind-suffix Oneof = tt
kind-suffix Value = tt
kind-suffix Method = refl

namespaces-are : (components : List (List ℕ)) → All IsIdentifier components
    → All IsDescriptor (map namespace_of components)
namespaces-are [] h = All-nil IsDescriptor
namespaces-are (x ∷ xs) h =
    All-cons IsDescriptor (namespace_of x) (map namespace_of xs)
    (record { name = identifier-some x (All-head IsIdentifier x xs h); suffix = tt })
    (namespaces-are xs (All-tail IsIdentifier x xs h))

IsNamed : DeclarationStep → Type 0
IsNamed step = IsIdentifier step.name

steps-are : (path : List DeclarationStep) → All (λ step. IsIdentifier step.name) path
    → All IsDescriptor (map step_descriptor path)
steps-are [] h = All-nil IsDescriptor
steps-are (x ∷ xs) h =
    All-cons IsDescriptor (step_descriptor x) (map step_descriptor xs)
    (record {
      name = identifier-some x.name (All-head (λ (step : DeclarationStep). IsIdentifier step.name) x xs h);
      suffix = kind-suffix x.kind;
    })
    (steps-are xs (All-tail (λ (step : DeclarationStep). IsIdentifier step.name) x xs h))

map-some : {A B : Type 0} (f : A → B) (xs : List A) → xs ≢ [] → map f xs ≢ []
map-some f [] h = absurd (h refl)
map-some f (x ∷ xs) h = λ e. cc

append-some : {A : Type 0} (xs ys : List A) → ys ≢ [] → xs ++ ys ≢ []
append-some xs [] h = absurd (h refl)
append-some xs (y ∷ ys) h = behind-none xs y ys

spaces-are : {components : List (List ℕ)} → AreNamespaces components → All IsDescriptor (map namespace_of components)
spaces-are (of_package {components = components} all) = namespaces-are components all
spaces-are (of_file {file = file} {components = components} some all) =
    All-cons IsDescriptor (namespace_of file) (map namespace_of components) (record { name = some; suffix = tt })
    (namespaces-are components all)

entity-is : (e : Entity) → IsEntity e → (descriptors_of e ≢ []) × All IsDescriptor (descriptors_of e)
entity-is (OfFile path) is = (
  λ e. cc,
  All-cons IsDescriptor (namespace_of path) [] (record { name = path-some path is; suffix = tt })
      (All-nil IsDescriptor),
)
entity-is (OfPackage components) is = (map-some namespace_of components is.0, namespaces-are components is.1)
entity-is (OfDeclaration components path) is = (
  append-some (map namespace_of components) (map step_descriptor path) (map-some step_descriptor path is.1),
  All-append IsDescriptor (map namespace_of components) (map step_descriptor path) (spaces-are is.0)
      (steps-are path is.2),
)

pub entity-has : (e : Entity) (ds : List Descriptor) → IsEntity e → ds ≡ descriptors_of e
    → (ds ≢ []) × All IsDescriptor ds
entity-has e ds is same = subst (λ (l : List Descriptor). (l ≢ []) × All IsDescriptor l) (sym same) (entity-is e is)

first_byte : List ℕ → ℕ
first_byte [] = 0
first_byte (b ∷ rest) = b

scheme-starts : (rest : List ℕ) → scheme_text ≡ codes "local" ++ rest → ⊥
unfolding first_byte
scheme-starts rest e = eqb-false 115 108 refl (ap first_byte e)

scheme-is : IsScheme scheme_text
scheme-is = record { some = λ e. cc; no_space_first = λ rest e. cc; not_local = scheme-starts }

pub global-is : (p : Package) (s m n v : List ℕ) (ds own : List Descriptor) → IsPackage p → s ≡ scheme_text
    → m ≡ p.manager → n ≡ p.name → v ≡ p.version
    → ds ≡ own → own ≢ [] → All IsDescriptor own
    → IsGlobal (record { scheme = s; manager = m; name = n; version = v; descriptors = ds })
global-is p s m n v ds own is es em en ev ed some good = record {
  scheme = subst IsScheme (sym es) scheme-is;
  manager = subst IsPart (sym em) is.manager;
  name = subst IsPart (sym en) is.name;
  version = subst IsPart (sym ev) is.version;
  some = subst (λ (l : List Descriptor). l ≢ []) (sym ed) some;
  descriptors = subst (λ (l : List Descriptor). All IsDescriptor l) (sym ed) good;
}
