-- The packages and declarations of facts have symbols.
use Rattle.std.proofs.Common.{◌≡◌, ◌≢◌, ℕ, ◌<◌, ◌≤◌, Bool, true, false, cond, List, [], ◌∷◌, length, take, subst, arith}
use Rattle.std.specs.List.{list_any}
use Rattle.std.specs.Str.{bytes_eq}
use Rattle.std.specs.Prelude.{All, Contains}
use Rattle.std.proofs.lemmas.List.{take-map, length-map, length-take-le}
use Rattle.std.proofs.lemmas.List.Elements.{All-take, All-contains}
use Rattle.proto_decl.specs.Facts.{Facts}
use Rattle.proto_decl.specs.Laws.{component_names, AreNamed}
use Rattle.proto_decl.specs.declared.declaration.Declaration.{Declaration}
use Rattle.proto_decl.specs.declared.declaration.DeclarationStep.{DeclarationStep}
use Rattle.proto_decl.specs.declared.uses.Component.{Component}
use Rattle.scip_symbol.specs.Entities.{IsEntity, IsIdentifier, AreNamespaces}
use Rattle.scip_symbol.specs.Entities.AreNamespaces.{of_package, of_file}
use Rattle.scip_model.specs.Named.{package_at}
use Rattle.scip_model.specs.Repeated.{Home, declaration_in, outermost_name, file_namespace}
use Rattle.scip_model.proofs.RepeatedNamespaceLemmas.{namespace-some}

some-of : {A : Type 0} (xs : List A) → 0 < length xs → xs ≢ []
some-of [] h = absurd (omega arith)
some-of (x ∷ xs) h = λ e. cc

all-front : (count : ℕ) (components : List Component) → All IsIdentifier (component_names components)
    → All IsIdentifier (component_names (take count components))
all-front count components all =
    subst (All IsIdentifier) (take-map (λ (c : Component). c.name) count components)
    (All-take IsIdentifier count (component_names components) all)

-- the package of the first components
pub package-is : (facts : Facts) (count : ℕ) → AreNamed facts.package_name facts.declarations → 0 < count
    → count ≤ length facts.package_name → IsEntity (package_at facts count)
package-is facts count named some within =
    let front = take count facts.package_name in
    let names : length (component_names front) ≡ length front = length-map front (λ (c : Component). c.name) in
    let size : length front ≡ count = length-take-le count facts.package_name within in (
      some-of (component_names front) (omega (arith, names, size, some)),
      all-front count facts.package_name named.of_components,
    )

-- a declaration
pub declaration-is : (home : Home) (facts : Facts) (declaration : Declaration)
    → AreNamed facts.package_name facts.declarations → All (λ (d : Declaration). d.path ≢ []) facts.declarations
    → Contains facts.declarations declaration → IsEntity (declaration_in home facts declaration)
declaration-is home facts declaration named paths listed = (
  spaces (list_any (bytes_eq (outermost_name facts declaration)) home.repeated),
  All-contains (λ (d : Declaration). d.path ≢ []) facts.declarations declaration paths listed,
  All-contains (λ (d : Declaration). All (λ (step : DeclarationStep). IsIdentifier step.name) d.path) facts.declarations
      declaration named.of_steps listed,
)
  where
    spaces : (t : Bool) → AreNamespaces (cond t (file_namespace home.path ∷ component_names facts.package_name)
        (component_names facts.package_name))
    spaces true = of_file (namespace-some home.path) named.of_components
    spaces false = of_package named.of_components
