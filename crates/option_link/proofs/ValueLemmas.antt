-- Values of enums, from what is found step by step.
use Rattle.std.proofs.Common.{◌≡◌, ◌↔◌, ℕ, Bool, List, ◌∷◌, [], ◌++◌, IsTrue, ap, ◌∙◌, subst}
use Rattle.proto_decl.specs.Names.{IsAround}
use Rattle.proto_decl.specs.declared.declaration.Declaration.{Declaration}
use Rattle.proto_decl.specs.declared.declaration.DeclarationKind.TheVariants.{Value}
use Rattle.proto_decl.specs.declared.declaration.DeclarationStep.{DeclarationStep}
use Rattle.proto_decl.proofs.ScopeLemmas.{one_around}
use Rattle.proto_visibility.specs.Files.{File}
use Rattle.option_link.specs.declared.place.DeclaredPlace.{DeclaredPlace}
use Rattle.option_link.specs.Places.{Stands}
use Rattle.option_link.specs.Found.{IsValueIn, IsValueNamed, IsValueOf}
use Rattle.option_link.proofs.LoopLemmas.{iff_as}
use Rattle.option_link.proofs.PlaceLemmas.{same_declaration}

pub value_named_to : (files : List File) (type : DeclaredPlace) (word : List ℕ) (outer : Declaration)
    → Stands files type outer → (scope : List ℕ) → IsAround outer.full_name scope → (value : DeclaredPlace)
    → IsValueOf files type word value → IsValueNamed files type.file outer scope word value
value_named_to files type word outer stands scope around value x =
    let same = same_declaration files type x.outer outer x.of_enum stands in
    let its = subst (λ (d : Declaration). IsAround d.full_name x.scope) same x.around in
    subst (λ (s : List ℕ). IsValueNamed files type.file outer s word value) (one_around its around)
    (subst (λ (d : Declaration). IsValueNamed files type.file d x.scope word value) same x.named)

module _ (files : List File) (outer : Declaration) (place : DeclaredPlace) (d : Declaration)
    (stands : Stands files place d) where
  pub no_value_in : (d.kind ≡ Value → ⊥) → IsValueIn files outer place → ⊥
  no_value_in not x = not (ap (λ (e : Declaration). e.kind) (same_declaration files place d x.inner stands x.stands)
      ∙ x.is)

  pub value_in : (is : Bool) → d.kind ≡ Value
      → (IsTrue is ↔ ((step : DeclarationStep) × (d.path ≡ outer.path ++ step ∷ [])))
      → IsTrue is ↔ IsValueIn files outer place
  value_in is kind iff = iff_as is ((step : DeclarationStep) × (d.path ≡ outer.path ++ step ∷ []))
      (IsValueIn files outer place)
      (λ its. record { inner = d; stands = stands; is = kind; step = its.0; path = its.1 })
      (λ x. (
        x.step,
        ap (λ (e : Declaration). e.path) (same_declaration files place d x.inner stands x.stands)
            ∙ x.path,
      )) iff
