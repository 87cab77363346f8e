-- From the scope of a use declarations lead out to its file's package.
use Rattle.std.proofs.Common.{sym, subst, ℕ, zero, suc, ◌<◌, List, [], ◌∷◌, length, arith, length-append}
use Rattle.std.specs.List.{All, Contains}
use Rattle.std.proofs.lemmas.List.Elements.{All-contains}
use Rattle.proto_decl.specs.Names.{IsAround, package_of, qualified}
use Rattle.proto_decl.specs.Facts.{Facts}
use Rattle.proto_decl.specs.Laws.{IsScope, StandsInScope}
use Rattle.proto_decl.specs.Laws.IsScope.{of_package, of_declaration}
use Rattle.proto_decl.specs.declared.declaration.Declaration.{Declaration}
use Rattle.proto_decl.proofs.ScopeLemmas.{around-qualified}
use Rattle.proto_link.proofs.UncertainLemmas.{whole_package}

-- the scope is the package, or that of a declaration in such a scope
pub data IsInPackage (facts : Facts) : List ℕ → Type 0 where
  outermost : IsInPackage facts (package_of facts.package_name (length facts.package_name))
  inner : {declaration : Declaration} {outer : List ℕ} → Contains facts.declarations declaration
      → IsAround declaration.full_name outer → length outer < length declaration.full_name
      → IsInPackage facts outer → IsInPackage facts declaration.full_name

longer : (scope name : List ℕ) → 0 < length name → length scope < length (qualified scope name)
longer [] name some = some
longer (byte ∷ scope) name some = omega (arith, length-append (byte ∷ scope) (46 ∷ name))

module _ (facts : Facts) (stand : All (StandsInScope facts) facts.declarations) where
  below : (most : ℕ) (full : List ℕ) → IsScope facts full → length full < most → IsInPackage facts full
  below zero full scope less = absurd (omega (arith, less))
  below (suc most) _ (of_package) less =
      subst (λ (name : List ℕ). IsInPackage facts name) (sym (whole_package facts.package_name)) outermost
  below (suc most) _ (of_declaration {declaration} listed) less =
      let stands = All-contains (StandsInScope facts) facts.declarations declaration stand listed in
      let more : length stands.scope < length declaration.full_name =
      subst (λ (name : List ℕ). length stands.scope < length name) (sym stands.full)
      (longer stands.scope stands.name stands.simple.some) in
      inner listed
      (subst (λ (name : List ℕ). IsAround name stands.scope) (sym stands.full)
      (around-qualified stands.scope stands.name stands.simple.some stands.simple.no_dot)) more
      (below most stands.scope stands.stands (omega (arith, less, more)))

  pub in_package : (full : List ℕ) → IsScope facts full → IsInPackage facts full
  in_package full scope = below (suc (length full)) full scope (omega arith)
