-- What is found of the types of uses, one after the other.
use Rattle.std.proofs.Common.{◌≡◌, inl, inr, List, [], ◌∷◌, ◌++◌, subst}
use Rattle.std.specs.List.{Contains}
use Rattle.std.proofs.lemmas.List.Elements.{Contains-push_cases}
use Rattle.basics.proofs.ListLemmas.{in_nothing}
use Rattle.proto_visibility.specs.Files.{File}
use Rattle.option_link.specs.Typed.{AreTypesFound, IsTypeFound}
use Rattle.option_link.specs.declared.types.FoundType.{FoundType}

pub no_types : (files : List File) (types : List FoundType) → types ≡ [] → AreTypesFound files types
no_types files types none one there =
    absurd (in_nothing one (subst (λ (ts : List FoundType). Contains ts one) none there))

pub type_more : (files : List File) (types new : List FoundType) (its : FoundType)
    → IsTypeFound files its.file its.start its.found → new ≡ types ++ its ∷ [] → AreTypesFound files types
    → AreTypesFound files new
type_more files types new its is made so_far one there =
    elim (Contains-push_cases types its one (subst (λ (ts : List FoundType). Contains ts one) made there)) [
      | inl before ↦ so_far one before
      | inr same ↦ subst (λ (o : FoundType). IsTypeFound files o.file o.start o.found) same is
    ]
