-- Promises that allow one answer each, and the one choice that they then allow.
use Rattle.std.specs.Prelude.{◌≡◌, Bool, List, All}
use Rattle.proto_decl.specs.Values.{Seen}
use Rattle.index_hooks.specs.declared.choice.Choice.{Choice}
use Rattle.index_hooks.specs.declared.choice.DocChoice.{DocChoice}

-- one answer at most is allowed
abbrev pub AllowsOne : {A : Type 0} → (A → Type 0) → Type 0
AllowsOne {A} allows = (answer other : A) → allows answer → allows other → answer ≡ other

-- the promise of each filter and of each rule allows one answer at most
pub record AreExact {F R : Type 0} (may_keep : F → Bool → Type 0) (may_document : R → DocChoice → Type 0)
    (filters : List F) (rules : List R) : Type 0 where
  pub filters_are : All (λ f. AllowsOne (may_keep f)) filters
  pub rules_are : All (λ r. AllowsOne (may_document r)) rules

-- if all promises are so for what is seen of a declaration, only one choice may come for it
abbrev pub OneChoice : (are_exact : Seen → Type 0) (allows : Seen → Choice → Type 0) → Type 0
OneChoice are_exact allows = (seen : Seen) → are_exact seen → AllowsOne (allows seen)
