-- Which choices promises allow for a declaration. A hook is a callback with its promise, of which only the answers that
-- the promise allows are known.
use Rattle.std.specs.Prelude.{◌≡◌, ◌≢◌, ◌⊎◌, Bool, true, false, List, ◌∷◌, ◌++◌, All}
use Rattle.index_hooks.specs.declared.choice.Choice.{Choice}
use Rattle.index_hooks.specs.declared.choice.DocChoice.{DocChoice}
use Rattle.index_hooks.specs.declared.choice.DocChoice.TheVariants.{Pass, Leading}

-- the choice if nobody is asked: the declaration is kept, with its leading text
pub record IsDefaultChoice (choice : Choice) : Type 0 where
  pub keep : choice.keep ≡ true
  pub doc : choice.doc ≡ Leading

-- one of the hooks meets `Here`, and all before it meet `Before`
pub record FirstOf {H : Type 0} (Before Here : H → Type 0) (hooks : List H) : Type 0 where
  pub before : List H
  pub hook : H
  pub after : List H
  pub hooks_are : hooks ≡ before ++ hook ∷ after
  pub before_it : All Before before
  pub at_it : Here hook

-- a declaration is kept if all filters may answer true, and isn't if one may answer false and all before it true
abbrev pub MayKeep : {H : Type 0} → (H → Bool → Type 0) → List H → Bool → Type 0
MayKeep may filters true = All (λ f. may f true) filters
MayKeep may filters false = FirstOf (λ f. may f true) (λ f. may f false) filters

-- the choice isn't Pass, one rule may give it and all before it may pass; or it is Leading, and all may pass
abbrev pub MayDocument : {H : Type 0} → (H → DocChoice → Type 0) → List H → DocChoice → Type 0
MayDocument may rules doc =
    ((doc ≢ Pass) × FirstOf (λ r. may r Pass) (λ r. may r doc) rules)
    ⊎ ((doc ≡ Leading) × All (λ r. may r Pass) rules)

pub record MayChoose {F R : Type 0} (may_keep : F → Bool → Type 0) (may_document : R → DocChoice → Type 0)
    (filters : List F) (rules : List R) (choice : Choice) : Type 0 where
  pub keep : MayKeep may_keep filters choice.keep
  pub doc : MayDocument may_document rules choice.doc
