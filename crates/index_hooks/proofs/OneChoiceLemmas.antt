-- Hooks whose promises allow one answer each allow one choice.
use Rattle.std.proofs.Common.{◌≡◌, ◌≢◌, inl, inr, Bool, true, false, List, [], ◌∷◌, ◌++◌, refl, sym, subst, ◌∙◌}
use Rattle.std.specs.Prelude.{All}
use Rattle.std.proofs.lemmas.List.Elements.{All-head, All-tail}
use Rattle.index_hooks.specs.declared.choice.DocChoice.{DocChoice}
use Rattle.index_hooks.specs.declared.choice.DocChoice.TheVariants.{Pass}
use Rattle.index_hooks.specs.MayChoose.{FirstOf, MayKeep, MayDocument, MayChoose}
use Rattle.index_hooks.specs.OneChoice.{AllowsOne, AreExact}
use Rattle.proto_decl.proofs.LawAncestorLemmas.{heads, tails}

-- of all hooks, at the first of them or behind it
all_at : {H : Type 0} (P : H → Type 0) (before : List H) (hook : H) (after : List H) → All P (before ++ hook ∷ after)
    → P hook
all_at P [] hook after all = All-head P hook after all
all_at P (x ∷ before) hook after all = all_at P before hook after (All-tail P x (before ++ hook ∷ after) all)

-- of two places in one list, before each of which P holds, one is the other, or P holds at one of them
data Places {H : Type 0} (P : H → Type 0) (hook other : H) : Type 0 where
  one : hook ≡ other → Places P hook other
  earlier : P hook → Places P hook other
  later : P other → Places P hook other

places : {H : Type 0} (P : H → Type 0) (before : List H) (hook : H) (after its : List H) (other : H) (rest : List H)
    → All P before → All P its → before ++ hook ∷ after ≡ its ++ other ∷ rest → Places P hook other
places P [] hook after [] other rest front its-front e = one (heads e)
places P [] hook after (x ∷ its) other rest front its-front e =
    earlier (subst P (sym (heads e)) (All-head P x its its-front))
places P (x ∷ before) hook after [] other rest front its-front e =
    later (subst P (heads e) (All-head P x before front))
places P (x ∷ before) hook after (y ∷ its) other rest front its-front e =
    places P before hook after its other rest (All-tail P x before front) (All-tail P y its its-front)
    (tails e)

module _ {F : Type 0} (may : F → Bool → Type 0) (filters : List F) (exact : All (λ f. AllowsOne (may f)) filters) where
  -- no filter may say both
  not_both : All (λ f. may f true) filters → FirstOf (λ f. may f true) (λ f. may f false) filters → ⊥
  not_both all first =
      let ones = subst (λ (fs : List F). All (λ f. AllowsOne (may f)) fs) first.hooks_are exact in
      let yes = subst (λ (fs : List F). All (λ f. may f true) fs) first.hooks_are all in
      let e : true ≡ false = all_at (λ f. AllowsOne (may f)) first.before first.hook first.after ones true false
      (all_at (λ f. may f true) first.before first.hook first.after yes) first.at_it in
      cc

  one_keep : AllowsOne (MayKeep may filters)
  one_keep true true a b = refl
  one_keep true false a b = absurd (not_both a b)
  one_keep false true a b = absurd (not_both b a)
  one_keep false false a b = refl

module _ {R : Type 0} (may : R → DocChoice → Type 0) (rules : List R) (exact : All (λ r. AllowsOne (may r)) rules) where
  -- what the rule at the place of the first answer allows
  exact_at : (doc : DocChoice) (first : FirstOf (λ r. may r Pass) (λ r. may r doc) rules) → AllowsOne (may first.hook)
  exact_at doc first = all_at (λ r. AllowsOne (may r)) first.before first.hook first.after
      (subst (λ (rs : List R). All (λ r. AllowsOne (may r)) rs) first.hooks_are exact)

  -- a rule that may pass gives no answer
  passes : (doc : DocChoice) (first : FirstOf (λ r. may r Pass) (λ r. may r doc) rules) → may first.hook Pass
      → doc ≡ Pass
  passes doc first pass = exact_at doc first doc Pass first.at_it pass

  one_answer : (doc other : DocChoice) → doc ≢ Pass → other ≢ Pass
      → FirstOf (λ r. may r Pass) (λ r. may r doc) rules → FirstOf (λ r. may r Pass) (λ r. may r other) rules
      → doc ≡ other
  one_answer doc other is also first second =
      elim (places (λ r. may r Pass) first.before first.hook first.after second.before second.hook second.after
      first.before_it second.before_it (sym first.hooks_are ∙ second.hooks_are)) [
        | one same ↦ exact_at doc first doc other first.at_it (subst (λ (r : R). may r other) (sym same) second.at_it)
        | earlier pass ↦ absurd (is (passes doc first pass))
        | later pass ↦ absurd (also (passes other second pass))
      ]

  -- an answer where all rules may pass
  all_pass : (doc : DocChoice) → doc ≢ Pass → FirstOf (λ r. may r Pass) (λ r. may r doc) rules
      → All (λ r. may r Pass) rules → ⊥
  all_pass doc is first all =
      is (passes doc first (all_at (λ r. may r Pass) first.before first.hook first.after
      (subst (λ (rs : List R). All (λ r. may r Pass) rs) first.hooks_are all)))

  one_doc : AllowsOne (MayDocument may rules)
  one_doc doc other (inl a) (inl b) = one_answer doc other a.0 b.0 a.1 b.1
  one_doc doc other (inl a) (inr b) = absurd (all_pass doc a.0 a.1 b.1)
  one_doc doc other (inr a) (inl b) = absurd (all_pass other b.0 b.1 a.1)
  one_doc doc other (inr a) (inr b) = a.0 ∙ sym b.0

pub one_choice : {F R : Type 0} (may_keep : F → Bool → Type 0) (may_document : R → DocChoice → Type 0)
    (filters : List F) (rules : List R)
    → AreExact may_keep may_document filters rules → AllowsOne (MayChoose may_keep may_document filters rules)
one_choice may_keep may_document filters rules exact choice other is also =
    let keep = one_keep may_keep filters exact.filters_are choice.keep other.keep is.keep also.keep in
    let doc = one_doc may_document rules exact.rules_are choice.doc other.doc is.doc also.doc in
    λ i. record { keep = keep i; doc = doc i }
