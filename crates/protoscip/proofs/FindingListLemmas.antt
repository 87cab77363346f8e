-- Lists by their places, and what is found in them.
use Rattle.std.proofs.Common.{◌≡◌, ◌∙◌, ℕ, zero, suc, List, [], ◌∷◌, Some, ap}
use Rattle.std.specs.Prelude.{Bool, true, false, cond, Contains}
use Rattle.std.specs.List.{slice_get, filter, find}
use Rattle.std.proofs.lemmas.Option.{same_Some, none-some}
use Rattle.std.proofs.lemmas.List.Elements.{All-contains, All-contains_itself, All-filter, filter_passes}
use Rattle.basics.proofs.ListLemmas.{behind_it}
use Rattle.basics.proofs.FirstLemmas.{contained}

module _ {X : Type 0} (test : X → Bool) where
  -- what a filter lets through,
  pub filtered : (xs : List X) (x : X) → Contains (filter test xs) x → Contains xs x × (test x ≡ true)
  filtered xs x there = (
    All-contains (Contains xs) (filter test xs) x (All-filter test (Contains xs) xs (All-contains_itself xs)) there,
    All-contains (λ (y : X). test y ≡ true) (filter test xs) x (filter_passes test xs) there,
  )

  -- and all of it
  pub kept : (xs : List X) (k : ℕ) (x : X) → slice_get xs k ≡ Some x → test x ≡ true → Contains (filter test xs) x
  kept [] k x at passes = absurd (none-some x at)
  kept (y ∷ ys) zero x at passes =
      let first : test y ≡ true = ap test (same_Some y x at) ∙ passes in
      rw first (contained (y ∷ filter test ys) zero x at)
  kept (y ∷ ys) (suc k) x at passes =
      let others = kept ys k x at passes in
      elim (test y) as (λ b. Contains (cond b (y ∷ filter test ys) (filter test ys)) x)
      [ true ↦ behind_it y (filter test ys) x others | false ↦ others ]

  -- what is found is there
  pub found : (xs : List X) (x : X) → find test xs ≡ Some x → Contains xs x
  found [] x is = absurd (none-some x is)
  found (y ∷ ys) x is =
      (elim (test y) as (λ b. cond b (Some y) (find test ys) ≡ Some x → Contains (y ∷ ys) x) [
        | true ↦ λ e. contained (y ∷ ys) zero x e
        | false ↦ λ e. behind_it y ys x (found ys x e)
      ]) is
