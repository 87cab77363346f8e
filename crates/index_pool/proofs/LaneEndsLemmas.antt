-- What the ends of a lane show, step after step.
use Rattle.std.proofs.Common.{◌≡◌, ℕ, ◌<◌, ◌≤◌, true, false, List, [], ◌∷◌, ◌++◌, refl, sym, ap, ◌∙◌, subst, arith}
use Rattle.index_pool.specs.declared.lanes.ends.LaneOwner.{LaneOwner}
use Rattle.index_pool.specs.declared.lanes.ends.LaneThief.{LaneThief}
use Rattle.index_pool.specs.Lane.{lane_view, lane_numbers, more_popped, more_stolen}
use Rattle.index_pool.specs.LaneEnds.{owner_view, owner_deque, thief_view, thief_deque, tries_left}
use Rattle.index_pool.specs.Tables.PhaseSteps.{AllBelow, FreshOwner, FreshThief, PoppedMore, StoleMore}
use Rattle.std.proofs.lemmas.List.Elements.{All-weaker}
use Rattle.index_pool.proofs.LaneNumbersLemmas.{lane_below}

-- one more number was popped
pub popped_one : (o p : LaneOwner) (k : ℕ) → owner_deque p ≡ owner_deque o
    → owner_view p ≡ more_popped (owner_view o) (k ∷ []) → PoppedMore o p
popped_one o p k deque e = let v = owner_view o in (
  deque,
  e ∙ (ap (λ b. lane_view b v.steals v.given (v.popped ++ k ∷ []) v.stolen) o.owns
      ∙ ap (λ xs. lane_view true v.steals v.given xs v.stolen) (sym (ap (λ w. w.popped) e))),
)

pub popped_trans : (o p q : LaneOwner) → PoppedMore o p → PoppedMore p q → PoppedMore o q
popped_trans o p q a b = let xs = (owner_view q).popped in
    (b.0 ∙ a.0, b.1 ∙ ap (λ v. lane_view true v.steals v.given xs v.stolen) a.1)

pub popped_given : (o p : LaneOwner) → PoppedMore o p → (owner_view p).given ≡ (owner_view o).given
popped_given o p a = ap (λ v. v.given) a.1

pub popped_below : (n : ℕ) (o p : LaneOwner) → PoppedMore o p → AllBelow n (owner_view o).given
    → AllBelow n (owner_view p).given
popped_below n o p a below = subst (AllBelow n) (sym (popped_given o p a)) below

pub stole_none : (t : LaneThief) → StoleMore t t
stole_none t = let v = thief_view t in (refl, ap (λ b. lane_view v.owns b v.given v.popped v.stolen) t.steals)

-- one more number was stolen
pub stole_one : (t u : LaneThief) (k : ℕ) → thief_deque u ≡ thief_deque t
    → thief_view u ≡ more_stolen (thief_view t) (k ∷ []) → StoleMore t u
stole_one t u k deque e = let v = thief_view t in (
  deque,
  e ∙ (ap (λ b. lane_view v.owns b v.given v.popped (v.stolen ++ k ∷ [])) t.steals
      ∙ ap (λ xs. lane_view v.owns true v.given v.popped xs) (sym (ap (λ w. w.stolen) e))),
)

-- a thief that shows the same
pub stole_same : (t u w : LaneThief) → StoleMore t u → thief_deque w ≡ thief_deque u → thief_view w ≡ thief_view u
    → StoleMore t w
stole_same t u w a deque e = let v = thief_view t in
    (deque ∙ a.0, e ∙ (a.1 ∙ ap (λ xs. lane_view v.owns true v.given v.popped xs) (sym (ap (λ x. x.stolen) e))))

-- the ends of a lane from which nothing was taken yet
pub fresh_owner : (n lanes w : ℕ) (o : LaneOwner) → owner_view o ≡ lane_view true false (lane_numbers n lanes w) [] []
    → FreshOwner n o
fresh_owner n lanes w o e = let given = ap (λ v. v.given) e in
    (e ∙ ap (λ g. lane_view true false g [] []) (sym given), subst (AllBelow n) (sym given) (lane_below n lanes w))

pub fresh_thief : (n lanes w : ℕ) (t : LaneThief) → thief_view t ≡ lane_view false true (lane_numbers n lanes w) [] []
    → tries_left t ≡ 64 → FreshThief n t
fresh_thief n lanes w t e tries = let given = ap (λ v. v.given) e in (
  e ∙ ap (λ g. lane_view false true g [] []) (sym given),
  subst (AllBelow n) (sym given) (lane_below n lanes w),
  tries,
)

-- an end that is fresh for fewer numbers is so for more
pub below_more_inputs : (n m : ℕ) (xs : List ℕ) → n ≤ m → AllBelow n xs → AllBelow m xs
below_more_inputs n m xs le = All-weaker (λ k. k < n) (λ k. k < m) (λ k below. omega arith) xs
