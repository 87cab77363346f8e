-- Each step at a deque keeps the lane's rule.
use Rattle.std.proofs.Common.{◌≡◌, ◌≢◌, ℕ, zero, suc, ◌+◌, ◌≤◌, true, false, true≢false, List, [], ◌∷◌, ◌++◌, length}
use Rattle.std.proofs.Common.{set, sym, refl, ap, ◌∙◌, subst, ⊎_elim, append_assoc, append-nil, length-append, arith}
use Rattle.std.proofs.Common.{All, Contains}
use Rattle.std.specs.List.Sorted.{IsPermutation}
use Rattle.std.proofs.lemmas.List.Sorted.{IsPermutation-refl, IsPermutation-append_left, IsPermutation-append_right}
use Rattle.std.proofs.lemmas.List.Sorted.{IsPermutation-append_comm, IsPermutation-trans, length_permutation}
use Rattle.std.proofs.lemmas.List.Elements.{All-contains_itself, All-weaker, Contains-append_left}
use Rattle.std.proofs.lemmas.List.Elements.{Contains-append_right}
use mathlib.Core.Option.{some, some-ne-none}
use lib.ListN.{get_elem?}
use Rattle.crossbeam_deque.specs.Tasks.{Pushes, Takes, Finds, FindsFew, Forks, Merges}
use Rattle.crossbeam_deque.proofs.Lists.{at_set, at_snoc}
use Rattle.index_pool.specs.declared.lanes.rule.LaneView.{LaneView}
use Rattle.index_pool.specs.Lane.{IsLane, lane_view, more_given, more_popped, more_stolen, Fits, HoldsLane}
use Rattle.index_pool.specs.Lane.{OwnerFinds, ThiefFinds}

at_end : (l : List LaneView) (a b : LaneView) (j : ℕ) → get_elem? l j ≢ some b → get_elem? (l ++ a ∷ []) j ≡ some b
    → j ≡ length l
at_end [] a b zero n e = refl
at_end [] a b (suc j) n e = absurd (some-ne-none b (sym e))
at_end (x ∷ xs) a b zero n e = absurd (n e)
at_end (x ∷ xs) a b (suc j) n e = ap suc (at_end xs a b j n e)

-- what holds of the view of each party
abbrev OfEach : (ℕ → LaneView → Type 0) → List LaneView → Type 0
OfEach F views = (party : ℕ) (v : LaneView) → get_elem? views party ≡ some v → F party v

of_each_set : (F : ℕ → LaneView → Type 0) (views : List LaneView) (party : ℕ) (w : LaneView) → F party w
    → ((j : ℕ) (u : LaneView) → j ≢ party → get_elem? views j ≡ some u → F j u) → OfEach F (set views party w)
of_each_set F views party w mine others j u e =
    ⊎_elim (λ (x : (j ≡ party) × (w ≡ u)). subst (λ (y : ℕ × LaneView). F y.0 y.1) (λ i. (sym x.0 i, x.1 i)) mine)
    (λ (x : (j ≢ party) × (get_elem? views j ≡ some u)). others j u x.0 x.1) (at_set views party j w u e)

pub begins : HoldsLane [] (lane_view true true [] [] [] ∷ [])
begins = (
  0,
  0,
  [],
  [],
  [],
  ([], refl, IsPermutation-refl []),
  of_each_set (Fits 0 0 [] [] []) (lane_view true true [] [] [] ∷ []) 0 (lane_view true true [] [] [])
      ((λ _. (refl, refl, refl)), λ _. (refl, refl, refl))
      (λ j u other e. absurd (other (at_end [] _ u j (λ x. some-ne-none u (sym x)) e))),
)

-- numbers that join at the back
pub lane_given : (given queue popped stolen xs : List ℕ) → IsLane given queue popped stolen
    → IsLane (given ++ xs) (queue ++ xs) popped stolen
lane_given given queue popped stolen xs l = (l.0, ap (λ g. g ++ xs) l.1 ∙ append_assoc l.0 queue xs, l.2)

-- numbers that leave at the front, to one of the two lists
pub lane_popped : (given queue popped stolen xs : List ℕ) → IsLane given (xs ++ queue) popped stolen
    → IsLane given queue (popped ++ xs) stolen
lane_popped given queue popped stolen xs l = (
  l.0 ++ xs,
  l.1 ∙ sym (append_assoc l.0 xs queue),
  IsPermutation-trans _ _ _ (IsPermutation-append_left xs _ _ l.2)
      (subst (λ ys. IsPermutation ((popped ++ stolen) ++ xs) ys) (sym (append_assoc popped xs stolen))
      (subst (λ ys. IsPermutation ys (popped ++ (xs ++ stolen))) (sym (append_assoc popped stolen xs))
      (IsPermutation-append_right popped _ _ (IsPermutation-append_comm stolen xs)))),
)

pub lane_stolen : (given queue popped stolen xs : List ℕ) → IsLane given (xs ++ queue) popped stolen
    → IsLane given queue popped (stolen ++ xs)
lane_stolen given queue popped stolen xs l = (
  l.0 ++ xs,
  l.1 ∙ sym (append_assoc l.0 xs queue),
  subst (λ ys. IsPermutation (l.0 ++ xs) ys) (append_assoc popped stolen xs) (IsPermutation-append_left xs _ _ l.2),
)

-- what leaves at the front is among the numbers given
lane_contains : (given queue popped stolen xs : List ℕ) → IsLane given (xs ++ queue) popped stolen
    → All (Contains given) xs
lane_contains given queue popped stolen xs l =
    All-weaker (Contains xs) (Contains given)
    (λ x here. subst (λ g. Contains g x) (sym l.1)
    (Contains-append_right l.0 (xs ++ queue) x (Contains-append_left xs queue x here))) xs (All-contains_itself xs)

-- no more numbers are popped and stolen than were given
lane_counts : (given queue popped stolen : List ℕ) → IsLane given queue popped stolen
    → length popped + length stolen ≤ length given
lane_counts given queue popped stolen l =
    let a = ap length l.1 in
    let b = length-append l.0 queue in
    let c = length_permutation l.0 (popped ++ stolen) l.2 in
    let d = length-append popped stolen in omega arith

-- what a party knows of the queue
owner_finds : (owner thief : ℕ) (given queue popped stolen : List ℕ) (party : ℕ) (v : LaneView) → v.owns ≡ true
    → Fits owner thief given popped stolen party v → IsLane given queue popped stolen → OwnerFinds v queue
owner_finds owner thief given queue popped stolen party v owns fits lane =
    let own = fits.0 owns in (
      stolen,
      subst (λ g. IsLane g queue v.popped stolen) (sym own.1)
          (subst (λ p. IsLane given queue p stolen) (sym own.2) lane),
      λ may. sym (fits.1 may).2,
    )

thief_finds : (owner thief : ℕ) (given queue popped stolen : List ℕ) (party : ℕ) (v : LaneView) → v.steals ≡ true
    → Fits owner thief given popped stolen party v → IsLane given queue popped stolen → ThiefFinds v queue
thief_finds owner thief given queue popped stolen party v may fits lane =
    let rob = fits.1 may in (
      popped,
      subst (λ g. IsLane g queue popped v.stolen) (sym rob.1)
          (subst (λ p. IsLane given queue popped p) (sym rob.2) lane),
    )

pub gives : (party : ℕ) (v : LaneView) (xs : List ℕ) → v.owns ≡ true → v.steals ≡ true
    → Pushes HoldsLane party v xs (λ w. w ≡ more_given v xs)
gives party v xs owns steals queue views h at =
    let w : LaneView = more_given v xs in
    let mine = h.6 party v at in
    let own = mine.0 owns in
    let rob = mine.1 steals in (
      w,
      (
        h.0,
        h.1,
        h.2 ++ xs,
        h.3,
        h.4,
        lane_given h.2 queue h.3 h.4 xs h.5,
        of_each_set (Fits h.0 h.1 (h.2 ++ xs) h.3 h.4) views party w
            ((λ _. (own.0, ap (λ l. l ++ xs) own.1, own.2)), λ _. (rob.0, ap (λ l. l ++ xs) rob.1, rob.2))
            (λ j u other e. (
              (λ p. absurd (other (((h.6 j u e).0 p).0 ∙ sym own.0))),
              λ p. absurd (other (((h.6 j u e).1 p).0 ∙ sym rob.0)),
            )),
      ),
      refl,
    )

pub pops : (party : ℕ) (v : LaneView) → v.owns ≡ true
    → Takes HoldsLane party v 1
    (λ xs w. (w ≡ more_popped v xs) × All (Contains v.given) xs × (length (v.popped ++ xs) ≤ length v.given)
    × ((rest : List ℕ) × OwnerFinds v (xs ++ rest)))
pops party v owns xs queue views _ _ h at =
    let w : LaneView = more_popped v xs in
    let mine = h.6 party v at in
    let own = mine.0 owns in
    let lane = lane_popped h.2 queue h.3 h.4 xs h.5 in
    let count : length (v.popped ++ xs) ≤ length v.given =
    (let a = lane_counts h.2 queue (h.3 ++ xs) h.4 lane in let b = ap (λ l. length (l ++ xs)) own.2 in
    let c = ap length own.1 in omega arith) in (
      w,
      (
        h.0,
        h.1,
        h.2,
        h.3 ++ xs,
        h.4,
        lane,
        of_each_set (Fits h.0 h.1 h.2 (h.3 ++ xs) h.4) views party w
            ((λ _. (own.0, own.1, ap (λ l. l ++ xs) own.2)), mine.1)
            (λ j u other e. ((λ p. absurd (other (((h.6 j u e).0 p).0 ∙ sym own.0))), (h.6 j u e).1)),
      ),
      (
        refl,
        subst (λ g. All (Contains g) xs) (sym own.1) (lane_contains h.2 queue h.3 h.4 xs h.5),
        count,
        (queue, owner_finds h.0 h.1 h.2 (xs ++ queue) h.3 h.4 party v owns mine h.5),
      ),
    )

pub steals : (party : ℕ) (v : LaneView) → v.steals ≡ true
    → Takes HoldsLane party v 1
    (λ xs w. (w ≡ more_stolen v xs) × All (Contains v.given) xs × (length (v.stolen ++ xs) ≤ length v.given)
    × ((rest : List ℕ) × ThiefFinds v (xs ++ rest)))
steals party v may xs queue views _ _ h at =
    let w : LaneView = more_stolen v xs in
    let mine = h.6 party v at in
    let rob = mine.1 may in
    let lane = lane_stolen h.2 queue h.3 h.4 xs h.5 in
    let count : length (v.stolen ++ xs) ≤ length v.given =
    (let a = lane_counts h.2 queue h.3 (h.4 ++ xs) lane in let b = ap (λ l. length (l ++ xs)) rob.2 in
    let c = ap length rob.1 in omega arith) in (
      w,
      (
        h.0,
        h.1,
        h.2,
        h.3,
        h.4 ++ xs,
        lane,
        of_each_set (Fits h.0 h.1 h.2 h.3 (h.4 ++ xs)) views party w
            (mine.0, λ _. (rob.0, rob.1, ap (λ l. l ++ xs) rob.2))
            (λ j u other e. ((h.6 j u e).0, λ p. absurd (other (((h.6 j u e).1 p).0 ∙ sym rob.0)))),
      ),
      (
        refl,
        subst (λ g. All (Contains g) xs) (sym rob.1) (lane_contains h.2 queue h.3 h.4 xs h.5),
        count,
        (queue, thief_finds h.0 h.1 h.2 (xs ++ queue) h.3 h.4 party v may mine h.5),
      ),
    )

pub finds : (party : ℕ) (v : LaneView) → v.owns ≡ true
    → Finds HoldsLane party v (OwnerFinds v [] × (v.steals ≡ true → IsPermutation v.given (v.popped ++ v.stolen)))
finds party v owns views h at =
    let mine = h.6 party v at in
    let found = owner_finds h.0 h.1 h.2 [] h.3 h.4 party v owns mine h.5 in (
      found,
      λ may. (
          let given : v.given ≡ found.1.0 = found.1.1 ∙ append-nil found.1.0 in
          subst (λ l. IsPermutation v.given (v.popped ++ l)) (found.2 may)
          (subst (λ l. IsPermutation l (v.popped ++ found.0)) (sym given) found.1.2)),
    )

none_of_few : (queue : List ℕ) (most : ℕ) → most ≡ 0 → length queue ≤ most → queue ≡ []
none_of_few [] most none few = refl
none_of_few (x ∷ xs) most none few = absurd (omega arith)

pub finds_few : (most party : ℕ) (v : LaneView) → most ≡ 0 → v.steals ≡ true
    → FindsFew HoldsLane most party v (ThiefFinds v [])
finds_few most party v none may queue views few h at =
    thief_finds h.0 h.1 h.2 [] h.3 h.4 party v may (h.6 party v at)
    (subst (λ q. IsLane h.2 q h.3 h.4) (none_of_few queue most none few) h.5)

pub forks : (party : ℕ) (v : LaneView) → v.owns ≡ true → v.steals ≡ true
    → Forks HoldsLane party v (lane_view true false v.given v.popped []) (lane_view false true v.given [] v.stolen)
forks party v owns may queue views h at =
    let l : LaneView = lane_view true false v.given v.popped [] in
    let r : LaneView = lane_view false true v.given [] v.stolen in
    let mine = h.6 party v at in
    let own = mine.0 owns in
    let rob = mine.1 may in
    let vs : List LaneView = set views party l in
    let Old : ℕ → LaneView → Type 0 =
    λ j u. (u.owns ≡ true → (j ≡ h.0) × (u.given ≡ h.2) × (u.popped ≡ h.3)) × (u.steals ≢ true) in
    let old : OfEach Old vs =
    of_each_set Old views party l ((λ _. own), λ p. true≢false (sym p))
    (λ j u other e. ((h.6 j u e).0, λ p. other (((h.6 j u e).1 p).0 ∙ sym rob.0))) in (
      h.0,
      length vs,
      h.2,
      h.3,
      h.4,
      h.5,
      λ j u e. ⊎_elim (λ x. ((old j u x).0, λ p. absurd ((old j u x).1 p)))
          (λ (is : r ≡ u). (
            (λ p. absurd (true≢false (sym (ap (λ (y : LaneView). y.owns) is ∙ p)))),
            λ p. (
              at_end vs r u j (λ x. (old j u x).1 p) e,
              ap (λ (y : LaneView). y.given) (sym is) ∙ rob.1,
              ap (λ (y : LaneView). y.stolen) (sym is) ∙ rob.2,
            ),
          )) (at_snoc vs r u j e),
    )

pub merges : (party : ℕ) (v : LaneView) (other : ℕ) (u : LaneView) → v.owns ≡ true → u.steals ≡ true
    → Merges HoldsLane party v other u (lane_view true true v.given v.popped u.stolen) (lane_view false false [] [] [])
merges party v other u owns may queue views h at two at' =
    let both : LaneView = lane_view true true v.given v.popped u.stolen in
    let mine = h.6 party v at in
    let own = mine.0 owns in
    let vs : List LaneView = set views party both in
    let was : get_elem? views other ≡ some u =
    ⊎_elim (λ x. absurd (two x.0)) (λ x. x.1) (at_set views party other both u at') in
    let theirs = (h.6 other u was).1 may in
    let Now : ℕ → LaneView → Type 0 = λ j y. j ≢ other → Fits h.0 party h.2 h.3 h.4 j y in
    let now : OfEach Now vs =
    of_each_set Now views party both (λ _. ((λ _. own), λ _. (refl, own.1, theirs.2)))
    (λ j y _ e apart. ((h.6 j y e).0, λ p. absurd (apart (((h.6 j y e).1 p).0 ∙ sym theirs.0)))) in (
      h.0,
      party,
      h.2,
      h.3,
      h.4,
      h.5,
      of_each_set (Fits h.0 party h.2 h.3 h.4) vs other (lane_view false false [] [] [])
          ((λ p. absurd (true≢false (sym p))), λ p. absurd (true≢false (sym p))) (λ j y apart e. now j y e apart),
    )
