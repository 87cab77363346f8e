-- The results, put into the order of their inputs.
use Rattle.std.proofs.Common.{◌≡◌, ◌≢◌, ℕ, zero, suc, ◌+◌, ◌<◌, ◌≤◌, true, false, List, [], ◌∷◌, ◌++◌, length, set}
use Rattle.std.proofs.Common.{get_or, drop, slice_get, Option, Some, None, Result, Ok, Err, refl, sym, ap, ◌∙◌}
use Rattle.std.proofs.Common.{subst, append-nil, ◌⊎◌, inl, inr, ⊎_elim, add-one, ◌==◌, arith}
use Rattle.std.specs.Prelude.{IfErr}
use Rattle.std.proofs.Math.ListN.{length-set, length-drop}
use Rattle.std.proofs.Math.Seq.{drop-cons}
use Rattle.std.proofs.lemmas.List.{length_push, get_or-set_same, get_or-set_other, nil_from_length}
use Rattle.std.proofs.lemmas.Option.{slice_get_within, get_or_from_slice_get, slice_get-get_or}
use Rattle.std.proofs.lemmas.List.Elements.{All-head, All-tail, Contains-append_left, Contains-push}
use Rattle.std.proofs.lemmas.List.Sums.{sum_by_push, sum_by-cons}
use Rattle.std.proofs.lemmas.Bool.Decides.{eqb_tells}
use Rattle.basics.proofs.ListLemmas.{item_at as slice_get_some}
use Rattle.index_pool.specs.declared.phase.worker.Ran.{Ran}
use Rattle.index_pool.specs.declared.phase.fault.PoolFault.{PoolFault}
use Rattle.index_pool.specs.declared.phase.fault.PoolFault.TheVariants.{Spawn, Memory, Job}
use Rattle.index_pool.specs.Once.{HasEachOnceBelow}
use Rattle.index_pool.specs.Phase.{AnswersEach, MayRefuse, EachIsRun}
use Rattle.index_pool.specs.Tables.PhaseSteps.{weight, numbers_of, AllGiven, RanEach, IsAmong, IsFilled, IsFull}
use Rattle.index_pool.specs.Tables.PhaseSteps.{HasResult}
use Rattle.index_pool.proofs.OnceLemmas.{only_at, only_at_other, one_below}
use Rattle.index_pool.proofs.PhaseStepResultLemmas.{once_weighs}

some_none : {A : Type 0} (a : A) → ◌≡◌ {A = Option A} (Some a) None → ⊥
some_none a e = cc

some_same : {A : Type 0} (a b : A) → ◌≡◌ {A = Option A} (Some a) (Some b) → a ≡ b
some_same a b e = cc

none_some : {A : Type 0} (a : A) → ◌≡◌ {A = Option (Option A)} (Some None) (Some (Some a)) → ⊥
none_some a e = cc

some_some_same : {A : Type 0} (a b : A) → ◌≡◌ {A = Option (Option A)} (Some (Some a)) (Some (Some b)) → a ≡ b
some_some_same a b e = cc

-- what a slot has after one was written
slice_get_set : {X : Type 0} (xs : List X) (i k : ℕ) (y z : X) → slice_get (set xs i y) k ≡ Some z
    → ((k ≡ i) × (y ≡ z)) ⊎ ((k ≢ i) × (slice_get xs k ≡ Some z))
slice_get_set {X} xs i k y z e =
    let within : k < length xs =
    (let a = slice_get_within (set xs i y) k z e in let b = length-set xs i y in omega arith) in
    let here : get_or (set xs i y) k z ≡ z = get_or_from_slice_get (set xs i y) k z z e in
    ⊎_elim
    (λ (yes : ((k == i) ≡ true) × (k ≡ i)).
    let at : i < length xs = subst (λ m. m < length xs) yes.1 within in
    let same : get_or (set xs i y) i z ≡ z = subst (λ m. get_or (set xs i y) m z ≡ z) yes.1 here in
    inl (yes.1, sym (get_or-set_same xs i y z at) ∙ same))
    (λ (no : ((k == i) ≡ false) × (k ≢ i)).
    let old : get_or xs k z ≡ z = sym (get_or-set_other xs i k y z no.1) ∙ here in
    inr (no.1, slice_get-get_or xs k z within ∙ ap (λ (w : X). Some w) old))
    (eqb_tells k i)

slice_get_push : {X : Type 0} (xs : List X) (y : X) (k : ℕ) (z : X) → slice_get (xs ++ y ∷ []) k ≡ Some z
    → (slice_get xs k ≡ Some z) ⊎ ((k ≡ length xs) × (y ≡ z))
slice_get_push [] y zero z e = inr (refl, cc)
slice_get_push [] y (suc k) z e = cc
slice_get_push (x ∷ xs) y zero z e = inl e
slice_get_push (x ∷ xs) y (suc k) z e =
    ⊎_elim inl (λ (p : (k ≡ length xs) × (y ≡ z)). inr (ap suc p.0, p.1)) (slice_get_push xs y k z e)

cons_parts : {X : Type 0} (a b : X) (xs ys : List X) → a ∷ xs ≡ b ∷ ys → (a ≡ b) × (xs ≡ ys)
cons_parts a b xs ys e = (cc, cc)

-- what comes next in a list of which i elements went
drop_front : {X : Type 0} (xs : List X) (i : ℕ) (x : X) (ys : List X) → drop i xs ≡ x ∷ ys
    → (i < length xs) × (slice_get xs i ≡ Some x) × (drop (i + 1) xs ≡ ys)
drop_front {X} xs i x ys e =
    let a = length-drop i xs in
    let b = ap length e in
    let within : i < length xs = omega arith in
    let parts = cons_parts (get_or xs i x) x (drop (suc i) xs) ys (sym (drop-cons xs i x within) ∙ e) in
    (within, slice_get-get_or xs i x within ∙ ap (λ (w : X). Some w) parts.0, ap (λ n. drop n xs) (add-one i) ∙ parts.1)

-- of the results so far: what is in a slot is among them, and where there is none no result is for its number
pub record Placed {A : Type 0} (ys : List (Ran A)) (slots : List (Option A)) : Type 0 where
  pub held : (k : ℕ) (a : A) → slice_get slots k ≡ Some (Some a) → IsAmong ys k a
  pub lacking : (k : ℕ) → slice_get slots k ≡ Some None → weight (only_at k) ys ≡ 0

pub placed_more : {A : Type 0} (ys : List (Ran A)) (slots : List (Option A)) (number : ℕ) (answer : A) → Placed ys slots
    → Placed (ys ++ (record { number = number; answer = answer }) ∷ []) (set slots number (Some answer))
placed_more {A} ys slots number answer p =
    let r : Ran A = record { number = number; answer = answer } in record {
      held = λ k a e. ⊎_elim
          (λ (own : (k ≡ number) × (◌≡◌ {A = Option A} (Some answer) (Some a))).
          let same : answer ≡ a = some_same answer a own.1 in
          subst (λ (q : ℕ × A). IsAmong (ys ++ r ∷ []) q.0 q.1) (λ i. (sym own.0 i, same i)) (Contains-push ys r))
          (λ (other : (k ≢ number) × (slice_get slots k ≡ Some (Some a))). Contains-append_left ys (r ∷ [])
          (record { number = k; answer = a }) (p.held k a other.1))
          (slice_get_set slots number k (Some answer) (Some a) e);
      lacking = λ k e. ⊎_elim
          (λ (own : (k ≡ number) × (◌≡◌ {A = Option A} (Some answer) None)). absurd (some_none answer own.1))
          (λ (other : (k ≢ number) × (slice_get slots k ≡ Some None)).
          let old = p.lacking k other.1 in
          let sum = sum_by_push (λ (q : Ran A). only_at k q.number) ys r in
          let none = only_at_other k number (λ same. other.0 (sym same)) in omega arith)
          (slice_get_set slots number k (Some answer) None e);
    }

slot_filled : {A : Type 0} (n : ℕ) (rs : List (Ran A)) (slots : List (Option A)) → Placed rs slots
    → HasEachOnceBelow n (numbers_of rs) → (k : ℕ) → k < n
    → (o : Option A) → slice_get slots k ≡ Some o → (a : A) × (slice_get slots k ≡ Some (Some a)) × IsAmong rs k a
slot_filled n rs slots p once k below (Some a) e = (a, e, p.held k a e)
slot_filled n rs slots p once k below None e =
    absurd (let a = p.lacking k e in let b = once_weighs n rs once k in let d = one_below k n below in omega arith)

pub placed_fills : {A : Type 0} (n : ℕ) (rs : List (Ran A)) (slots : List (Option A)) → Placed rs slots
    → length slots ≡ n → HasEachOnceBelow n (numbers_of rs) → IsFilled (IsAmong rs) n slots
placed_fills n rs slots p count once =
    (count, λ k below. (let o = slice_get_some slots k (omega arith) in slot_filled n rs slots p once k below o.0 o.1))

-- the answers of the slots so far
pub record Answered {Out Fault : Type 0} (slots : List (Option (Result Out Fault)))
    (rest : List (Option (Result Out Fault))) (outs : List Out) : Type 0 where
  pub left : drop (length outs) slots ≡ rest
  pub few : length outs ≤ length slots
  pub each : (k : ℕ) (out : Out) → slice_get outs k ≡ Some out → HasResult slots k (Ok out)

module _ {Out Fault : Type 0} (slots rest : List (Option (Result Out Fault))) (outs : List Out)
    (so_far : Answered slots rest outs) where
  pub next_answer : (out : Out) (rest' : List (Option (Result Out Fault))) → rest ≡ Some (Ok out) ∷ rest'
      → (length outs < length slots) × Answered slots rest' (outs ++ out ∷ [])
  next_answer out rest' e =
      let front = drop_front slots (length outs) (Some (Ok out)) rest' (so_far.left ∙ e) in
      let count : length (outs ++ out ∷ []) ≡ length outs + 1 = length_push outs out in (
        front.0,
        record {
          left = ap (λ n. drop n slots) count ∙ front.2;
          few = (let before = front.0 in omega arith);
          each = λ k o at. ⊎_elim (so_far.each k o)
              (λ (last : (k ≡ length outs) × (out ≡ o)). subst (λ (q : ℕ × Out). HasResult slots q.0 (Ok q.1))
              (λ i. (sym last.0 i, last.1 i)) front.1) (slice_get_push outs out k o at);
        },
      )

  pub next_fault : (fault : Fault) (rest' : List (Option (Result Out Fault))) → rest ≡ Some (Err fault) ∷ rest'
      → MayRefuse (HasResult slots) (length slots) 1 (Job (length outs) fault)
  next_fault fault rest' e =
      let front = drop_front slots (length outs) (Some (Err fault)) rest' (so_far.left ∙ e) in
      (front.0, front.1, λ j below. (let o = slice_get_some outs j below in (o.0, so_far.each j o.0 o.1)))

  pub next_none : (rest' : List (Option (Result Out Fault))) → rest ≡ None ∷ rest' → IsFull slots → ⊥
  next_none rest' e full =
      let front = drop_front slots (length outs) None rest' (so_far.left ∙ e) in
      let has = full (length outs) front.0 in
      none_some has.0 (sym front.1 ∙ has.1)

  pub all_answered : length rest ≡ 0 → AnswersEach (HasResult slots) (length slots) outs
  all_answered none =
      let a = length-drop (length outs) slots in
      let b = ap length so_far.left in
      let c = so_far.few in
      let full : length outs ≡ length slots = omega arith in
      (full, so_far.each)

-- where nothing is left, all was taken
pub none_left : {X : Type 0} (all taken left : List X) → all ≡ taken ++ left → length left ≡ 0 → all ≡ taken
none_left all taken left e none = e ∙ (ap (λ l. taken ++ l) (nil_from_length left none) ∙ append-nil taken)

-- a relation that allows more allows the same answers and refusals, for any workers the refusals of one
pub answers_weaker : {Out Fault : Type 0} (P Q : ℕ → Result Out Fault → Type 0) (n m : ℕ) → n ≡ m
    → ((k : ℕ) (r : Result Out Fault) → P k r → Q k r) → (outs : List Out) → AnswersEach P n outs → AnswersEach Q m outs
answers_weaker P Q n m same weaker outs a = (a.0 ∙ same, λ k out at. weaker k (Ok out) (a.1 k out at))

pub refusal_weaker : {Out Fault : Type 0} (P Q : ℕ → Result Out Fault → Type 0) (n m workers : ℕ) → n ≡ m
    → ((k : ℕ) (r : Result Out Fault) → P k r → Q k r) → (fault : PoolFault Fault) → MayRefuse P n 1 fault
    → MayRefuse Q m workers fault
refusal_weaker P Q n m workers same weaker Spawn a = absurd (omega arith)
refusal_weaker P Q n m workers same weaker Memory a = tt
refusal_weaker P Q n m workers same weaker (Job k fault) a = (
  subst (λ b. k < b) same a.0,
  weaker k (Err fault) a.1,
  λ j below. (let o = a.2 j below in (o.0, weaker j (Ok o.0) o.1)),
)

-- a number that the results weigh has one
has_result : {A : Type 0} (gives : ℕ → A → Type 0) (j : ℕ) (rs : List (Ran A)) → AllGiven gives rs
    → 0 < weight (only_at j) rs → (a : A) × gives j a
has_result gives j [] all some = absurd (omega arith)
has_result {A} gives j (r ∷ rs) all some =
    let P : Ran A → Type 0 = λ q. gives q.number q.answer in
    let sum = sum_by-cons (λ (q : Ran A). only_at j q.number) r rs in
    ⊎_elim
    (λ (yes : ((r.number == j) ≡ true) × (r.number ≡ j)).
    (r.answer, subst (λ k. gives k r.answer) yes.1 (All-head P r rs all)))
    (λ (no : ((r.number == j) ≡ false) × (r.number ≢ j)).
    let none = only_at_other j r.number no.1 in has_result gives j rs (All-tail P r rs all) (omega arith))
    (eqb_tells r.number j)

pub each_is_run : {V Out Fault : Type 0} (gives : ℕ → Result Out Fault → Type 0) (n : ℕ)
    (rs : List (Ran (Result Out Fault))) → RanEach gives n rs → (answer : Result V (PoolFault Fault))
    → IfErr answer (EachIsRun gives n)
each_is_run gives n rs ran (Ok v) = tt
each_is_run gives n rs ran (Err Spawn) = tt
each_is_run gives n rs ran (Err Memory) = tt
each_is_run gives n rs ran (Err (Job k fault)) = λ j below. has_result gives j rs ran.0
    (let one = once_weighs n rs ran.1 j in let is = one_below j n below in omega arith)

-- what a filled slot has is among the results
pub filled_among : {A : Type 0} (among : ℕ → A → Type 0) (n : ℕ) (slots : List (Option A)) → IsFilled among n slots
    → (k : ℕ) (a : A) → HasResult slots k a → among k a
filled_among {A} among n slots filled k a e =
    let within = slice_get_within slots k (Some a) e in
    let count = filled.0 in
    let has = filled.1 k (omega arith) in
    let same : has.0 ≡ a = some_some_same has.0 a (sym has.1 ∙ e) in subst (among k) same has.2

pub filled_full : {A : Type 0} (among : ℕ → A → Type 0) (n : ℕ) (slots : List (Option A)) → IsFilled among n slots
    → IsFull slots
filled_full among n slots filled =
    λ k within. (let count = filled.0 in let has = filled.1 k (omega arith) in (has.0, has.1))
