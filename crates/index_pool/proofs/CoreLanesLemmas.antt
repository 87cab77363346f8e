-- In every state to which events lead, the core machine shows lanes.
use Rattle.std.proofs.Common.{◌≡◌, ◌≢◌, ℕ, ◌+◌, ◌%◌, ◌<◌, ◌==◌, Bool, true, false, List, [], ◌∷◌, ◌++◌, length, drop}
use Rattle.std.proofs.Common.{slice_index, cond, refl, sym, ap, ◌∙◌, subst, ⊎_elim, append_assoc, append-nil, arith}
use Rattle.std.proofs.lemmas.List.Sorted.{IsPermutation-refl}
use Rattle.std.proofs.Math.Nat.{mod-eq_of_lt, mod_self}
use Rattle.std.proofs.Math.ListN.{length-set, length-replicate}
use Rattle.std.proofs.lemmas.List.{get_or-set_same, get_or-set_other, get_or-replicate}
use Rattle.std.proofs.lemmas.Bool.Decides.{eqb_tells}
use Rattle.index_pool.specs.declared.core_machine.Event.{Event}
use Rattle.index_pool.specs.declared.core_machine.Event.TheVariants.{Seed, Pop, PopEmpty, Steal, StealEmpty, StealRetry}
use Rattle.index_pool.specs.declared.lanes.rule.LaneView.{LaneView}
use Rattle.index_pool.specs.Lane.{lane_numbers, IsLane, lane_view, more_given, more_popped, more_stolen}
use Rattle.index_pool.specs.CoreMachine.{WorkerState, CoreState, idle, core_start, worker_at, queue_of, neighbour}
use Rattle.index_pool.specs.CoreMachine.{MayHappen, queued, unqueued, taken, noted, with_worker, after_take}
use Rattle.index_pool.specs.CoreMachine.{state_after, CoreRun}
use Rattle.index_pool.specs.CoreFields.{IsSound}
use Rattle.index_pool.specs.CoreLanes.{lane_after, lane_later, lane_of, ShowsLanes}
use Rattle.index_pool.proofs.CoreMachineLemmas.{notes_at, neighbour_within, sound_start, sound_after, workers_after}
use Rattle.index_pool.proofs.LaneNumbersLemmas.{lane_none, lane_more_own, lane_more_other}
use Rattle.index_pool.proofs.LaneLemmas.{lane_given, lane_popped, lane_stolen}

-- what holds of a test of two numbers, where it holds both for equal ones and for others
pub by_equality : (P : Bool → Type 0) (a b : ℕ) → (a ≡ b → P true) → (a ≢ b → P false) → P (a == b)
by_equality P a b same other = ⊎_elim
    (λ (yes : ((a == b) ≡ true) × (a ≡ b)). subst P (sym yes.0) (same yes.1))
    (λ (no : ((a == b) ≡ false) × (a ≢ b)). subst P (sym no.0) (other no.1))
    (eqb_tells a b)

-- a part that either of two has
same_either : {X Y : Type 0} (part : X → Y) (b : Bool) (x y : X) → part x ≡ part y → part (cond b x y) ≡ part y
same_either part true x y same = same
same_either part false x y same = refl

module _ {A : Type 0} (part : WorkerState → A) (s : CoreState) (i w : ℕ) (x : WorkerState)
    (within : i < length s.workers) where
  -- a part of worker w, where worker i is exchanged for one that has the same
  pub same_part : part x ≡ part (worker_at s i) → part (worker_at (with_worker s i x) w) ≡ part (worker_at s w)
  same_part same = ⊎_elim
      (λ (yes : ((i == w) ≡ true) × (i ≡ w)). subst
      (λ j. part (worker_at (with_worker s i x) j) ≡ part (worker_at s j)) yes.1
      (ap part (get_or-set_same s.workers i x idle within) ∙ same))
      (λ (no : ((i == w) ≡ false) × (i ≢ w)). ap part (get_or-set_other s.workers i w x idle (λ e. no.1 (sym e))))
      (eqb_tells i w)

  -- and where it is exchanged for one in which that part was changed
  pub changed_part : (change : A → A) → part x ≡ change (part (worker_at s i))
      → part (worker_at (with_worker s i x) w) ≡ cond (i == w) (change (part (worker_at s w))) (part (worker_at s w))
  changed_part change new =
      by_equality (λ b. part (worker_at (with_worker s i x) w)
      ≡ cond b (change (part (worker_at s w))) (part (worker_at s w))) i w
      (λ same. subst (λ j. part (worker_at (with_worker s i x) j) ≡ change (part (worker_at s j))) same
      (ap part (get_or-set_same s.workers i x idle within) ∙ new))
      (λ other. ap part (get_or-set_other s.workers i w x idle (λ e. other (sym e))))

-- where the first number of one queue goes to the takings of a worker
module _ (s : CoreState) (from to w : ℕ) (from_in : from < length s.workers) (to_in : to < length s.workers) where
  abbrev middle : CoreState
  middle = with_worker s from (unqueued (worker_at s from))

  to_middle : to < length middle.workers
  to_middle = omega (arith, length-set s.workers from (unqueued (worker_at s from)))

  pub queue_after : queue_of (after_take s from to) w ≡ cond (from == w) (drop 1 (queue_of s w)) (queue_of s w)
  queue_after =
      same_part (λ x. x.queue) middle to w
      (taken (worker_at middle to) (slice_index (queue_of s from) 0)) to_middle refl
      ∙ changed_part (λ x. x.queue) s from w (unqueued (worker_at s from)) from_in (drop 1) refl

  takings_after : (worker_at (after_take s from to) w).takings
      ≡ cond (to == w) ((worker_at s w).takings ++ slice_index (queue_of s from) 0 ∷ []) (worker_at s w).takings
  takings_after =
      let k = slice_index (queue_of s from) 0 in
      let same : (worker_at middle w).takings ≡ (worker_at s w).takings =
      same_part (λ x. x.takings) s from w (unqueued (worker_at s from)) from_in refl in
      changed_part (λ x. x.takings) middle to w (taken (worker_at middle to) k) to_middle (λ l. l ++ k ∷ []) refl
      ∙ ap (λ l. cond (to == w) (l ++ k ∷ []) l) same

  pub note_after : (worker_at (after_take s from to) w).found_empty ≡ (worker_at s w).found_empty
  note_after =
      same_part (λ x. x.found_empty) middle to w
      (taken (worker_at middle to) (slice_index (queue_of s from) 0)) to_middle refl
      ∙ same_part (λ x. x.found_empty) s from w (unqueued (worker_at s from)) from_in refl

-- the neighbours of two workers are two
neighbours_apart : (count u w : ℕ) → u < count → w < count → u ≢ w → (u + 1) % count ≢ (w + 1) % count
neighbours_apart count u w u_in w_in apart same = ⊎_elim
    (λ (last : ((u + 1 == count) ≡ true) × (u + 1 ≡ count)). ⊎_elim
    (λ (last' : ((w + 1 == count) ≡ true) × (w + 1 ≡ count)). apart (omega (arith, last.1, last'.1)))
    (λ (not' : ((w + 1 == count) ≡ false) × (w + 1 ≢ count)).
    let a : (u + 1) % count ≡ 0 = ap (λ n. n % count) last.1 ∙ mod_self count in
    let other = not'.1 in
    let b : (w + 1) % count ≡ w + 1 = mod-eq_of_lt (omega arith) in absurd (omega arith))
    (eqb_tells (w + 1) count))
    (λ (not : ((u + 1 == count) ≡ false) × (u + 1 ≢ count)).
    let other = not.1 in
    let a : (u + 1) % count ≡ u + 1 = mod-eq_of_lt (omega arith) in ⊎_elim
    (λ (last' : ((w + 1 == count) ≡ true) × (w + 1 ≡ count)).
    (let b : (w + 1) % count ≡ 0 = ap (λ n. n % count) last'.1 ∙ mod_self count in absurd (omega arith)))
    (λ (not' : ((w + 1 == count) ≡ false) × (w + 1 ≢ count)).
    let other' = not'.1 in
    let b : (w + 1) % count ≡ w + 1 = mod-eq_of_lt (omega arith) in apart (omega arith))
    (eqb_tells (w + 1) count))
    (eqb_tells (u + 1) count)

-- the lanes of a state, by what is known of each
record Shows (count : ℕ) (s : CoreState) (known : ℕ → LaneView) : Type 0 where
  given : (w : ℕ) → w < count → (known w).given ≡ lane_numbers s.seeded count w
  lane : (w : ℕ) → w < count → IsLane (known w).given (queue_of s w) (known w).popped (known w).stolen
  takings : (w : ℕ) → w < count → (worker_at s w).takings ≡ (known w).popped ++ (known ((w + 1) % count)).stolen
  unstolen : (w : ℕ) → w < count → (worker_at s w).found_empty ≢ true → (known ((w + 1) % count)).stolen ≡ []

shows_start : (inputs workers : ℕ) → Shows workers (core_start inputs workers) (λ _. lane_view true true [] [] [])
shows_start inputs workers = record {
  given = λ w here. sym (lane_none workers w);
  lane = λ w here. ([], ap (λ x. x.queue) (sym (get_or-replicate workers w idle idle here)), IsPermutation-refl []);
  takings = λ w here. ap (λ x. x.takings) (get_or-replicate workers w idle idle here);
  unstolen = λ w here fresh. refl;
}

module _ (s : CoreState) (known : ℕ → LaneView) (sound : IsSound s) (some : 0 < length s.workers)
    (shows : Shows (length s.workers) s known) where
  shows_seed : (k : ℕ) → k ≡ s.seeded
      → Shows (length s.workers) (state_after s (Seed k)) (λ w. lane_after s w (known w) (Seed k))
  shows_seed k next =
      let count = length s.workers in
      let i = k % count in
      let within : i < count = omega arith in
      let x = queued (worker_at s i) k in
      let known' : ℕ → LaneView = λ w. lane_after s w (known w) (Seed k) in
      let stolen : (w : ℕ) → (known' w).stolen ≡ (known w).stolen =
      λ w. same_either (λ v. v.stolen) (i == w) (more_given (known w) (k ∷ [])) (known w) refl in
      let popped : (w : ℕ) → (known' w).popped ≡ (known w).popped =
      λ w. same_either (λ v. v.popped) (i == w) (more_given (known w) (k ∷ [])) (known w) refl in record {
        given = λ w here. by_equality
            (λ b. (cond b (more_given (known w) (k ∷ [])) (known w)).given ≡ lane_numbers (s.seeded + 1) count w) i w
            (λ own. (ap (λ g. g ++ k ∷ []) (shows.given w here)
            ∙ (ap (λ n. lane_numbers s.seeded count w ++ n ∷ []) next
            ∙ sym (lane_more_own count w s.seeded (ap (λ n. n % count) (sym next) ∙ own)))))
            (λ other. (shows.given w here
            ∙ sym (lane_more_other count w s.seeded (λ e. other (ap (λ n. n % count) next ∙ e)))));
        lane = λ w here. subst (λ q. IsLane (known' w).given q (known' w).popped (known' w).stolen)
            (sym (changed_part (λ y. y.queue) s i w x within (λ q. q ++ k ∷ []) refl))
            (by_equality (λ b. let v = cond b (more_given (known w) (k ∷ [])) (known w) in
            IsLane v.given (cond b (queue_of s w ++ k ∷ []) (queue_of s w)) v.popped v.stolen) i w
            (λ _. lane_given (known w).given (queue_of s w) (known w).popped (known w).stolen (k ∷ [])
            (shows.lane w here))
            (λ _. shows.lane w here));
        takings = λ w here. (
            let a = same_part (λ y. y.takings) s i w x within refl in
            let b = shows.takings w here in
            let c = popped w in
            let d = stolen ((w + 1) % count) in cc);
        unstolen = λ w here fresh. (
            let a = same_part (λ y. y.found_empty) s i w x within refl in
            stolen ((w + 1) % count) ∙ shows.unstolen w here (λ e. fresh (a ∙ e)));
      }

  -- a queue that is not empty, from its first number on
  queue_front : (q : List ℕ) → 0 < length q → q ≡ slice_index q 0 ∷ drop 1 q
  queue_front [] filled = absurd (omega arith)
  queue_front (x ∷ xs) filled = refl

  shows_pop : (u : ℕ) → MayHappen s (Pop u)
      → Shows (length s.workers) (state_after s (Pop u)) (λ w. lane_after s w (known w) (Pop u))
  shows_pop u may =
      let count = length s.workers in
      let within = may.0.1 in
      let first : ℕ → List ℕ = λ w. slice_index (queue_of s w) 0 ∷ [] in
      let known' : ℕ → LaneView = λ w. lane_after s w (known w) (Pop u) in
      let given : (w : ℕ) → (known' w).given ≡ (known w).given =
      λ w. same_either (λ v. v.given) (u == w) (more_popped (known w) (first w)) (known w) refl in
      let stolen : (w : ℕ) → (known' w).stolen ≡ (known w).stolen =
      λ w. same_either (λ v. v.stolen) (u == w) (more_popped (known w) (first w)) (known w) refl in
      let fresh : (worker_at s u).found_empty ≢ true =
      λ note. (let empty = ap length (notes_at s u sound within note).0 in let filled = may.1 in
      absurd (omega arith)) in record {
        given = λ w here. given w ∙ shows.given w here;
        lane = λ w here. subst (λ q. IsLane (known' w).given q (known' w).popped (known' w).stolen)
            (sym (queue_after s u u w within within))
            (by_equality (λ b. let v = cond b (more_popped (known w) (first w)) (known w) in
            IsLane v.given (cond b (drop 1 (queue_of s w)) (queue_of s w)) v.popped v.stolen) u w
            (λ own. lane_popped (known w).given (drop 1 (queue_of s w)) (known w).popped (known w).stolen (first w)
            (subst (λ q. IsLane (known w).given q (known w).popped (known w).stolen)
            (queue_front (queue_of s w) (subst (λ j. 0 < length (queue_of s j)) own may.1)) (shows.lane w here)))
            (λ _. shows.lane w here));
        takings = λ w here. takings_after s u u w within within
            ∙ (by_equality (λ b. cond b ((worker_at s w).takings ++ slice_index (queue_of s u) 0 ∷ [])
            (worker_at s w).takings ≡ (cond b (more_popped (known w) (first w)) (known w)).popped
            ++ (known ((w + 1) % count)).stolen) u w
            (λ own. (
            let none = shows.unstolen w here (subst (λ j. (worker_at s j).found_empty ≢ true) own fresh) in
            let took : (worker_at s w).takings ≡ (known w).popped =
            shows.takings w here ∙ (ap (λ l. (known w).popped ++ l) none ∙ append-nil (known w).popped) in
            ap (λ l. l ++ first u) took
            ∙ (ap (λ j. (known w).popped ++ first j) own
            ∙ (sym (append-nil ((known w).popped ++ first w))
            ∙ ap (λ l. ((known w).popped ++ first w) ++ l) (sym none)))))
            (λ _. shows.takings w here)
            ∙ ap (λ l. (known' w).popped ++ l) (sym (stolen ((w + 1) % count))));
        unstolen = λ w here new. stolen ((w + 1) % count)
            ∙ shows.unstolen w here (λ e. new (note_after s u u w within within ∙ e));
      }

  shows_note : (u : ℕ) → MayHappen s (PopEmpty u) → Shows (length s.workers) (state_after s (PopEmpty u)) known
  shows_note u may =
      let within = may.0.1 in
      let x = noted (worker_at s u) in record {
        given = shows.given;
        lane = λ w here. subst (λ q. IsLane (known w).given q (known w).popped (known w).stolen)
            (sym (same_part (λ y. y.queue) s u w x within refl)) (shows.lane w here);
        takings = λ w here. same_part (λ y. y.takings) s u w x within refl ∙ shows.takings w here;
        unstolen = λ w here new. shows.unstolen w here
            (λ e. new (changed_part (λ y. y.found_empty) s u w x within (λ _. true) refl
            ∙ by_equality (λ b. cond b true (worker_at s w).found_empty ≡ true) u w (λ _. refl) (λ _. e)));
      }

  shows_steal : (u : ℕ) → MayHappen s (Steal u)
      → Shows (length s.workers) (state_after s (Steal u)) (λ w. lane_after s w (known w) (Steal u))
  shows_steal u may =
      let count = length s.workers in
      let within = may.0.0.1 in
      let m = neighbour s u in
      let m_in = neighbour_within s u some in
      let first : ℕ → List ℕ = λ w. slice_index (queue_of s w) 0 ∷ [] in
      let known' : ℕ → LaneView = λ w. lane_after s w (known w) (Steal u) in
      let given : (w : ℕ) → (known' w).given ≡ (known w).given =
      λ w. same_either (λ v. v.given) (m == w) (more_stolen (known w) (first w)) (known w) refl in
      let popped : (w : ℕ) → (known' w).popped ≡ (known w).popped =
      λ w. same_either (λ v. v.popped) (m == w) (more_stolen (known w) (first w)) (known w) refl in
      let others : (w : ℕ) → w < count → u ≢ w → (known' ((w + 1) % count)).stolen ≡ (known ((w + 1) % count)).stolen =
      λ w here apart. by_equality
      (λ b. (cond b (more_stolen (known ((w + 1) % count)) (first ((w + 1) % count)))
      (known ((w + 1) % count))).stolen ≡ (known ((w + 1) % count)).stolen) m ((w + 1) % count)
      (λ same. absurd (neighbours_apart count u w within here apart same)) (λ _. refl) in
      let own : (known' m).stolen ≡ (known m).stolen ++ first m =
      by_equality (λ b. (cond b (more_stolen (known m) (first m)) (known m)).stolen ≡ (known m).stolen ++ first m) m
      m (λ _. refl) (λ other. absurd (other refl)) in record {
        given = λ w here. given w ∙ shows.given w here;
        lane = λ w here. subst (λ q. IsLane (known' w).given q (known' w).popped (known' w).stolen)
            (sym (queue_after s m u w m_in within))
            (by_equality (λ b. let v = cond b (more_stolen (known w) (first w)) (known w) in
            IsLane v.given (cond b (drop 1 (queue_of s w)) (queue_of s w)) v.popped v.stolen) m w
            (λ same. lane_stolen (known w).given (drop 1 (queue_of s w)) (known w).popped (known w).stolen (first w)
            (subst (λ q. IsLane (known w).given q (known w).popped (known w).stolen)
            (queue_front (queue_of s w) (subst (λ j. 0 < length (queue_of s j)) same may.1)) (shows.lane w here)))
            (λ _. shows.lane w here));
        takings = λ w here. takings_after s m u w m_in within
            ∙ by_equality (λ b. cond b ((worker_at s w).takings ++ first m) (worker_at s w).takings
            ≡ (known' w).popped ++ (known' ((w + 1) % count)).stolen) u w
            (λ same. subst (λ j. (worker_at s j).takings ++ first m
            ≡ (known' j).popped ++ (known' ((j + 1) % count)).stolen) same (
            ap (λ l. l ++ first m) (shows.takings u within)
            ∙ (append_assoc (known u).popped (known m).stolen (first m)
            ∙ (ap (λ l. (known u).popped ++ l) (sym own) ∙ ap (λ l. l ++ (known' m).stolen) (sym (popped u))))))
            (λ apart. (shows.takings w here
            ∙ (ap (λ l. (known w).popped ++ l) (sym (others w here apart))
            ∙ ap (λ l. l ++ (known' ((w + 1) % count)).stolen) (sym (popped w)))));
        unstolen = λ w here new.
            let same_note = note_after s m u w m_in within in
            let apart : u ≢ w = λ same. new (same_note ∙ subst (λ j. (worker_at s j).found_empty ≡ true) same may.0.1)
            in
            others w here apart ∙ shows.unstolen w here (λ e. new (same_note ∙ e));
      }

  shows_after : (e : Event) → MayHappen s e
      → Shows (length s.workers) (state_after s e) (λ w. lane_after s w (known w) e)
  shows_after (Seed k) may = shows_seed k may.0
  shows_after (Pop u) may = shows_pop u may
  shows_after (PopEmpty u) may = shows_note u may
  shows_after (Steal u) may = shows_steal u may
  shows_after (StealEmpty u) may = shows
  shows_after (StealRetry u) may = shows

shows_run : (s : CoreState) (known : ℕ → LaneView) (events : List Event) (t : CoreState) → IsSound s
    → 0 < length s.workers → Shows (length s.workers) s known → CoreRun s events t
    → Shows (length s.workers) t (λ w. lane_later s w (known w) events) × (length t.workers ≡ length s.workers)
shows_run s known [] t sound some shows run =
    (subst (λ u. Shows (length s.workers) u known) run shows, ap (λ u. length u.workers) (sym run))
shows_run s known (e ∷ es) t sound some shows run =
    let count = workers_after s e in
    let known' : ℕ → LaneView = λ w. lane_after s w (known w) e in
    let next : Shows (length (state_after s e).workers) (state_after s e) known' =
    subst (λ n. Shows n (state_after s e) known') (sym count) (shows_after s known sound some shows e run.0) in
    let later = shows_run (state_after s e) known' es t (sound_after s e sound some run.0) (omega arith) next run.1 in
    (subst (λ n. Shows n t (λ w. lane_later s w (known w) (e ∷ es))) count later.0, later.1 ∙ count)

pub shows_lanes : ShowsLanes
shows_lanes inputs workers events s w here run =
    let start = core_start inputs workers in
    let count : length start.workers ≡ workers = length-replicate workers idle in
    let known : ℕ → LaneView = λ _. lane_view true true [] [] [] in
    let shown = shows_run start known events s (sound_start inputs workers) (omega arith)
    (subst (λ n. Shows n start known) (sym count) (shows_start inputs workers)) run in
    let all : Shows workers s (lane_of inputs workers events) =
    subst (λ n. Shows n s (lane_of inputs workers events)) count shown.0 in (
      all.given w here,
      all.lane w here,
      all.takings w here ∙ ap (λ n. (lane_of inputs workers events w).popped
          ++ (lane_of inputs workers events ((w + 1) % n)).stolen) (sym (shown.1 ∙ count)),
    )
