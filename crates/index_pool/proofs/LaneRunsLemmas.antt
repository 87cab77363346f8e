-- Running deques make runs of the core machine.
use Rattle.std.proofs.Common.{◌≡◌, ℕ, zero, suc, ◌+◌, ◌%◌, ◌<◌, ◌==◌, Bool, true, false, true≢false, List, []}
use Rattle.std.proofs.Common.{◌∷◌, ◌++◌, length, drop, map, All, Some, slice_index, cond, refl, sym, ap, ◌∙◌, subst}
use Rattle.std.proofs.Common.{arith}
use Rattle.std.proofs.lemmas.List.{get_or-replicate}
use Rattle.std.proofs.lemmas.List.Elements.{All-head, All-tail}
use Rattle.std.proofs.Math.ListN.{length-replicate}
use Rattle.std.specs.List.{range_with_len}
use Rattle.index_pool.specs.declared.core_machine.Event.{Event}
use Rattle.index_pool.specs.declared.core_machine.Event.TheVariants.{Seed, Pop, PopEmpty, Steal}
use Rattle.index_pool.specs.Lane.{lane_numbers}
use Rattle.index_pool.specs.CoreMachine.{CoreState, idle, core_start, worker_at, queue_of, neighbour}
use Rattle.index_pool.specs.CoreMachine.{IsReady, HasNoted, MayHappen, queued, noted, state_after, CoreStep, CoreRun}
use Rattle.index_pool.specs.LaneRuns.{LaneStep, Popped, PoppedNone, Stole, StoleNone, AskedAgain, worker_of, event_of}
use Rattle.index_pool.specs.LaneRuns.{number_got, DequeAllows, queue_left, LaneAllows, MayDo, noted_after, WorkerAllows}
use Rattle.index_pool.specs.LaneRuns.{CoreMakes, LanesRunAsCore}
use Rattle.index_pool.proofs.LaneNumbersLemmas.{lane_none, lane_more_own, lane_more_other}
use Rattle.index_pool.proofs.CoreMachineLemmas.{workers_after}
use Rattle.index_pool.proofs.CoreLanesLemmas.{by_equality, same_part, changed_part, queue_after, note_after}

-- a state in which the numbers below k are seeded, each in its lane
record Seeded (lanes inputs k : ℕ) (s : CoreState) : Type 0 where
  count : length s.workers ≡ lanes
  all : s.inputs ≡ inputs
  so_far : s.seeded ≡ k
  queue : (w : ℕ) → w < lanes → queue_of s w ≡ lane_numbers k lanes w

seeded_start : (lanes inputs : ℕ) → Seeded lanes inputs 0 (core_start inputs lanes)
seeded_start lanes inputs = record {
  count = length-replicate lanes idle;
  all = refl;
  so_far = refl;
  queue = λ w here. ap (λ x. x.queue) (get_or-replicate lanes w idle idle here) ∙ sym (lane_none lanes w);
}

seeded_more : (lanes inputs k : ℕ) (s : CoreState) → 0 < lanes → k < inputs → Seeded lanes inputs k s
    → MayHappen s (Seed k) × Seeded lanes inputs (k + 1) (state_after s (Seed k))
seeded_more lanes inputs k s some below f =
    let count = f.count in
    let i = k % length s.workers in
    let within : i < length s.workers = omega arith in
    let x = queued (worker_at s i) k in
    let same_lane : i ≡ k % lanes = ap (λ c. k % c) count in (
      (sym f.so_far, subst (λ n. k < n) (sym f.all) below),
      record {
        count = workers_after s (Seed k) ∙ count;
        all = f.all;
        so_far = ap (λ n. n + 1) f.so_far;
        queue = λ w here. changed_part (λ y. y.queue) s i w x within (λ q. q ++ k ∷ []) refl
            ∙ (ap (λ j. cond (j == w) (queue_of s w ++ k ∷ []) (queue_of s w)) same_lane
            ∙ by_equality (λ b. cond b (queue_of s w ++ k ∷ []) (queue_of s w) ≡ lane_numbers (k + 1) lanes w)
            (k % lanes) w
            (λ own. ap (λ l. l ++ k ∷ []) (f.queue w here) ∙ sym (lane_more_own lanes w k own))
            (λ other. f.queue w here ∙ sym (lane_more_other lanes w k other)));
      },
    )

seed_run : (lanes inputs : ℕ) → 0 < lanes → (m k : ℕ) (s : CoreState) → k + m ≡ inputs → Seeded lanes inputs k s
    → (t : CoreState) × CoreRun s (map Seed (range_with_len k m)) t × Seeded lanes inputs inputs t
seed_run lanes inputs some zero k s end f =
    (s, refl, subst (λ n. Seeded lanes inputs n s) (let e : k ≡ inputs = omega (arith, end) in e) f)
seed_run lanes inputs some (suc m) k s end f =
    let one = seeded_more lanes inputs k s some (omega (arith, end)) f in
    let rest = seed_run lanes inputs some m (k + 1) (state_after s (Seed k)) (omega (arith, end)) one.1 in
    (rest.0, (one.0, rest.1), rest.2)

-- a state whose queues are these, and in which the workers have noted what they found
record Follows (lanes : ℕ) (s : CoreState) (queues : ℕ → List ℕ) (notes : ℕ → Bool) : Type 0 where
  count : length s.workers ≡ lanes
  full : s.seeded ≡ s.inputs
  queue : (w : ℕ) → w < lanes → queue_of s w ≡ queues w
  note : (w : ℕ) → w < lanes → notes w ≡ true → (worker_at s w).found_empty ≡ true

seeded_follows : (lanes inputs : ℕ) (s : CoreState) → Seeded lanes inputs inputs s
    → Follows lanes s (lane_numbers inputs lanes) (λ _. false)
seeded_follows lanes inputs s f = record {
  count = f.count;
  full = f.so_far ∙ sym f.all;
  queue = f.queue;
  note = λ w here no. absurd (true≢false (sym no));
}

-- a step that the lanes and the workers allow
abbrev IsAllowed : ℕ → (ℕ → List ℕ) → (ℕ → Bool) → LaneStep → Type 0
IsAllowed lanes queues notes e = (worker_of e < lanes)
    × ((w : ℕ) → w < lanes → DequeAllows lanes w (queues w) e) × ((w : ℕ) → w < lanes → MayDo w (notes w) e)

abbrev IsMade : ℕ → CoreState → (ℕ → List ℕ) → (ℕ → Bool) → LaneStep → Type 0
IsMade lanes s queues notes e = CoreStep s (event_of e) (number_got e) (state_after s (event_of e))
    × Follows lanes (state_after s (event_of e)) (λ w. queue_left lanes w (queues w) e)
    (λ w. noted_after w (notes w) e)

module _ (lanes : ℕ) (s : CoreState) (queues : ℕ → List ℕ) (notes : ℕ → Bool) (some : 0 < lanes)
    (f : Follows lanes s queues notes) where
  ready : (u : ℕ) → u < lanes → IsReady s u
  ready u here = (f.full, subst (λ n. u < n) (sym f.count) here)

  has_noted : (u : ℕ) → u < lanes → notes u ≡ true → HasNoted s u
  has_noted u here told = (ready u here, f.note u here told)

  next : (u : ℕ) → neighbour s u ≡ (u + 1) % lanes
  next u = ap (λ n. (u + 1) % n) f.count

  next_within : (u : ℕ) → (u + 1) % lanes < lanes
  next_within u = omega arith

  next_queue : (u : ℕ) → queue_of s (neighbour s u) ≡ queues ((u + 1) % lanes)
  next_queue u = ap (queue_of s) (next u) ∙ f.queue ((u + 1) % lanes) (next_within u)

  makes_popped : (u k : ℕ) → IsAllowed lanes queues notes (Popped u k) → IsMade lanes s queues notes (Popped u k)
  makes_popped u k a =
      let within = (ready u a.0).1 in
      let front : queue_of s u ≡ k ∷ drop 1 (queues u) = f.queue u a.0 ∙ a.1 u a.0 refl in
      let filled : 0 < length (queue_of s u) = omega (arith, ap length front) in (
        ((ready u a.0, filled), sym (ap (λ l. Some (slice_index l 0)) front), refl),
        record {
          count = workers_after s (Pop u) ∙ f.count;
          full = f.full;
          queue = λ w here. queue_after s u u w within within
              ∙ ap (λ l. cond (u == w) (drop 1 l) l) (f.queue w here);
          note = λ w here told. note_after s u u w within within ∙ f.note w here told;
        },
      )

  makes_popped_none : (u : ℕ) → IsAllowed lanes queues notes (PoppedNone u)
      → IsMade lanes s queues notes (PoppedNone u)
  makes_popped_none u a =
      let within = (ready u a.0).1 in
      let x = noted (worker_at s u) in (
        ((ready u a.0, f.queue u a.0 ∙ a.1 u a.0 refl), refl, refl),
        record {
          count = workers_after s (PopEmpty u) ∙ f.count;
          full = f.full;
          queue = λ w here. same_part (λ y. y.queue) s u w x within refl ∙ f.queue w here;
          note = λ w here told. changed_part (λ y. y.found_empty) s u w x within (λ _. true) refl
              ∙ by_equality (λ b. cond b true (notes w) ≡ true → cond b true (worker_at s w).found_empty ≡ true) u w
              (λ _ _. refl) (λ _ old. f.note w here old) told;
        },
      )

  makes_stole : (u k : ℕ) → IsAllowed lanes queues notes (Stole u k) → IsMade lanes s queues notes (Stole u k)
  makes_stole u k a =
      let m = (u + 1) % lanes in
      let within = (ready u a.0).1 in
      let next_in : neighbour s u < length s.workers =
      subst (λ j. j < length s.workers) (sym (next u)) (subst (λ n. m < n) (sym f.count) (next_within u)) in
      let front : queue_of s (neighbour s u) ≡ k ∷ drop 1 (queues m) = next_queue u ∙ a.1 m (next_within u) refl in
      let filled : 0 < length (queue_of s (neighbour s u)) = omega (arith, ap length front) in (
        (
          (has_noted u a.0 (a.2 u a.0 refl), filled),
          sym (ap (λ l. Some (slice_index l 0)) front),
          refl,
        ),
        record {
          count = workers_after s (Steal u) ∙ f.count;
          full = f.full;
          queue = λ w here. queue_after s (neighbour s u) u w next_in within
              ∙ (ap (λ j. cond (j == w) (drop 1 (queue_of s w)) (queue_of s w)) (next u)
              ∙ ap (λ l. cond (m == w) (drop 1 l) l) (f.queue w here));
          note = λ w here told. note_after s (neighbour s u) u w next_in within ∙ f.note w here told;
        },
      )

  makes : (e : LaneStep) → IsAllowed lanes queues notes e → IsMade lanes s queues notes e
  makes (Popped u k) a = makes_popped u k a
  makes (PoppedNone u) a = makes_popped_none u a
  makes (Stole u k) a = makes_stole u k a
  makes (StoleNone u) a = (
    ((has_noted u a.0 (a.2 u a.0 refl), next_queue u ∙ a.1 ((u + 1) % lanes) (next_within u) refl), refl, refl),
    f,
  )
  makes (AskedAgain u) a = ((has_noted u a.0 (a.2 u a.0 refl), refl, refl), f)

steps_run : (lanes : ℕ) → 0 < lanes → (after : ℕ → List ℕ) (steps : List LaneStep) (s : CoreState)
    (queues : ℕ → List ℕ) (notes : ℕ → Bool) → Follows lanes s queues notes → All (λ e. worker_of e < lanes) steps
    → ((w : ℕ) → w < lanes → LaneAllows lanes w (queues w) steps (after w))
    → ((w : ℕ) → w < lanes → WorkerAllows w (notes w) steps)
    → (t : CoreState) × CoreMakes s steps t × ((w : ℕ) → w < lanes → queue_of t w ≡ after w)
steps_run lanes some after [] s queues notes f within allows may =
    (s, refl, λ w here. f.queue w here ∙ allows w here)
steps_run lanes some after (e ∷ es) s queues notes f within allows may =
    let made = makes lanes s queues notes some f e (
      All-head (λ (x : LaneStep). worker_of x < lanes) e es within,
      λ w here. (allows w here).0,
      λ w here. (may w here).0,
    ) in
    let rest = steps_run lanes some after es (state_after s (event_of e)) (λ w. queue_left lanes w (queues w) e)
    (λ w. noted_after w (notes w) e) made.1 (All-tail (λ (x : LaneStep). worker_of x < lanes) e es within)
    (λ w here. (allows w here).1) (λ w here. (may w here).1) in
    (rest.0, (made.0, rest.1), rest.2)

-- the events of steps that the core machine makes
made_run : (s t : CoreState) (steps : List LaneStep) → CoreMakes s steps t → CoreRun s (map event_of steps) t
made_run s t [] made = made
made_run s t (e ∷ es) made = (made.0.0, made_run (state_after s (event_of e)) t es made.1)

runs_on : (r s t : CoreState) (events : List Event) (steps : List LaneStep) → CoreRun r events s
    → CoreMakes s steps t → CoreRun r (events ++ map event_of steps) t
runs_on r s t [] steps run made = subst (λ u. CoreRun u (map event_of steps) t) (sym run) (made_run s t steps made)
runs_on r s t (e ∷ es) steps run made = (run.0, runs_on (state_after r e) s t es steps run.1 made)

pub lanes_run : LanesRunAsCore
lanes_run inputs workers steps queues some within allows may =
    let start = core_start inputs workers in
    let seeds = seed_run workers inputs some inputs 0 start (omega arith) (seeded_start workers inputs) in
    let made = steps_run workers some queues steps seeds.0 (lane_numbers inputs workers) (λ _. false)
    (seeded_follows workers inputs seeds.0 seeds.2) within allows may in (
      seeds.0,
      made.0,
      seeds.1,
      made.1,
      runs_on start seeds.0 made.0 (map Seed (range_with_len 0 inputs)) steps seeds.1 made.1,
      made.2,
    )
