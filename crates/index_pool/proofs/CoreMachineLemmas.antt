-- Each possible event keeps the core machine sound.
use Rattle.std.proofs.Common.{◌≡◌, ℕ, ◌+◌, ◌%◌, ◌<◌, [], length, drop, set, slice_index, sum_by, All, refl, ap, ◌∙◌}
use Rattle.std.proofs.Common.{arith}
use Rattle.std.proofs.Math.ListN.{length-set}
use Rattle.std.proofs.lemmas.List.Sums.{sum_by-set, sum_by_push}
use Rattle.std.proofs.lemmas.List.Folds.{sum_by-replicate}
use Rattle.std.proofs.lemmas.List.Elements.{All-set, All-get_or, All-replicate, All-weaker}
use Rattle.index_pool.specs.declared.core_machine.Event.{Event}
use Rattle.index_pool.specs.declared.core_machine.Event.TheVariants.{Seed, Pop, PopEmpty, Steal, StealEmpty, StealRetry}
use Rattle.index_pool.specs.CoreMachine.{WorkerState, CoreState, idle, core_start, worker_at, queue_of, neighbour}
use Rattle.index_pool.specs.CoreMachine.{IsReady, MayHappen, queued, unqueued, taken, noted, with_worker, after_take}
use Rattle.index_pool.specs.CoreMachine.{state_after}
use Rattle.index_pool.specs.CoreFields.{held, NotesTruly, IsSound}
use Rattle.index_pool.proofs.OnceLemmas.{sum_by-range_more, sum_by-front}

held_queued : (h : ℕ → ℕ) (x : WorkerState) (k : ℕ) → held h (queued x k) ≡ held h x + h k
held_queued h x k = let e = sum_by_push h x.queue k in omega arith

held_taken : (h : ℕ → ℕ) (x : WorkerState) (k : ℕ) → held h (taken x k) ≡ held h x + h k
held_taken h x k = let e = sum_by_push h x.takings k in omega arith

held_unqueued : (h : ℕ → ℕ) (x : WorkerState) → 0 < length x.queue
    → held h (unqueued x) + h (slice_index x.queue 0) ≡ held h x
held_unqueued h x some = let e = sum_by-front h x.queue some in omega arith

weigh_with : (h : ℕ → ℕ) (s : CoreState) (w : ℕ) (y : WorkerState) → w < length s.workers
    → sum_by (held h) (set s.workers w y) + held h (worker_at s w) ≡ sum_by (held h) s.workers + held h y
weigh_with h s w y within = sum_by-set (held h) s.workers w y idle within

-- a state without the first number of a queue
pub take_weighs : (h : ℕ → ℕ) (s : CoreState) (from : ℕ) → from < length s.workers → 0 < length (queue_of s from)
    → sum_by (held h) (set s.workers from (unqueued (worker_at s from))) + h (slice_index (queue_of s from) 0)
    ≡ sum_by (held h) s.workers
take_weighs h s from within some = let a = weigh_with h s from (unqueued (worker_at s from)) within in let b =
    held_unqueued h (worker_at s from) some in omega arith

pub notes_at : (s : CoreState) (w : ℕ) → IsSound s → w < length s.workers → NotesTruly s (worker_at s w)
notes_at s w sound within = All-get_or (NotesTruly s) s.workers w idle within sound.noted

pub sound_start : (inputs workers : ℕ) → IsSound (core_start inputs workers)
sound_start inputs workers = record {
  weighed = λ h. sum_by-replicate (held h) workers idle ∙ omega arith;
  noted = All-replicate (NotesTruly (core_start inputs workers)) workers idle (λ no. cc);
  within = omega arith;
}

sound_seed : (s : CoreState) (k : ℕ) → IsSound s → 0 < length s.workers → k ≡ s.seeded → k < s.inputs
    → IsSound (state_after s (Seed k))
sound_seed s k sound some is below =
    let w = k % length s.workers in
    let within : w < length s.workers = omega arith in
    let y = queued (worker_at s w) k in
    let t = state_after s (Seed k) in record {
      weighed = λ h. (let a = weigh_with h s w y within in let b = held_queued h (worker_at s w) k in
          let c = sound.weighed h in let d = sum_by-range_more h s.seeded in let e : h k ≡ h s.seeded = ap h is in
          omega arith);
      noted = All-set (NotesTruly t) s.workers w y
          (λ note. absurd (let e = (notes_at s w sound within note).1 in omega arith))
          (All-weaker (NotesTruly s) (NotesTruly t)
          (λ x old note. absurd (let e = (old note).1 in omega arith)) s.workers sound.noted);
      within = omega arith;
    }

pub sound_take : (s : CoreState) (from to : ℕ) → IsSound s → from < length s.workers → to < length s.workers
    → 0 < length (queue_of s from) → IsSound (after_take s from to)
sound_take s from to sound from_within to_within some =
    let k = slice_index (queue_of s from) 0 in
    let mid = with_worker s from (unqueued (worker_at s from)) in
    let to_mid : to < length mid.workers = omega (arith, length-set s.workers from (unqueued (worker_at s from))) in
    let mid_notes : All (NotesTruly s) mid.workers =
    All-set (NotesTruly s) s.workers from (unqueued (worker_at s from))
    (λ note. (ap (drop 1) (notes_at s from sound from_within note).0, (notes_at s from sound from_within note).1))
    sound.noted in record {
      weighed = λ h. (let a = take_weighs h s from from_within some in
          let c = weigh_with h mid to (taken (worker_at mid to) k) to_mid in let d =
          held_taken h (worker_at mid to) k in let e = sound.weighed h in omega arith);
      noted = All-set (NotesTruly s) mid.workers to (taken (worker_at mid to) k)
          (All-get_or (NotesTruly s) mid.workers to idle to_mid mid_notes) mid_notes;
      within = sound.within;
    }

pub sound_note : (s : CoreState) (w : ℕ) → IsSound s → IsReady s w → queue_of s w ≡ []
    → IsSound (state_after s (PopEmpty w))
sound_note s w sound ready empty = record {
  weighed = λ h. (let a = weigh_with h s w (noted (worker_at s w)) ready.1 in let e = sound.weighed h in omega arith);
  noted = All-set (NotesTruly s) s.workers w (noted (worker_at s w)) (λ _. (empty, ready.0)) sound.noted;
  within = sound.within;
}

pub neighbour_within : (s : CoreState) (w : ℕ) → 0 < length s.workers → neighbour s w < length s.workers
neighbour_within s w some = omega arith

pub sound_after : (s : CoreState) (e : Event) → IsSound s → 0 < length s.workers → MayHappen s e
    → IsSound (state_after s e)
sound_after s (Seed k) sound some may = sound_seed s k sound some may.0 may.1
sound_after s (Pop w) sound some may = sound_take s w w sound may.0.1 may.0.1 may.1
sound_after s (PopEmpty w) sound some may = sound_note s w sound may.0 may.1
sound_after s (Steal w) sound some may =
    sound_take s (neighbour s w) w sound (neighbour_within s w some) may.0.0.1 may.1
sound_after s (StealEmpty w) sound some may = sound
sound_after s (StealRetry w) sound some may = sound

-- no event changes how many workers and inputs there are
pub workers_after : (s : CoreState) (e : Event) → length (state_after s e).workers ≡ length s.workers
workers_after s (Seed k) = length-set s.workers _ _
workers_after s (Pop w) = length-set _ w _ ∙ length-set s.workers w _
workers_after s (PopEmpty w) = length-set s.workers w _
workers_after s (Steal w) = length-set _ w _ ∙ length-set s.workers _ _
workers_after s (StealEmpty w) = refl
workers_after s (StealRetry w) = refl

pub inputs_after : (s : CoreState) (e : Event) → (state_after s e).inputs ≡ s.inputs
inputs_after s (Seed k) = refl
inputs_after s (Pop w) = refl
inputs_after s (PopEmpty w) = refl
inputs_after s (Steal w) = refl
inputs_after s (StealEmpty w) = refl
inputs_after s (StealRetry w) = refl
