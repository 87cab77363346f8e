-- The laws of the core machine's runs.
use Rattle.std.proofs.Common.{◌≡◌, ℕ, ◌<◌, true, List, [], ◌∷◌, ◌++◌, length, sum_by, All, nat_lt, if◌then◌else◌, refl}
use Rattle.std.proofs.Common.{sym, ap, ◌∙◌, subst, arith}
use Rattle.std.proofs.lemmas.List.Sums.{sum_by-append, sum_by-cons}
use Rattle.std.proofs.Math.ListN.{length-replicate}
use Rattle.std.proofs.lemmas.List.Elements.{All-nil, All-cons, All-get_or, All-head, All-tail}
use Rattle.std.specs.List.{flat_map}
use Rattle.index_pool.specs.declared.core_machine.Event.{Event}
use Rattle.index_pool.specs.CoreMachine.{WorkerState, CoreState, idle, core_start, state_after, CoreRun, LosesNoNumber}
use Rattle.index_pool.specs.CoreMachine.{TakesEachNumber}
use Rattle.index_pool.specs.CoreFields.{held, NotesTruly, IsSound}
use Rattle.index_pool.proofs.OnceLemmas.{only_at, sum_only_at-range}
use Rattle.index_pool.proofs.CoreMachineLemmas.{sound_start, sound_after, workers_after, inputs_after}

-- after a run the machine is sound, with as many workers and inputs as at first
follows_run : (s : CoreState) (events : List Event) (t : CoreState) → IsSound s → 0 < length s.workers
    → CoreRun s events t → IsSound t × (length t.workers ≡ length s.workers) × (t.inputs ≡ s.inputs)
follows_run s [] t sound some run =
    (subst IsSound run sound, ap (λ u. length u.workers) (sym run), ap (λ u. u.inputs) (sym run))
follows_run s (e ∷ es) t sound some run =
    let count = workers_after s e in
    let later = follows_run (state_after s e) es t (sound_after s e sound some run.0) (omega arith) run.1 in
    (later.0, later.1 ∙ count, later.2 ∙ inputs_after s e)

-- the same of a run from the start
from_start : (inputs workers : ℕ) (events : List Event) (t : CoreState) → 0 < workers
    → CoreRun (core_start inputs workers) events t → IsSound t × (length t.workers ≡ workers) × (t.inputs ≡ inputs)
from_start inputs workers events t some run =
    let count : length (core_start inputs workers).workers ≡ workers = length-replicate workers idle in
    let later = follows_run (core_start inputs workers) events t (sound_start inputs workers) (omega arith) run in
    (later.0, later.1 ∙ count, later.2)

held_by_all : (h : ℕ → ℕ) (xs : List WorkerState)
    → sum_by h (flat_map (λ x. x.queue ++ x.takings) xs) ≡ sum_by (held h) xs
held_by_all h [] = refl
held_by_all h (x ∷ xs) =
    let a = sum_by-append h (x.queue ++ x.takings) (flat_map (λ y. y.queue ++ y.takings) xs) in
    let b = sum_by-append h x.queue x.takings in
    let c = held_by_all h xs in
    let d = sum_by-cons (held h) x xs in omega arith

taken_by_all : (h : ℕ → ℕ) (xs : List WorkerState) → All (λ x. x.queue ≡ []) xs
    → sum_by h (flat_map (λ x. x.takings) xs) ≡ sum_by (held h) xs
taken_by_all h [] empty = refl
taken_by_all h (x ∷ xs) empty =
    let a = sum_by-append h x.takings (flat_map (λ y. y.takings) xs) in
    let b : sum_by h x.queue ≡ 0 = ap (sum_by h) (All-head (λ y. y.queue ≡ []) x xs empty) in
    let c = taken_by_all h xs (All-tail (λ y. y.queue ≡ []) x xs empty) in
    let d = sum_by-cons (held h) x xs in omega arith

queues_empty : (s : CoreState) (xs : List WorkerState) → All (NotesTruly s) xs → All (λ x. x.found_empty ≡ true) xs
    → All (λ x. x.queue ≡ []) xs
queues_empty s [] truly all = All-nil (λ x. x.queue ≡ [])
queues_empty s (x ∷ xs) truly all = All-cons (λ y. y.queue ≡ []) x xs
    (All-head (NotesTruly s) x xs truly (All-head (λ y. y.found_empty ≡ true) x xs all)).0
    (queues_empty s xs (All-tail (NotesTruly s) x xs truly) (All-tail (λ y. y.found_empty ≡ true) x xs all))

pub loses_no_number : LosesNoNumber
loses_no_number inputs workers events s some run number =
    let known = from_start inputs workers events s some run in
    held_by_all (only_at number) s.workers ∙ (known.0.weighed (only_at number) ∙ sum_only_at-range number s.seeded)

pub takes_each_number : TakesEachNumber
takes_each_number inputs workers events s some run all number =
    let known = from_start inputs workers events s some run in
    let within : 0 < length s.workers = omega (arith, known.1) in
    let full : s.seeded ≡ inputs =
    (All-get_or (NotesTruly s) s.workers 0 idle within known.0.noted
    (All-get_or (λ x. x.found_empty ≡ true) s.workers 0 idle within all)).1 ∙ known.2 in
    taken_by_all (only_at number) s.workers (queues_empty s s.workers known.0.noted all)
    ∙ (known.0.weighed (only_at number)
    ∙ (sum_only_at-range number s.seeded ∙ ap (λ n. if nat_lt number n then 1 else 0) full))
