-- The private fields of the core machine: what a change of one worker does to the state, and that what they keep stays.
use Rattle.std.proofs.Common.{◌≡◌, ℕ, ◌+◌, ◌%◌, ◌<◌, ◌≤◌, List, [], ◌∷◌, length, set, get_or, slice_index, map, sum_by}
use Rattle.std.proofs.Common.{All, replicate, refl, sym, ap, ◌∙◌, subst, arith}
use Rattle.std.proofs.Math.ListN.{length-set}
use Rattle.std.proofs.lemmas.List.{length-map, map-set, get_or-map, set-get_or}
use Rattle.std.proofs.lemmas.List.Sums.{get_or-le-sum_by}
use Rattle.std.proofs.lemmas.List.FromFn.{length-range_with_len}
use Rattle.std.proofs.lemmas.List.Elements.{All-head, All-tail, All-set, All-get_or}
use Rattle.std.specs.List.{range_with_len}
use Rattle.index_pool.specs.declared.core_machine.worker.CoreWorker.{CoreWorker}
use Rattle.index_pool.specs.declared.core_machine.Event.TheVariants.{Seed, PopEmpty}
use Rattle.index_pool.specs.Workers.{most_inputs, most_workers}
use Rattle.index_pool.specs.CoreMachine.{WorkerState, CoreState, idle, core_start, worker_at, queue_of, IsReady}
use Rattle.index_pool.specs.CoreMachine.{MayHappen, queued, unqueued, taken, noted, with_worker, after_take}
use Rattle.index_pool.specs.CoreMachine.{state_after}
use Rattle.index_pool.specs.CoreFields.{worker_state, rooms, HasRoom, core_state, held, IsSound, IsCoreInvariant}
use Rattle.index_pool.proofs.OnceLemmas.{weighed_one}
use Rattle.index_pool.proofs.CoreMachineLemmas.{sound_start, sound_take, sound_after, take_weighs}

-- x is the worker at i, in the form that an index gives
pub worker_at_field : (inputs seeded : ℕ) (ws : List CoreWorker) (i : ℕ) (x : CoreWorker) → i < length ws
    → x ≡ get_or ws i x → worker_at (core_state inputs seeded ws) i ≡ worker_state x
worker_at_field inputs seeded ws i x within is = get_or-map worker_state ws i x idle within ∙ ap worker_state (sym is)

-- one worker is exchanged for one that a function of states gives
pub field_changed : (inputs seeded : ℕ) (ws : List CoreWorker) (i : ℕ) (x v : CoreWorker)
    (f : WorkerState → WorkerState) → i < length ws → x ≡ get_or ws i x → worker_state v ≡ f (worker_state x)
    → core_state inputs seeded (set ws i v)
    ≡ with_worker (core_state inputs seeded ws) i (f (worker_at (core_state inputs seeded ws) i))
field_changed inputs seeded ws i x v f within is new =
    let y : worker_state v ≡ f (worker_at (core_state inputs seeded ws) i) =
    new ∙ ap f (sym (worker_at_field inputs seeded ws i x within is)) in
    let l : map worker_state (set ws i v)
    ≡ set (map worker_state ws) i (f (worker_at (core_state inputs seeded ws) i)) =
    map-set worker_state ws i v ∙ ap (λ z. set (map worker_state ws) i z) y in
    let S : List WorkerState → CoreState = λ all. record { inputs = inputs; seeded = seeded; workers = all } in
    ap S l

pub has_room : (n : ℕ) (ws : List CoreWorker) (i : ℕ) (x : CoreWorker) → All (HasRoom n) ws → i < length ws
    → x ≡ get_or ws i x → HasRoom n x
has_room n ws i x all within is = subst (HasRoom n) (sym is) (All-get_or (HasRoom n) ws i x within all)

pub kept_change : (inputs seeded seeded' : ℕ) (ws : List CoreWorker) (i : ℕ) (x v : CoreWorker)
    → IsCoreInvariant inputs seeded ws → i < length ws → x ≡ get_or ws i x → rooms v ≡ rooms x
    → IsSound (core_state inputs seeded' (set ws i v)) → IsCoreInvariant inputs seeded' (set ws i v)
kept_change inputs seeded seeded' ws i x v kept within is same sound =
    let count = length-set ws i v in
    let R : ℕ × ℕ → Type 0 = λ r. (inputs ≤ r.0) × (inputs ≤ r.1) in
    let room : HasRoom inputs v = subst R (sym same) (has_room inputs ws i x kept.roomy within is) in
    let some = kept.some_worker in let few = kept.few_workers in record {
      some_worker = omega arith;
      few_workers = omega arith;
      few_inputs = kept.few_inputs;
      roomy = All-set (HasRoom inputs) ws i v room kept.roomy;
      sound = sound;
    }

-- no worker has more numbers than all of them
fits_in : (s : CoreState) (w : ℕ) → w < length s.workers
    → length (worker_at s w).queue + length (worker_at s w).takings ≤ sum_by (held (λ _. 1)) s.workers
fits_in s w within =
    let a = get_or-le-sum_by (held (λ _. 1)) s.workers w idle within in
    let b = weighed_one (worker_at s w).queue in
    let c = weighed_one (worker_at s w).takings in omega arith

ones_seeded : (s : CoreState) → IsSound s → sum_by (held (λ _. 1)) s.workers ≡ s.seeded
ones_seeded s sound = sound.weighed (λ _. 1)
    ∙ (weighed_one (range_with_len 0 s.seeded) ∙ length-range_with_len 0 s.seeded)

-- what a worker's index says of the machine's state
within_fields : (inputs seeded : ℕ) (ws : List CoreWorker) (w : ℕ) → w < length (core_state inputs seeded ws).workers
    → w < length ws
within_fields inputs seeded ws w within = subst (λ n. w < n) (length-map ws worker_state) within

pub queue_has_room : (inputs seeded : ℕ) (ws : List CoreWorker) (i : ℕ) (x : CoreWorker)
    → IsCoreInvariant inputs seeded ws
    → seeded < inputs → i < length ws → x ≡ get_or ws i x → length (worker_state x).queue < (rooms x).0
queue_has_room inputs seeded ws i x kept below within is =
    let s = core_state inputs seeded ws in
    let at = worker_at_field inputs seeded ws i x within is in
    let a : length (worker_at s i).queue + length (worker_at s i).takings ≤ sum_by (held (λ _. 1)) s.workers =
    fits_in s i (subst (λ n. i < n) (sym (length-map ws worker_state)) within) in
    let b = ones_seeded s kept.sound in
    let c : length (worker_at s i).queue ≡ length (worker_state x).queue = ap (λ y. length y.queue) at in
    let d = (has_room inputs ws i x kept.roomy within is).0 in omega arith

-- the next number is seeded
seed_keeps_at : (inputs seeded : ℕ) (ws : List CoreWorker) (x v : CoreWorker) (s : CoreState)
    → core_state inputs seeded ws ≡ s → IsCoreInvariant inputs seeded ws → seeded < inputs
    → x ≡ get_or ws (seeded % length ws) x → worker_state v ≡ queued (worker_state x) seeded → rooms v ≡ rooms x
    → IsCoreInvariant inputs (seeded + 1) (set ws (seeded % length ws) v)
    × (core_state inputs (seeded + 1) (set ws (seeded % length ws) v) ≡ state_after s (Seed seeded))
seed_keeps_at inputs seeded ws x v s view kept below is new same =
    let i = seeded % length ws in
    let some = kept.some_worker in
    let within : i < length ws = omega arith in
    let S = core_state inputs seeded ws in
    let counts : length ws ≡ length S.workers = sym (length-map ws worker_state) in
    let After : ℕ → CoreState = λ n. let w = seeded % n in
    record (with_worker S w (queued (worker_at S w) seeded)) { seeded = seeded + 1 } in
    let changed = field_changed inputs seeded ws i x v (λ y. queued y seeded) within is new in
    let More : CoreState → CoreState = λ t. record t { seeded = seeded + 1 } in
    let state : core_state inputs (seeded + 1) (set ws i v) ≡ state_after S (Seed seeded) =
    ap More changed ∙ ap After counts in
    let sound : IsSound (state_after S (Seed seeded)) =
    sound_after S (Seed seeded) kept.sound (subst (λ n. 0 < n) counts some) (refl, below) in (
      kept_change inputs seeded (seeded + 1) ws i x v kept within is same (subst IsSound (sym state) sound),
      state ∙ ap (λ t. state_after t (Seed seeded)) view,
    )

-- the same where the number and the count of workers were read from the fields
pub seed_keeps : (inputs seeded : ℕ) (ws : List CoreWorker) (k count : ℕ) (x v : CoreWorker) (s : CoreState)
    → k ≡ seeded → count ≡ length ws → core_state inputs seeded ws ≡ s → IsCoreInvariant inputs seeded ws → k < inputs
    → x ≡ get_or ws (k % count) x → worker_state v ≡ queued (worker_state x) k → rooms v ≡ rooms x
    → IsCoreInvariant inputs (seeded + 1) (set ws (k % count) v)
    × (core_state inputs (seeded + 1) (set ws (k % count) v) ≡ state_after s (Seed k)) × MayHappen s (Seed k)
seed_keeps inputs seeded ws k count x v s is_next is_count view kept below =
    let Keeps : ℕ × ℕ → Type 0 = λ q. x ≡ get_or ws (q.0 % q.1) x → worker_state v ≡ queued (worker_state x) q.0
    → rooms v ≡ rooms x
    → IsCoreInvariant inputs (seeded + 1) (set ws (q.0 % q.1) v)
    × (core_state inputs (seeded + 1) (set ws (q.0 % q.1) v) ≡ state_after s (Seed q.0)) × MayHappen s (Seed q.0) in
    let next : seeded < inputs = omega arith in
    let may : MayHappen s (Seed seeded) = subst (λ t. MayHappen t (Seed seeded)) view (refl, next) in
    let here : Keeps (seeded, length ws) =
    λ is new same. (let kept_at = seed_keeps_at inputs seeded ws x v s view kept next is new same in
    (kept_at.0, kept_at.1, may)) in
    subst Keeps (λ i. (sym is_next i, sym is_count i)) here

-- a worker notes that its queue is empty
pub note_keeps : (inputs seeded : ℕ) (ws : List CoreWorker) (i : ℕ) (x v : CoreWorker) (s : CoreState)
    → core_state inputs seeded ws ≡ s → IsCoreInvariant inputs seeded ws → IsReady s i → queue_of s i ≡ []
    → x ≡ get_or ws i x → worker_state v ≡ noted (worker_state x) → rooms v ≡ rooms x
    → IsCoreInvariant inputs seeded (set ws i v) × (core_state inputs seeded (set ws i v) ≡ state_after s (PopEmpty i))
note_keeps inputs seeded ws i x v s view kept ready empty is new same =
    let S = core_state inputs seeded ws in
    let R : CoreState → Type 0 = λ t. IsReady t i × (queue_of t i ≡ []) in
    let here : R S = subst R (sym view) (ready, empty) in
    let within = within_fields inputs seeded ws i here.0.1 in
    let state : core_state inputs seeded (set ws i v) ≡ state_after S (PopEmpty i) =
    field_changed inputs seeded ws i x v noted within is new in (
      kept_change inputs seeded seeded ws i x v kept within is same
          (subst IsSound (sym state)
          (sound_after S (PopEmpty i) kept.sound
          (subst (λ n. 0 < n) (sym (length-map ws worker_state)) kept.some_worker) here)),
      state ∙ ap (λ t. state_after t (PopEmpty i)) view,
    )

-- a worker is exchanged for one that shows the same
pub same_keeps : (inputs seeded : ℕ) (ws : List CoreWorker) (i : ℕ) (x v : CoreWorker) (s : CoreState)
    → core_state inputs seeded ws ≡ s → IsCoreInvariant inputs seeded ws → i < length s.workers
    → x ≡ get_or ws i x → worker_state v ≡ worker_state x → rooms v ≡ rooms x
    → IsCoreInvariant inputs seeded (set ws i v) × (core_state inputs seeded (set ws i v) ≡ s)
    × (worker_at s i ≡ worker_state x)
same_keeps inputs seeded ws i x v s view kept in_state is new same =
    let S = core_state inputs seeded ws in
    let within = within_fields inputs seeded ws i (subst (λ t. i < length t.workers) (sym view) in_state) in
    let put_back : with_worker S i (worker_at S i) ≡ S =
    ap (λ l. record S { workers = l }) (set-get_or S.workers i idle) in
    let state : core_state inputs seeded (set ws i v) ≡ S =
    field_changed inputs seeded ws i x v (λ y. y) within is new ∙ put_back in (
      kept_change inputs seeded seeded ws i x v kept within is same (subst IsSound (sym state) kept.sound),
      state ∙ view,
      ap (λ t. worker_at t i) (sym view) ∙ worker_at_field inputs seeded ws i x within is,
    )

-- the first number of one queue goes to the end of a worker's takings, which have room for it
module _ (inputs seeded : ℕ) (ws : List CoreWorker) (from to k : ℕ) (x v y : CoreWorker) (s : CoreState)
    (view : core_state inputs seeded ws ≡ s) (kept : IsCoreInvariant inputs seeded ws)
    (from_in : from < length s.workers)
    (to_in : to < length s.workers)
    (is : x ≡ get_or ws from x) (some : 0 < length (worker_state x).queue)
    (front : k ≡ slice_index (worker_state x).queue 0) (new : worker_state v ≡ unqueued (worker_state x))
    (same : rooms v ≡ rooms x) (is_to : y ≡ get_or (set ws from v) to y) where
  pub from_within : from < length ws
  from_within = within_fields inputs seeded ws from (subst (λ t. from < length t.workers) (sym view) from_in)

  pub to_within : to < length (set ws from v)
  to_within = let a = within_fields inputs seeded ws to (subst (λ t. to < length t.workers) (sym view) to_in) in
      omega (arith, length-set ws from v)

  pub queue_at : queue_of s from ≡ (worker_state x).queue
  queue_at = ap (λ t. queue_of t from) (sym view)
      ∙ ap (λ z. z.queue) (worker_at_field inputs seeded ws from x from_within is)

  pub without : core_state inputs seeded (set ws from v) ≡ with_worker s from (unqueued (worker_at s from))
  without = field_changed inputs seeded ws from x v unqueued from_within is new
      ∙ ap (λ t. with_worker t from (unqueued (worker_at t from))) view

  pub roomy_without : All (HasRoom inputs) (set ws from v)
  roomy_without =
      let R : ℕ × ℕ → Type 0 = λ r. (inputs ≤ r.0) × (inputs ≤ r.1) in
      All-set (HasRoom inputs) ws from v
      (subst R (sym same) (has_room inputs ws from x kept.roomy from_within is)) kept.roomy

  pub takings_have_room : length (worker_state y).takings < (rooms y).1
  takings_have_room =
      let mid = core_state inputs seeded (set ws from v) in
      let sound : IsSound s = subst IsSound view kept.sound in
      let at : worker_at mid to ≡ worker_state y = worker_at_field inputs seeded (set ws from v) to y to_within is_to in
      let a = fits_in mid to (subst (λ n. to < n) (sym (length-map (set ws from v) worker_state)) to_within) in
      let b : sum_by (held (λ _. 1)) mid.workers
      ≡ sum_by (held (λ _. 1)) (set s.workers from (unqueued (worker_at s from))) =
      ap (λ t. sum_by (held (λ _. 1)) t.workers) without in
      let c = take_weighs (λ _. 1) s from from_in (subst (λ q. 0 < length q) (sym queue_at) some) in
      let d = ones_seeded s sound in
      let e : length (worker_at mid to).takings ≡ length (worker_state y).takings = ap (λ z. length z.takings) at in
      let f = (has_room inputs (set ws from v) to y roomy_without to_within is_to).1 in
      let g = sound.within in
      let h : s.inputs ≡ inputs = ap (λ t. t.inputs) (sym view) in omega arith

  pub take_keeps : (u : CoreWorker) → worker_state u ≡ taken (worker_state y) k → rooms u ≡ rooms y
      → IsCoreInvariant inputs seeded (set (set ws from v) to u)
      × (core_state inputs seeded (set (set ws from v) to u) ≡ after_take s from to)
  take_keeps u new_to same_to =
      let mid = core_state inputs seeded (set ws from v) in
      let Put : CoreState → ℕ → CoreState = λ t n. with_worker t to (taken (worker_at t to) n) in
      let k_is : k ≡ slice_index (queue_of s from) 0 = front ∙ ap (λ q. slice_index q 0) (sym queue_at) in
      let state : core_state inputs seeded (set (set ws from v) to u) ≡ after_take s from to =
      field_changed inputs seeded (set ws from v) to y u (λ z. taken z k) to_within is_to new_to
      ∙ (ap (λ t. Put t k) without ∙ ap (λ n. Put (with_worker s from (unqueued (worker_at s from))) n) k_is) in
      let sound : IsSound (after_take s from to) =
      sound_take s from to (subst IsSound view kept.sound) from_in to_in
      (subst (λ q. 0 < length q) (sym queue_at) some) in
      let R : ℕ × ℕ → Type 0 = λ r. (inputs ≤ r.0) × (inputs ≤ r.1) in
      let room : HasRoom inputs u =
      subst R (sym same_to) (has_room inputs (set ws from v) to y roomy_without to_within is_to) in
      let a = length-set ws from v in
      let b = length-set (set ws from v) to u in
      let c = kept.some_worker in
      let d = kept.few_workers in (
        record {
          some_worker = omega arith;
          few_workers = omega arith;
          few_inputs = kept.few_inputs;
          roomy = All-set (HasRoom inputs) (set ws from v) to u room roomy_without;
          sound = subst IsSound (sym state) sound;
        },
        state,
      )

-- workers that are all idle
pub map_idle : (ws : List CoreWorker) → All (λ w. worker_state w ≡ idle) ws
    → map worker_state ws ≡ replicate (length ws) idle
map_idle [] all = refl
map_idle (w ∷ ws) all =
    let head = All-head (λ v. worker_state v ≡ idle) w ws all in
    let tail = map_idle ws (All-tail (λ v. worker_state v ≡ idle) w ws all) in cc

pub start_kept : (inputs workers : ℕ) (ws : List CoreWorker) → 0 < workers → workers ≤ most_workers
    → inputs ≤ most_inputs → length ws ≡ workers → All (λ w. worker_state w ≡ idle) ws → All (HasRoom inputs) ws
    → IsCoreInvariant inputs 0 ws × (core_state inputs 0 ws ≡ core_start inputs workers)
start_kept inputs workers ws some few few_inputs count idles roomy =
    let all : map worker_state ws ≡ replicate workers idle = map_idle ws idles ∙ ap (λ n. replicate n idle) count in
    let S : List WorkerState → CoreState = λ l. record { inputs = inputs; seeded = 0; workers = l } in
    let state : core_state inputs 0 ws ≡ core_start inputs workers = ap S all in (
      record {
        some_worker = omega arith;
        few_workers = omega arith;
        few_inputs = few_inputs;
        roomy = roomy;
        sound = subst IsSound (sym state) (sound_start inputs workers);
      },
      state,
    )
