-- What a phase answers, by the meaning of its job: `gives k r` says that `run` may return r for input k.
use Rattle.std.specs.Prelude.{◌≡◌, ℕ, ◌<◌, ⊤, List, length, slice_get, Option, Some, None, Result, Ok, Err}
use Rattle.index_pool.specs.declared.phase.fault.PoolFault.{PoolFault}
use Rattle.index_pool.specs.declared.phase.fault.PoolFault.TheVariants.{Spawn, Memory, Job}

-- n answers, and answer k is one to input k
abbrev pub AnswersEach : {Out Fault : Type 0} → (ℕ → Result Out Fault → Type 0) → ℕ → List Out → Type 0
AnswersEach {Out} gives n outs =
    (length outs ≡ n) × ((k : ℕ) (out : Out) → slice_get outs k ≡ Some out → gives k (Ok out))

-- input k may give this fault, and each lesser input has an answer
abbrev pub IsLeastFault : {Out Fault : Type 0} → (ℕ → Result Out Fault → Type 0) → ℕ → ℕ → Fault → Type 0
IsLeastFault {Out} gives n k fault = (k < n) × gives k (Err fault) × ((j : ℕ) → j < k → (out : Out) × gives j (Ok out))

-- a thread is refused only if one is to be started, that is, for two workers or more; nothing is said about refused
-- memory; an input's fault is the least one
abbrev pub MayRefuse : {Out Fault : Type 0} → (ℕ → Result Out Fault → Type 0) → ℕ → ℕ → PoolFault Fault → Type 0
MayRefuse gives n workers Spawn = 1 < workers
MayRefuse gives n workers Memory = ⊤
MayRefuse gives n workers (Job k fault) = IsLeastFault gives n k fault

-- also where an input has a fault, each of the n inputs was run, and gave what it may give
abbrev pub EachIsRun : {Out Fault : Type 0} → (ℕ → Result Out Fault → Type 0) → ℕ → PoolFault Fault → Type 0
EachIsRun gives n Spawn = ⊤
EachIsRun gives n Memory = ⊤
EachIsRun {Out} {Fault} gives n (Job k fault) = (j : ℕ) → j < n → (answer : Result Out Fault) × gives j answer

-- one of the starts of this many workers' threads is refused, by its number, from 1
abbrev pub IsStartRefused : Option ℕ → ℕ → Type 0
IsStartRefused (Some number) workers = (0 < number) × (number < workers)
IsStartRefused None workers = ⊥
