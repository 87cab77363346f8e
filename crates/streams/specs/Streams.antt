-- What one write and one read do to a sink's and a feed's counts. Counts stop at the last u64; there nothing exact is
-- known.
use Rattle.std.specs.Prelude.{ℕ, zero, suc, ◌+◌, ◌-◌, ◌^◌, min, List, [], ◌∷◌, Result, Ok, Err}

-- the count at which counts stop: the last u64
abbrev pub last_count : ℕ
last_count = 2 ^ 64 - 1

-- so many more, or the last count
abbrev pub more_by : ℕ → ℕ → ℕ
more_by k n = min (n + k) last_count

abbrev pub one_more : ℕ → ℕ
one_more n = more_by 1 n

-- of `write(bytes)`: an Err is a failure, and so is `Ok(0)` of bytes that aren't empty
abbrev pub failures_after_write : {E : Type 0} → ℕ → Result ℕ E → List ℕ → ℕ
failures_after_write n (Err e) bytes = one_more n
failures_after_write n (Ok (suc written)) bytes = n
failures_after_write n (Ok zero) [] = n
failures_after_write n (Ok zero) (b ∷ bs) = one_more n

-- of `read(room)`: an Err is a failure
abbrev pub failures_after_read : {E : Type 0} → ℕ → Result ℕ E → ℕ
failures_after_read n (Err e) = one_more n
failures_after_read n (Ok bytes_read) = n

-- of `read(room)`: one into room that isn't empty counts
abbrev pub reads_after_read : ℕ → List ℕ → ℕ
reads_after_read n [] = n
reads_after_read n (b ∷ bs) = one_more n

-- of `read(room)`: `Ok(0)` into room that isn't empty is an end
abbrev pub ends_after_read : {E : Type 0} → ℕ → Result ℕ E → List ℕ → ℕ
ends_after_read n (Err e) room = n
ends_after_read n (Ok (suc bytes_read)) room = n
ends_after_read n (Ok zero) [] = n
ends_after_read n (Ok zero) (b ∷ bs) = one_more n
