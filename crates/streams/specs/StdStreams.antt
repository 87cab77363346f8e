-- What `Std` keeps.
use Rattle.std.specs.Prelude.{ℕ}
use Rattle.streams.specs.declared.std_streams.Std.{Std}

-- the writer or reader
abbrev pub inner_of : {T : Type 0} → Std T → T
inner_of s = s.inner

abbrev pub failures_of : {T : Type 0} → Std T → ℕ
failures_of s = s.failures

abbrev pub reads_of : {T : Type 0} → Std T → ℕ
reads_of s = s.reads

abbrev pub ends_of : {T : Type 0} → Std T → ℕ
ends_of s = s.ends
