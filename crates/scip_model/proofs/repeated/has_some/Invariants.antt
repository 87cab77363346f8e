use Rattle.std.specs.Prelude.{map}
use Rattle.std.specs.String.{string_bytes}
use Rattle.scip_model.proofs.RepeatedNameLemmas.{NoneBefore}
use Rattle.scip_model.proofs.repeated.has_some.Given as goal

-- none so far
abbrev pub invariant-loop-names : goal.invariant-loop-names
invariant-loop-names l = NoneBefore (λ names. map string_bytes names.keys) l.repeated l.names-index
