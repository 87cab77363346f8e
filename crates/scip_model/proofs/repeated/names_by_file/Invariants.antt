use Rattle.std.proofs.Common.{◌≡◌, length, map}
use Rattle.std.specs.String.{string_bytes}
use Rattle.scip_model.proofs.RepeatedLemmas.{AreTaken}
use Rattle.scip_model.proofs.repeated.names_by_file.Given as goal

-- the files so far are taken
abbrev pub invariant-loop-number : goal.invariant-loop-number
invariant-loop-number l = record {
  size : length l.repeated.items ≡ length l.linker;
  taken : AreTaken l.linker l.number-items l.number-index l.holders
      (map (λ names. map string_bytes names.keys) l.repeated.items);
}
