use Rattle.std.proofs.Common.{◌≡◌, ◌+◌, ◌<◌, ◌++◌, length, map, All}
use Rattle.proto_lex.specs.Position as spec
use Rattle.proto_lex.proofs.position.line_starts.Given as goal

-- those so far, and those behind the line ends that are left
abbrev pub invariant-loop-end : goal.invariant-loop-end
invariant-loop-end l = record {
  so_far : l.starts.items ++ map (λ end. end + 1) l.end-iterator ≡ spec.line_starts l.text;
  within : All (λ end. end < length l.text) l.end-iterator;
}
