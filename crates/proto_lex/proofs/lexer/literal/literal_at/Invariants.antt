use Rattle.std.proofs.Common.{◌≡◌, ◌+◌, length}
use Rattle.proto_lex.specs.Reading.{literal_at}
use Rattle.proto_lex.proofs.lexer.literal.literal_at.Given as goal

abbrev pub invariant-loop-rest : goal.invariant-loop-rest
invariant-loop-rest l = record {
  read : literal_at l.quote l.opening 0 l.len l.rest ≡ literal_at l.quote l.opening 0 1 l.others;
  counted : l.len + length l.rest ≡ 1 + length l.others;
}

abbrev pub decreases-loop-rest : goal.decreases-loop-rest
decreases-loop-rest l = length l.rest
