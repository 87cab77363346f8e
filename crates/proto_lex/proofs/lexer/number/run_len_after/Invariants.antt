use Rattle.std.proofs.Common.{◌≡◌, ◌+◌, length, drop}
use Rattle.proto_lex.specs.Numbers.{run_after}
use Rattle.proto_lex.proofs.lexer.number.run_len_after.Given as goal

abbrev pub invariant-loop-next : goal.invariant-loop-next
invariant-loop-next l = record {
  counted : l.len ≡ l.next-index;
  after : l.len + length (run_after l.may_hold_signs l.last (drop l.next-index l.others))
      ≡ length (run_after l.may_hold_signs l.first l.others);
}
