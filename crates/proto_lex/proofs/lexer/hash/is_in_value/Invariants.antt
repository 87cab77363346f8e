use Rattle.std.proofs.Common.{◌≡◌, ◌+◌, ◌≤◌, length, reverse, take}
use Rattle.proto_lex.specs.Hashes.{is_in_value}
use Rattle.proto_lex.proofs.lexer.hash.is_in_value.Given as goal

abbrev pub invariant-tokens : goal.invariant-tokens
invariant-tokens l = record {
  same : is_in_value l.closed (reverse (take l.count l.tokens)) ≡ is_in_value 0 (reverse l.tokens);
  within : l.closed + l.count ≤ length l.tokens;
}

abbrev pub decreases-tokens : goal.decreases-tokens
decreases-tokens l = l.count
