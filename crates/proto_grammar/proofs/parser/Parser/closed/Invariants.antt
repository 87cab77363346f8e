use Rattle.std.proofs.Common.{◌≡◌, ◌+◌, ◌≤◌, length}
use Rattle.proto_grammar.specs.Reading.Options.{closed_at}
use Rattle.proto_grammar.proofs.parser.Parser.closed.Given as goal

abbrev pub invariant-tokens : goal.invariant-tokens
invariant-tokens l = record {
  same : closed_at l.depth l.self ≡ closed_at 1 l.initial.self;
  bounded : l.depth + length l.self.left ≤ l.left;
}

abbrev pub decreases-tokens : goal.decreases-tokens
decreases-tokens l = length l.self.left
