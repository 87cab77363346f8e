use Rattle.std.proofs.Common.{◌≡◌, ◌+◌, ◌≤◌, length}
use Rattle.proto_options.specs.Grammar.Passed.{behind_open}
use Rattle.proto_options.proofs.odd.pass_open.Given as goal

abbrev pub invariant-tokens : goal.invariant-tokens
invariant-tokens l = record {
  same : behind_open l.braces l.brackets l.cursor.left
      ≡ behind_open l.open_braces l.open_brackets l.initial.cursor.left;
  end : l.cursor.end ≡ l.initial.cursor.end;
  bounded : l.braces + l.brackets + length l.cursor.left ≤ l.most;
}

abbrev pub decreases-tokens : goal.decreases-tokens
decreases-tokens l = length l.cursor.left
