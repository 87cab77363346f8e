use Rattle.std.proofs.Common.{◌≡◌, ◌+◌, ◌≤◌, List, length, drop}
use Rattle.proto_lex.specs.Hashes.{Commented}
use Rattle.proto_lex.specs.Reading.{pieces, joined, pieces_at}
use Rattle.proto_lex.specs.declared.token.Token.{Token}
use Rattle.proto_lex.proofs.lexer.pass_comment.Given as goal

abbrev pub invariant-pieces : goal.invariant-pieces
invariant-pieces l = record {
  read : (tokens : List Token)
      → joined (pieces l.found.tokens.items l.found.comments.items)
      (pieces_at (Commented tokens l.depth) 0 (l.at + l.len) l.rest)
      ≡ joined (pieces l.initial.found.tokens.items l.initial.found.comments.items)
      (pieces_at (Commented tokens 0) 0 l.at l.bytes);
  tokens : l.found.tokens.items ≡ l.initial.found.tokens.items;
  rest : l.rest ≡ drop l.len l.bytes;
  within : l.len ≤ length l.bytes;
  deep : l.depth ≤ l.len;
}

abbrev pub decreases-pieces : goal.decreases-pieces
decreases-pieces l = length l.rest
