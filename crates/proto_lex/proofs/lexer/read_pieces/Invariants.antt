use Rattle.std.proofs.Common.{◌≡◌, ◌+◌, length}
use Rattle.proto_lex.specs.Hashes.{behind}
use Rattle.proto_lex.specs.Reading.{pieces, joined, pieces_at, pieces_of}
use Rattle.proto_lex.proofs.lexer.read_pieces.Given as goal

abbrev pub invariant-loop-rest : goal.invariant-loop-rest
invariant-loop-rest l = record {
  read : joined (pieces l.found.tokens.items l.found.comments.items)
      (pieces_at (behind l.hashes l.found.tokens.items) 0 l.at l.rest)
      ≡ pieces_of l.hashes l.bytes;
  counted : l.at + length l.rest ≡ length l.bytes;
}

abbrev pub decreases-loop-rest : goal.decreases-loop-rest
decreases-loop-rest l = length l.rest
