use Rattle.std.proofs.Common.{◌≡◌, ◌∷◌, take, string_bytes}
use Rattle.std.specs.List.{join_with_byte}
use Rattle.proto_lex.specs.Ascii as ascii
use Rattle.comment_texts.proofs.joined.joined_lines.Given as goal

-- the lines so far
abbrev pub invariant-loop-line : goal.invariant-loop-line
invariant-loop-line l = string_bytes l.joined ≡ join_with_byte ascii.line_feed (l.first ∷ take l.line-index l.others)
