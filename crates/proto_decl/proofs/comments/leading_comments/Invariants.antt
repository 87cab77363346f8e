use Rattle.std.proofs.Common.{◌≤◌}
use Rattle.proto_lex.specs.Position.{line_of}
use Rattle.proto_decl.proofs.CommentLeadingLemmas.{IsRun, IsNextLine}
use Rattle.proto_decl.proofs.comments.leading_comments.Given as goal

-- the comments so far may lead, and begin at the next place, on a line that is free of other tokens
abbrev pub invariant-loop-start : goal.invariant-loop-start
invariant-loop-start l = record {
  within : l.start ≤ l.end;
  run : IsRun l.lexed (line_of l.lexed.text l.offset) l.start l.end;
  next : IsNextLine l.lexed (line_of l.lexed.text l.offset) l.start l.end (line_of l.lexed.text l.next);
  free : l.from ≤ l.next;
}

abbrev pub decreases-loop-start : goal.decreases-loop-start
decreases-loop-start l = l.start
