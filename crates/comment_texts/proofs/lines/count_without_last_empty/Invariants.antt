use Rattle.std.proofs.Common.{◌≡◌, ◌+◌, ◌≤◌, length, take}
use Rattle.std.specs.List.{suffix_len}
use Rattle.comment_texts.specs.Lines.{is_empty_line}
use Rattle.comment_texts.proofs.lines.count_without_last_empty.Given as goal

-- the lines from there on are empty
abbrev pub invariant-loop-end : goal.invariant-loop-end
invariant-loop-end l = record {
  within : l.end ≤ length l.lines;
  so_far : l.end + suffix_len is_empty_line l.lines
      ≡ length l.lines + suffix_len is_empty_line (take l.end l.lines);
}

abbrev pub decreases-loop-end : goal.decreases-loop-end
decreases-loop-end l = l.end
