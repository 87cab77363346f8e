use Rattle.std.proofs.Common.{◌≡◌, ◌+◌, ◌-◌, ◌≤◌, length, drop}
use Rattle.std.specs.List.{prefix_len}
use Rattle.comment_texts.specs.Lines.{is_empty_line}
use Rattle.comment_texts.proofs.lines.first_empty_count.Given as goal

-- the lines so far are empty
abbrev pub invariant-loop-start : goal.invariant-loop-start
invariant-loop-start l = record {
  within : l.start ≤ length l.lines;
  so_far : l.start + prefix_len is_empty_line (drop l.start l.lines) ≡ prefix_len is_empty_line l.lines;
}

abbrev pub decreases-loop-start : goal.decreases-loop-start
decreases-loop-start l = length l.lines - l.start
