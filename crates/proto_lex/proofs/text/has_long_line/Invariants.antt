use Rattle.std.proofs.Common.{◌+◌, ◌<◌, ℕ, get_or}
use Rattle.proto_lex.proofs.text.has_long_line.Given as goal

-- no line so far is long
abbrev pub invariant-loop-line : goal.invariant-loop-line
invariant-loop-line l = (line : ℕ) → line < l.line → get_or l.starts line 0 + 1024 < get_or l.starts (line + 1) l.len → ⊥
