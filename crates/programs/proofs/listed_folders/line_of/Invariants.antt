use Rattle.std.proofs.Common.{All, ◌≢◌, take}
use Rattle.programs.proofs.listed_folders.line_of.Given as goal

-- no line so far names the path
abbrev pub invariant-loop-one : goal.invariant-loop-one
invariant-loop-one l = All (λ named. named.path ≢ l.path) (take l.one-index l.listed)
