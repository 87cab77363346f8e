use Rattle.std.proofs.Common.{◌≡◌, take}
use Rattle.std.specs.List.{filter}
use Rattle.protoscip.specs.ToldLines.{is_read}
use Rattle.protoscip.proofs.telling.told_read.Given as goal

-- those so far
abbrev pub invariant-loop-omission : goal.invariant-loop-omission
invariant-loop-omission l = l.read.items ≡ filter is_read (take l.omission-index l.told)
