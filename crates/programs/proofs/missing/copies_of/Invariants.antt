use Rattle.std.proofs.Common.{◌≡◌, map, string_bytes, take}
use Rattle.programs.proofs.missing.copies_of.Given as goal

-- the paths so far
abbrev pub invariant-loop-path : goal.invariant-loop-path
invariant-loop-path l = map string_bytes l.copies.items ≡ map string_bytes (take l.path-index l.paths)
