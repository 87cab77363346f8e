use Rattle.std.proofs.Common.{◌↔◌, ℕ, take}
use Rattle.std.specs.List.{Contains}
use Rattle.proto_visibility.specs.Kept.{IsKeptFile}
use Rattle.proto_visibility.proofs.omissions.kept_among.Given as goal

abbrev pub invariant-loop-number : goal.invariant-loop-number
invariant-loop-number l = (number : ℕ) → Contains l.kept.items number
    ↔ (Contains (take l.number-index l.numbers) number × IsKeptFile l.omissions number)
