use Rattle.std.proofs.Common.{◌≡◌, length}
use Rattle.proto_visibility.specs.Tables.Passes.{IsKeptSource}
use Rattle.proto_visibility.proofs.SeeingReachableLemmas.{HasBegun}
use Rattle.proto_visibility.proofs.omissions.begin_kept.Given as goal

abbrev pub invariant-loop-number : goal.invariant-loop-number
invariant-loop-number l =
    record {
      files : l.search.files ≡ length l.table;
      begun : HasBegun (IsKeptSource l.files l.omissions) l.table l.number l.fn.search.numbers l.search.numbers;
    }
