use Rattle.std.proofs.Common.{◌≡◌, length}
use Rattle.proto_visibility.specs.Files.{IsSource}
use Rattle.proto_visibility.proofs.SeeingReachableLemmas.{HasBegun}
use Rattle.proto_visibility.proofs.seeing.begin_sources.Given as goal

abbrev pub invariant-loop-number : goal.invariant-loop-number
invariant-loop-number l =
    record {
      files : l.search.files ≡ length l.table;
      begun : HasBegun (IsSource l.files) l.table l.number l.fn.search.numbers l.search.numbers;
    }
