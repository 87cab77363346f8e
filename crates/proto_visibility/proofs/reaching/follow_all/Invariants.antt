use Rattle.std.proofs.Common.{◌≡◌, ◌-◌, length}
use Rattle.proto_visibility.specs.Tables.ImportTables.{HasStep}
use Rattle.proto_visibility.specs.Tables.OptionTables.{ByEach}
use Rattle.proto_visibility.proofs.SeeingLemmas.{Follows}
use Rattle.proto_visibility.proofs.reaching.follow_all.Given as goal

abbrev pub invariant-loop-next : goal.invariant-loop-next
invariant-loop-next l =
    record {
      reached : Follows (ByEach (HasStep l.table)) l.fn.search.numbers l.done l.search.numbers;
      files : l.search.files ≡ length l.table;
    }

abbrev pub decreases-loop-next : goal.decreases-loop-next
decreases-loop-next l = length l.table - l.done
