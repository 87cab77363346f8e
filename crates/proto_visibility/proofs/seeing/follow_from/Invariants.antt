use Rattle.std.proofs.Common.{◌≡◌, ◌-◌, length}
use Rattle.proto_visibility.specs.Tables.ImportTables.{HasStep}
use Rattle.proto_visibility.proofs.SeeingLemmas.{Follows}
use Rattle.proto_visibility.proofs.seeing.follow_from.Given as goal

abbrev pub invariant-loop-next : goal.invariant-loop-next
invariant-loop-next l =
    record {
      reached : Follows (HasStep l.table) l.fn.search.numbers l.done l.search.numbers;
      files : l.search.files ≡ length l.table;
    }

abbrev pub decreases-loop-next : goal.decreases-loop-next
decreases-loop-next l = length l.table - l.done
