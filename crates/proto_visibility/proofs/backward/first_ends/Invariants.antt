use Rattle.std.proofs.Common.{◌≡◌, length}
use Rattle.proto_visibility.specs.Tables.ImportTables.{HasStep, AreFollowed}
use Rattle.proto_visibility.proofs.BackwardLemmas.{AreEndsUpTo}
use Rattle.proto_visibility.proofs.backward.first_ends.Given as goal

abbrev pub invariant-loop-end : goal.invariant-loop-end
invariant-loop-end l =
    record {
      files : l.search.files ≡ length l.back;
      followed : AreFollowed (HasStep l.back) l.search.numbers (length l.search.numbers);
      ends : AreEndsUpTo l.back l.ends l.end-index l.search.numbers l.firsts.items;
    }
