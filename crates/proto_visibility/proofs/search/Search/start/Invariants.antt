use Rattle.std.proofs.Common.{◌≡◌, ◌<◌, All, length}
use Rattle.proto_visibility.proofs.SearchLemmas.{StandsFor}
use Rattle.proto_visibility.proofs.search.Search.start.Given as goal

abbrev pub invariant-loop-number : goal.invariant-loop-number
invariant-loop-number l =
    record {
      stands : StandsFor l.self-inside.marks.items l.self-inside.numbers.items;
      below : All (λ number. number < length l.self-inside.marks.items) l.self-inside.numbers.items;
      files : length l.self-inside.marks.items ≡ l.fn.self.files;
    }

abbrev pub decreases-loop-number : goal.decreases-loop-number
decreases-loop-number l = length l.self-inside.numbers.items
