use Rattle.std.proofs.Common.{◌≡◌, drop}
use Rattle.proto_visibility.specs.Tables.Visits.{visit_all}
use Rattle.proto_visibility.proofs.search.Search.visit_all.Given as goal

abbrev pub invariant-loop-number : goal.invariant-loop-number
invariant-loop-number l =
    record {
      rest : visit_all l.self.numbers (drop l.number-index l.numbers) ≡ visit_all l.fn.self.numbers l.numbers;
      files : l.self.files ≡ l.fn.self.files;
    }
