use Rattle.std.proofs.Common.{◌≤◌, length, subst}
use Rattle.proto_visibility.specs.Tables.Visits.{Found}
use Rattle.proto_visibility.proofs.SearchLemmas.{few_found}
use Rattle.proto_visibility.proofs.search.Search.nth.Goals as goal

pub returns-clause-few : goal.returns-clause-few
returns-clause-few c = subst (λ (f : Found). length f.numbers ≤ f.files) c.self.view_is
    (few_found c.self.inside.marks.items c.self.inside.numbers.items c.self.invariant)
