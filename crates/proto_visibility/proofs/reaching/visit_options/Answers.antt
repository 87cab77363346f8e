use Rattle.std.proofs.Common.{ap}
use Rattle.proto_visibility.specs.Tables.Visits.{Found}
use Rattle.proto_visibility.proofs.ReachingLemmas.{visited_at}
use Rattle.proto_visibility.proofs.reaching.visit_options.Goals as goal

pub returns-in_ok-visit-in-Some-clause-found : goal.returns-in_ok-visit-in-Some-clause-found
returns-in_ok-visit-in-Some-clause-found c =
    visited_at c.args.options.now c.args.source c.in-Some.number c.args.search.now.numbers c.visit.new.self.numbers
    c.in-Some.ensures (ap (λ (f : Found). f.numbers) c.in_ok-visit-in-Some.ensures)
