use Rattle.std.proofs.Common.{◌<◌, All, eqb, subst}
use Rattle.std.specs.List.{IsDistinct}
use Rattle.proto_visibility.specs.Tables.Visits.{Found}
use Rattle.proto_visibility.proofs.search.Search.found.Goals as goal

pub returns-clause-distinct : goal.returns-clause-distinct
returns-clause-distinct c = subst (λ (f : Found). IsDistinct eqb f.numbers) c.self.view_is c.self.invariant.distinct

pub returns-clause-below : goal.returns-clause-below
returns-clause-below c =
    subst (λ (f : Found). All (λ number. number < f.files) f.numbers) c.self.view_is c.self.invariant.below
