use Rattle.std.proofs.Common.{◌≡◌, ◌∙◌, ap}
use Rattle.std.specs.Ordering.{is_lt}
use Rattle.scip_query.proofs.RunLemmas.{answer_of}
use Rattle.scip_query.proofs.run.fn.run_near.partition_point+2.Goals as goal

pub returns : goal.returns
returns g c =
    λ to by.
    let call = (g.met.F.FnMut.1.post_iff _ _ _).0 c.compare.ensures in
    c.is_lt.ensures ∙ ap is_lt (answer_of g.F.Fn (λ a r. r ≡ to a.0.now) _ _ _ _ call.1 by)
