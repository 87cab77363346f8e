use Rattle.std.proofs.lemmas.Result.{IfOk-weaker}
use Rattle.proto_visibility.proofs.leading.seen_from.Goals as goal

pub returns-in_ok-search_from-in-None-clause-seen : goal.returns-in_ok-search_from-in-None-clause-seen
returns-in_ok-search_from-in-None-clause-seen c =
    IfOk-weaker c.to_runs.result _ _ (λ row are other. (
      λ there. (c.in_ok-search_from-in-None.ensures.seen other).0 ((are other).0 there),
      λ sees. (are other).1 ((c.in_ok-search_from-in-None.ensures.seen other).1 sees),
    )) c.to_runs.ensures
