use Rattle.std.proofs.lemmas.Result.{on_ok_weaker}
use Rattle.scip_survey.proofs.ReadBackLemmas.{one_read}
use Rattle.scip_survey.proofs.records.push_own.Goals as goal

pub returns-in-Some-clause-reads_back : goal.returns-in-Some-clause-reads_back
returns-in-Some-clause-reads_back c =
    rw c.in-Some.is (on_ok_weaker c.push_metadata.result (λ one json. one_read _ (one json))
    c.push_metadata.ensures.reads_back)
