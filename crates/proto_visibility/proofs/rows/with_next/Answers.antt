use Rattle.proto_visibility.proofs.RowRunLemmas.{other_run}
use Rattle.proto_visibility.proofs.rows.with_next.Goals as goal

pub returns-clause-numbers : goal.returns-clause-numbers
returns-clause-numbers c = λ other.
    rw c.in_ok-push.ensures.items (other_run c.args.runs.now.items c.args.run c.args.next other)
