use Rattle.std.proofs.Common.{ℕ, List, ◌+◌, ◌++◌, take, drop, subst, Err, arith}
use Rattle.std.proofs.lemmas.Result.{err_from_is_err_and}
use Rattle.scip_query.specs.Tables.ConversingSteps.{Goes}
use Rattle.scip_query.proofs.ConversationLemmas.{refused_further, taken_all}
use Rattle.scip_query.proofs.conversation.Answering.take_in_all.Goals as goal

pub returns-in_err-take_in : goal.returns-in_err-take_in
returns-in_err-take_in g c = λ first read stands.
    let sink = g.W.Sink in
    let p = err_from_is_err_and c.from_residual.result c.from_residual.ensures.1 in
    let at = c.loop-byte.byte-index in
    let refused = c.in_err-take_in.ensures first (read ++ take at c.args.bytes.now)
    (c.loop-byte.invariant first read stands) in
    rw (p.1, p.2) (subst (λ (bytes : List ℕ). Goes sink c.args.self.now first bytes
    c.take_in.new.conversation c.take_in.new.answers (Err c.in_err-take_in.field-0.0))
    (taken_all read c.args.bytes.now at (omega arith))
    (refused_further sink c.args.self.now first _
    (drop (at + 1) c.args.bytes.now) c.take_in.new.conversation c.take_in.new.conversation c.take_in.new.answers
    c.in_err-take_in.field-0.0 refused))
