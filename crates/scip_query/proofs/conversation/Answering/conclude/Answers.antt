use Rattle.std.proofs.Common.{sym, ◌∙◌, arith}
use Rattle.scip_query.proofs.ConversationLemmas.{nothing_begun, last_concludes}
use Rattle.scip_query.proofs.CommandLineLemmas.{no_items, some_items}
use Rattle.scip_query.proofs.conversation.Answering.conclude.Goals as goal

pub returns-then-is_empty : goal.returns-then-is_empty
returns-then-is_empty g c = λ first read stands.
    let sink = g.W.Sink in
    nothing_begun sink c.args.self.now first read c.args.conversation.now c.args.answers.now
    stands
    (no_items c.args.conversation.now.line.items c.args.conversation.now.line.len
    (omega (arith, c.args.conversation.now.line.ok.0)) (sym c.is_empty.ensures ∙ c.if-is_empty.true))

pub returns-else-is_empty : goal.returns-else-is_empty
returns-else-is_empty g c = λ first read stands.
    let sink = g.W.Sink in
    last_concludes sink c.args.self.now first read c.args.conversation.now
    c.reply.new.conversation c.args.answers.now c.reply.new.answers c.reply.result stands
    (some_items c.args.conversation.now.line.items c.args.conversation.now.line.len
    (omega (arith, c.args.conversation.now.line.ok.0)) (sym c.is_empty.ensures ∙ c.if-is_empty.false))
    c.reply.ensures
