use Rattle.std.proofs.Common.{◌≡◌, ◌==◌, false, arith, subst, ℕ, ◌++◌, ◌∷◌, [], sym, refl}
use Rattle.std.proofs.lemmas.Bool.Decides.{nat_tests}
use Rattle.std.proofs.lemmas.Result.{err_from_is_err_and}
use Rattle.scip_query.specs.Tables.ConversingSteps.{Goes}
use Rattle.scip_query.proofs.ConversationLemmas.{byte_kept, byte_refused, line_goes}
use Rattle.scip_query.proofs.conversation.Answering.take_in.Goals as goal

pub returns-in_err-keep : goal.returns-in_err-keep
returns-in_err-keep g c = λ first read stands.
    let sink = g.W.Sink in
    let p = err_from_is_err_and c.from_residual.result c.from_residual.ensures.1 in
    rw (p.1, p.2) (byte_refused sink c.args.self.now first read c.args.byte
    c.args.conversation.now c.args.answers.now stands)

pub returns-then-byte-eq10 : goal.returns-then-byte-eq10
returns-then-byte-eq10 g c = λ first read stands.
    let sink = g.W.Sink in
    subst (λ (b : ℕ). Goes sink c.args.self.now first
    (read ++ b ∷ []) c.reply.new.conversation c.reply.new.answers c.reply.result)
    (sym c.if-byte-eq10.true)
    (line_goes sink c.args.self.now first read c.args.conversation.now c.reply.new.conversation
    c.args.answers.now c.reply.new.answers c.reply.result stands c.reply.ensures)

pub returns-in_ok-keep : goal.returns-in_ok-keep
returns-in_ok-keep g c = λ first read stands.
    let sink = g.W.Sink in
    let inside : (c.args.byte == 10) ≡ false = grind (arith, nat_tests) in
    byte_kept sink c.args.self.now first read c.args.byte c.args.conversation.now
    (record { line = c.keep.new.line; written = c.args.conversation.now.written }) c.args.answers.now inside stands
    c.in_ok-keep.ensures refl
