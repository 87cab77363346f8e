use Rattle.std.proofs.Common.{◌∙◌, Err, ap, sym, arith, length-drop}
use Rattle.std.proofs.lemmas.Result.{err_from_is_err_and}
use Rattle.proto_lex.proofs.LiteralLemmas.{literal_step, literal_fault, literal_close, literal_end, character_positive}
use Rattle.proto_lex.proofs.ReadingTestLemmas.{length-after}
use Rattle.proto_lex.proofs.lexer.literal.literal_at.Goals as goal

pub returns-then-first-quote-clause-value : goal.returns-then-first-quote-clause-value
returns-then-first-quote-clause-value c =
    sym (literal_close _ _ _ _ c.in-len1-up.len_at_least c.if-first-quote.true) ∙ c.loop-rest.invariant.read

pub returns-in_err-more-clause-value : goal.returns-in_err-more-clause-value
returns-in_err-more-clause-value c =
    let p = err_from_is_err_and c.from_residual.result c.from_residual.ensures.1 in
    let fault = literal_fault _ _ _ _ _ c.in-len1-up.len_at_least c.if-first-quote.false
    (sym c.character_at.ensures.value ∙ c.in_err-more.was) in
    p.1 ∙ (ap Err p.2 ∙ (sym fault ∙ c.loop-rest.invariant.read))

pub loop-rest-smaller : goal.loop-rest-smaller
loop-rest-smaller c =
    let more = character_positive _ _ _ _ _ (sym c.character_at.ensures.value ∙ c.in_ok-more.was) in
    rw c.tail-rest.ensures (omega (arith, length-drop c.in_ok-more.more c.loop-rest.rest.now, more))

pub loop-rest-preserved : goal.loop-rest-preserved
loop-rest-preserved c =
    let read = sym c.character_at.ensures.value ∙ c.in_ok-more.was in
    let step = literal_step _ _ _ _ _ c.in-len1-up.len_at_least c.if-first-quote.false read in
    record {
      read = rw c.tail-rest.ensures (sym step ∙ c.loop-rest.invariant.read);
      counted = rw c.tail-rest.ensures
          (omega (
            arith,
            length-drop c.in_ok-more.more c.loop-rest.rest.now,
            c.in_ok-more.ensures.within,
            length-after c.loop-rest.rest.now c.in-len1-up.len_at_least,
          ));
    }

pub returns-clause-value : goal.returns-clause-value
returns-clause-value c = sym (literal_end _ _ _ c.loop-rest.rest.now (omega arith)) ∙ c.loop-rest.invariant.read
