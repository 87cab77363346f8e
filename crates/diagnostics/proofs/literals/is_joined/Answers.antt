use Rattle.std.proofs.Common.{◌∙◌, ap, sym, arith, bytes_eq, ◌-◌}
use Rattle.diagnostics.specs.Literals.{texts_of}
use Rattle.diagnostics.proofs.LiteralTextLemmas.{spelled_end, spelled_more, spelled_not, text_more, text_none}
use Rattle.diagnostics.proofs.literals.is_joined.Goals as goal

pub returns-in-None-strip_prefix : goal.returns-in-None-strip_prefix
returns-in-None-strip_prefix c =
    let parts = text_more c.loop-left.left c.loop-left.rest.now c.in-Some.text.now c.in-Some.behind.now
    (omega (arith, c.loop-left-test.true)) c.in-Some.ensures in
    sym (spelled_not c.in-Some.text.now (texts_of (c.loop-left.left - 1) c.in-Some.behind.now) c.loop-left.due.now
    c.in-None-strip_prefix.ensures.cases)
    ∙ ap (λ l. bytes_eq l c.loop-left.due.now) (sym parts) ∙ c.loop-left.invariant

pub returns-in-None : goal.returns-in-None
returns-in-None c =
    c.is_empty.ensures ∙ sym (spelled_end c.loop-left.due.now)
    ∙ ap (λ l. bytes_eq l c.loop-left.due.now)
    (sym (text_none c.loop-left.left c.loop-left.rest.now (omega (arith, c.loop-left-test.true)) c.in-None.ensures))
    ∙ c.loop-left.invariant

pub loop-left-preserved : goal.loop-left-preserved
loop-left-preserved c =
    let parts = text_more c.loop-left.left c.loop-left.rest.now c.in-Some.text.now c.in-Some.behind.now
    (omega (arith, c.loop-left-test.true)) c.in-Some.ensures in
    spelled_more c.in-Some.text.now (texts_of (c.loop-left.left - 1) c.in-Some.behind.now) c.loop-left.due.now
    c.in-Some-strip_prefix.others.now c.in-Some-strip_prefix.ensures.cases.0 c.in-Some-strip_prefix.ensures.cases.1
    ∙ ap (λ l. bytes_eq l c.loop-left.due.now) (sym parts) ∙ c.loop-left.invariant
