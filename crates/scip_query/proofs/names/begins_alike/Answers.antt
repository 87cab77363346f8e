use Rattle.std.proofs.Common.{◌∙◌, sym, get_or, refl}
use Rattle.scip_query.proofs.NameLemmas.{alike_on, alike_no}
use Rattle.scip_query.proofs.names.begins_alike.Goals as goal

pub loop-byte-preserved : goal.loop-byte-preserved
loop-byte-preserved c =
    sym (alike_on c.args.text.now c.loop-byte.byte-index (get_or c.args.text.now c.loop-byte.byte-index 0)
    c.loop-byte.rest.now c.in-Some.behind.now c.loop-byte-test.true refl (sym c.in-Some.ensures)) ∙ c.loop-byte.invariant

pub returns-in-None : goal.returns-in-None
returns-in-None c =
    sym (alike_no c.args.text.now c.loop-byte.byte-index (get_or c.args.text.now c.loop-byte.byte-index 0)
    c.loop-byte.rest.now c.loop-byte-test.true refl (sym c.in-None.ensures)) ∙ c.loop-byte.invariant
