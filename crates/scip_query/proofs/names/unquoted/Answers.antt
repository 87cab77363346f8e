use Rattle.std.proofs.Common.{◌∙◌, arith, get_or, refl}
use Rattle.scip_query.proofs.NameLemmas.{unquoted_on, unquoted_all}
use Rattle.scip_query.proofs.names.unquoted.Goals as goal

pub loop-byte-preserved : goal.loop-byte-preserved
loop-byte-preserved c =
    unquoted_on c.loop-byte.quoted c.quoted_behind-quoted.result c.args.text.now c.loop-byte.byte-index
    (get_or c.args.text.now c.loop-byte.byte-index 0) c.loop-byte.kept.items c.push_unquoted.new.text.items
    c.loop-byte-test.true refl c.in_ok-push_unquoted.ensures c.quoted_behind-quoted.ensures
    ∙ c.loop-byte.invariant

pub returns : goal.returns
returns c =
    unquoted_all c.loop-byte.quoted c.args.text.now c.loop-byte.kept.items c.loop-byte.byte-index (omega arith)
    c.loop-byte.invariant
