use Rattle.scip_wire.proofs.OutputLemmas.{alike, both, nothing, texts_more, texts_done}
use Rattle.scip_wire.proofs.spell.pieces.encode_records.Goals as goal

pub records-preserved : goal.records-preserved
records-preserved g c =
    λ sink out left. c.records.invariant sink out
    (alike (texts_more c.args.records.now c.records.record-index c.record-item.result c.records-test.true
    c.record-item.is) (both c.put.ensures left))

pub returns : goal.returns
returns g c =
    c.records.invariant _ _ (alike (texts_done c.args.records.now c.records.record-index c.records-test.false) nothing)
