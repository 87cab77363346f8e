use Rattle.scip_wire.specs.Spelling.{bytes_of, bytes_field}
use Rattle.scip_wire.proofs.SaturatedLemmas.{message_short}
use Rattle.scip_wire.proofs.OutputLemmas.{alike, both, nothing, records_more, records_done}
use Rattle.scip_wire.proofs.spell.message.encode_slice.Goals as goal

pub encode_message-requires-clause-short : goal.encode_message-requires-clause-short
encode_message-requires-clause-short g c =
    message_short g.M.Encode.fields c.args.number c.args.messages.now c.messages.message-index c.message-item.result
    c.messages-test.true c.message-item.is c.requires.short

pub messages-preserved : goal.messages-preserved
messages-preserved g c =
    let record_of = λ (message : g.row.M.Denot). bytes_field c.args.number (bytes_of (g.M.Encode.fields message)) in
    λ sink out left. c.messages.invariant sink out
    (alike (records_more record_of c.args.messages.now c.messages.message-index c.message-item.result
    c.messages-test.true c.message-item.is) (both c.encode_message.ensures left))

pub returns : goal.returns
returns g c =
    let record_of = λ (message : g.row.M.Denot). bytes_field c.args.number (bytes_of (g.M.Encode.fields message)) in
    c.messages.invariant _ _
    (alike (records_done record_of c.args.messages.now c.messages.message-index c.messages-test.false) nothing)
