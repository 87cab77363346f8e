use Rattle.std.proofs.Common.{arith}
use Rattle.basics.proofs.ListLemmas.{all_taken as fit_done}
use Rattle.scip_wire.specs.Spelling.{bytes_of, bytes_field}
use Rattle.scip_wire.proofs.SaturatedLemmas.{len_further, fit_further}
use Rattle.scip_wire.proofs.spell.message.slice_len.Goals as goal

pub messages-preserved : goal.messages-preserved
messages-preserved g c =
    let before = c.messages.invariant in
    let record_of = λ (message : g.row.M.Denot). bytes_field c.args.number (bytes_of (g.M.Encode.fields message)) in
    let sum = len_further record_of c.args.messages.now c.messages.message-index c.message-item.result c.messages.len _
    _ _ c.messages-test.true c.message-item.is c.message_len.ensures.value c.saturating_add-len.ensures before.sum
    in
    let fit = fit_further g.M.Encode.is_fit c.args.messages.now c.messages.message-index c.message-item.result
    c.messages-test.true c.message-item.is before.fit c.message_len.ensures.fit in
    record { fits = omega (arith, c.saturating_add-len.ensures); sum = sum; fit = fit }

pub returns-clause-fit : goal.returns-clause-fit
returns-clause-fit g c =
    fit_done g.M.Encode.is_fit c.args.messages.now c.messages.message-index c.messages-test.false
    c.messages.invariant.fit
