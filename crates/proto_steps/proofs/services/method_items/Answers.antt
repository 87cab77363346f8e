use Rattle.std.proofs.lemmas.Result.{err_from_is_err_and}
use Rattle.proto_steps.specs.Terminals.{is_inside}
use Rattle.proto_steps.specs.Grammar.Definitions.{method_item, method_items}
use Rattle.proto_steps.proofs.LoopLemmas.{passing_stops}
use Rattle.proto_steps.proofs.services.method_items.Goals as goal

pub returns-in_err-method_item : goal.returns-in_err-method_item
unfolding method_items
returns-in_err-method_item c =
    let p = err_from_is_err_and c.from_residual.result c.from_residual.ensures.1 in
    rw (p.1, p.2)
    (passing_stops is_inside (method_item c.args.custom) c.items.parser _ c.args.custom _ c.is_inside.result
    c.is_inside.ensures c.items-test.true c.in_err-method_item.ensures c.items.invariant)
