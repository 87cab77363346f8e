use Rattle.proto_grammar.specs.declared.dialect.CustomOptions.TheVariants.{Skip}
use Rattle.std.proofs.lemmas.Result.{err_from_is_err_and}
use Rattle.proto_steps.specs.Terminals.{is_inside}
use Rattle.proto_steps.specs.Grammar.Definitions.{passed_item, passed_items}
use Rattle.proto_steps.proofs.LoopLemmas.{passing_stops}
use Rattle.proto_steps.proofs.passed.passed_items.Goals as goal

pub returns-in_err-passed_item : goal.returns-in_err-passed_item
unfolding passed_items
returns-in_err-passed_item c =
    let p = err_from_is_err_and c.from_residual.result c.from_residual.ensures.1 in
    rw (p.1, p.2)
    (passing_stops is_inside passed_item c.items.parser _ Skip _ c.is_inside.result
    c.is_inside.ensures c.items-test.true c.in_err-passed_item.ensures c.items.invariant)
