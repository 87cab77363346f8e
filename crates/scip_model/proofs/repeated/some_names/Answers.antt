use Rattle.scip_model.proofs.RepeatedLemmas.{some-are, nothing-is}
use Rattle.scip_model.proofs.RepeatedNameLemmas.{some-of, none-of}
use Rattle.scip_model.proofs.repeated.some_names.Goals as goal

pub returns-then-has_some : goal.returns-then-has_some
returns-then-has_some c =
    some-are c.args.linker.now _ c.in_ok-repeated.ensures
    (some-of _ c.as_slice.result.now c.in_ok-repeated.repeated.items c.as_slice.ensures.value c.if-has_some.ensures)

pub returns-else-has_some : goal.returns-else-has_some
returns-else-has_some c =
    rw c.new.ensures.items
    (nothing-is c.args.linker.now _ c.in_ok-repeated.ensures
    (none-of _ c.as_slice.result.now c.in_ok-repeated.repeated.items c.as_slice.ensures.value c.if-has_some.ensures))
