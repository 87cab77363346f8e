use Rattle.std.proofs.Common.{◌∙◌, ◌+◌, List, ap, length, arith}
use Rattle.proto_decl.specs.declared.uses.Component.{Component}
use Rattle.scip_model.proofs.PlanLemmas.{unsaturated}
use Rattle.scip_model.proofs.symbol_table.declaration_number.Goals as goal

pub returns : goal.returns
returns c =
    unsaturated _ c.in_ok-number.number (c.in_ok-number.ensures.number ∙ c.saturating_add.ensures)
    (omega (arith, c.in_ok-number.ensures.number, c.in_ok-number.ensures.within))
    ∙ ap (λ (components : List Component). 1 + length components + c.args.index) c.package_name.ensures
