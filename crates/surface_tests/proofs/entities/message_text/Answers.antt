use Rattle.std.proofs.Common.{ap}
use Rattle.proto_decl.specs.declared.declaration.DeclarationStep.{DeclarationStep}
use Rattle.surface_tests.proofs.EntityConditions.{message}
use Rattle.surface_tests.proofs.entities.message_text.Goals as goal

pub symbol_of-requires : goal.symbol_of-requires
symbol_of-requires c =
    message c.new.result c.new.ensures (ap (λ (step : DeclarationStep). step.name) c.step_to-a.ensures)
