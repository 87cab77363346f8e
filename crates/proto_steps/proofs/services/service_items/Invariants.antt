use Rattle.std.proofs.Common.{◌≡◌, length, []}
use Rattle.proto_steps.specs.Step.{While, adding, run}
use Rattle.proto_steps.specs.Terminals.{is_inside}
use Rattle.proto_steps.specs.Grammar.Definitions.{service_item}
use Rattle.proto_steps.proofs.services.service_items.Given as goal

abbrev pub invariant-items : goal.invariant-items
invariant-items l = run (While is_inside (adding (service_item l.custom)) l.methods) l.parser
    ≡ run (While is_inside (adding (service_item l.custom)) []) l.initial.parser

abbrev pub decreases-items : goal.decreases-items
decreases-items l = length l.parser.left
