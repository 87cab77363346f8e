use Rattle.std.proofs.Common.{◌≡◌, length}
use Rattle.proto_steps.specs.Step.{While, passing, run}
use Rattle.proto_steps.specs.Terminals.{is_inside}
use Rattle.proto_steps.specs.Grammar.Definitions.{method_item}
use Rattle.proto_steps.proofs.services.method_items.Given as goal

abbrev pub invariant-items : goal.invariant-items
invariant-items l = run (While is_inside (passing (method_item l.custom)) tt) l.parser
    ≡ run (While is_inside (passing (method_item l.custom)) tt) l.initial.parser

abbrev pub decreases-items : goal.decreases-items
decreases-items l = length l.parser.left
