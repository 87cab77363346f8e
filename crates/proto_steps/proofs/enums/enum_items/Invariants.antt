use Rattle.std.proofs.Common.{◌≡◌, length, []}
use Rattle.proto_steps.specs.Step.{While, adding, run}
use Rattle.proto_steps.specs.Terminals.{is_inside}
use Rattle.proto_steps.specs.Grammar.Definitions.{enum_item}
use Rattle.proto_steps.proofs.enums.enum_items.Given as goal

abbrev pub invariant-items : goal.invariant-items
invariant-items l = run (While is_inside (adding (enum_item l.custom)) l.values) l.parser
    ≡ run (While is_inside (adding (enum_item l.custom)) []) l.initial.parser

abbrev pub decreases-items : goal.decreases-items
decreases-items l = length l.parser.left
