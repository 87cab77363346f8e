use Rattle.std.proofs.Common.{◌≡◌, length}
use Rattle.proto_steps.specs.Step.{While, passing, run}
use Rattle.proto_steps.specs.Terminals.{is_inside}
use Rattle.proto_steps.specs.Grammar.Definitions.{passed_item}
use Rattle.proto_steps.proofs.passed.passed_items.Given as goal

abbrev pub invariant-items : goal.invariant-items
invariant-items l = run (While is_inside (passing passed_item) tt) l.parser
    ≡ run (While is_inside (passing passed_item) tt) l.initial.parser

abbrev pub decreases-items : goal.decreases-items
decreases-items l = length l.parser.left
