use Rattle.std.proofs.Common.{◌≡◌, length}
use Rattle.proto_steps.specs.Limits.{max_message_depth}
use Rattle.proto_steps.specs.Step.{While, run}
use Rattle.proto_steps.specs.Terminals.{is_token}
use Rattle.proto_steps.specs.Grammar.Definitions.{empty_file, file_statement}
use Rattle.proto_steps.proofs.files.statements.Given as goal

abbrev pub invariant-statements : goal.invariant-statements
invariant-statements l =
    run (While is_token (file_statement max_message_depth l.syntax) l.file) l.parser
    ≡ run (While is_token (file_statement max_message_depth l.syntax) empty_file) l.initial.parser

abbrev pub decreases-statements : goal.decreases-statements
decreases-statements l = length l.parser.left
