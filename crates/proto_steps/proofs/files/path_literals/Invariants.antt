use Rattle.std.proofs.Common.{◌≡◌, length}
use Rattle.proto_lex.specs.declared.token.TokenKind.TheVariants.{StringLiteral}
use Rattle.proto_grammar.specs.Terminal.{of_kind}
use Rattle.proto_steps.specs.Step.{While, adding, run}
use Rattle.proto_steps.specs.Grammar.Definitions.{kept_literal}
use Rattle.proto_steps.proofs.files.path_literals.Given as goal

abbrev pub invariant-literals : goal.invariant-literals
invariant-literals l = run (While (of_kind StringLiteral) (adding kept_literal) l.literals) l.parser
    ≡ run (While (of_kind StringLiteral) (adding kept_literal) l.initial.literals) l.initial.parser

abbrev pub decreases-literals : goal.decreases-literals
decreases-literals l = length l.parser.left
