-- Which tokens derive which tree (proto3 and proto2 specifications), by the dialect.
use Rattle.std.specs.Prelude.{ℕ, List, []}
use Rattle.proto_lex.specs.declared.token.Token.{Token}
use Rattle.proto_grammar.specs.declared.dialect.Dialect.{Dialect}
use Rattle.proto_grammar.specs.declared.tree.File.{File}
use Rattle.proto_grammar.specs.Lexeme.{Lexeme, lexemes_of}
use Rattle.proto_steps.specs.Limits.{max_message_depth}
use Rattle.proto_steps.specs.Step.{Derives as DerivesBy}
use Rattle.proto_steps.specs.Grammar.Definitions.{file as file_step}

-- The tokens derive the tree by the grammar, and none is left. At most `levels` messages and groups are inside one
-- another.
abbrev pub DerivesWithin : (levels : ℕ) → Dialect → List Lexeme → File → Type 0
DerivesWithin levels dialect tokens file = DerivesBy (file_step levels dialect) tokens file []

-- The tokens of the text derive the tree.
abbrev pub Derives : Dialect → List ℕ → List Token → File → Type 0
Derives dialect text tokens file = DerivesWithin max_message_depth dialect (lexemes_of text tokens) file

-- They derive it by some dialect.
abbrev pub DerivesBySome : List ℕ → List Token → File → Type 0
DerivesBySome text tokens file = (dialect : Dialect) × Derives dialect text tokens file
