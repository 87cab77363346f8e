use Rattle.std.proofs.Common.{◌≡◌, length}
use Rattle.proto_grammar.specs.Lexeme.{lexemes_of}
use Rattle.proto_options.specs.Messages.{says_any}
use Rattle.proto_options.proofs.messages.says_any.Given as goal

abbrev pub invariant-tokens : goal.invariant-tokens
invariant-tokens l = says_any l.cursor.left ≡ says_any (lexemes_of l.fn.lexed.text l.fn.lexed.tokens)

abbrev pub decreases-tokens : goal.decreases-tokens
decreases-tokens l = length l.cursor.left
