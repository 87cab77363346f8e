-- A token with its spelling, as the grammar has it.
use Rattle.proto_grammar.specs.declared.parser.Lexeme.{Lexeme as Found}
use Rattle.proto_grammar.specs.Lexeme.{Lexeme}

abbrev pub lexeme_view : Found → Lexeme
lexeme_view l = record { kind = l.kind; spelling = l.spelling.now; span = l.span; dotted = l.dotted }
