-- What statements are, by their first words.
use Rattle.std.specs.Prelude.{ℕ, Bool, cond, ◌||◌, Result, Ok, Err, Option, Some, None, List, [], ◌∷◌}
use Rattle.std.specs.Prelude.{codes}
use Rattle.std.specs.Option.{option_map_or}
use Rattle.proto_lex.specs.declared.span.Span.{Span}
use Rattle.proto_lex.specs.declared.token.TokenKind.{TokenKind}
use Rattle.proto_lex.specs.declared.token.TokenKind.TheVariants.{Semicolon, OpenBrace}
use Rattle.proto_grammar.specs.declared.fault.SyntaxFault.{SyntaxFault}
use Rattle.proto_grammar.specs.declared.fault.SyntaxFault.TheVariants.{Grammar}
use Rattle.proto_grammar.specs.Lexeme.{Lexeme, Place, place_of}
use Rattle.proto_grammar.specs.Terminal.{first, first_is, of_kind, is_word, behind}
use Rattle.proto_grammar.specs.Reading.Repetition.{◌>>=◌, Read, misplaced, token_that}
use Rattle.proto_options.specs.declared.elements.Element.{Element}
use Rattle.proto_options.specs.declared.elements.Element.TheVariants as of_a
use Rattle.proto_options.specs.declared.statements.Within.{Within}
use Rattle.proto_options.specs.declared.statements.Within.TheVariants as within
use Rattle.proto_options.specs.declared.statements.Statement.{Statement}
use Rattle.proto_options.specs.declared.statements.Statement.TheVariants.{Passed, Braces, Ranges, Member, Method}

unfoldable pub one_token_at : Read Lexeme
one_token_at tokens = option_map_or (λ t. Ok (t, behind tokens)) (first tokens.left) (misplaced tokens)

-- The last token, from the one that is taken on, in front of one of these kinds.
abbrev pub last_before : (Lexeme → Bool) → Lexeme → List Lexeme → (end : ℕ) → Result (Lexeme × Place) SyntaxFault
last_before stops taken [] end = Err (Grammar end)
last_before stops taken (t ∷ rest) end =
    cond (stops t) (Ok (taken, place_of end (t ∷ rest))) (last_before stops t rest end)

abbrev pub is_either : TokenKind → TokenKind → Lexeme → Bool
is_either kind other t = of_kind kind t || of_kind other t

unfoldable pub names_from : TokenKind → TokenKind → Lexeme → Read Lexeme
names_from kind other taken tokens = last_before (is_either kind other) taken tokens.left tokens.end

unfoldable pub name_before_at : TokenKind → TokenKind → Read Lexeme
name_before_at kind other tokens = one_token_at tokens >>= λ taken. names_from kind other taken.0 taken.1

unfoldable pub pass_statement_at : Read (Unit {0})
pass_statement_at tokens = do
  last ← name_before_at Semicolon Semicolon tokens
  semicolon ← token_that (of_kind Semicolon) last.1
  Ok (tt, semicolon.1)

unfoldable pub heading_at : Read Lexeme
heading_at tokens = do
  name ← name_before_at OpenBrace OpenBrace tokens
  open_brace ← token_that (of_kind OpenBrace) name.1
  Ok (name.0, open_brace.1)

abbrev pub file_statement_of : List Lexeme → Statement
file_statement_of a =
    cond (first_is (is_word (codes "message")) a) (Braces within.Message)
    (cond (first_is (is_word (codes "enum")) a) (Braces within.Enum)
    (cond (first_is (is_word (codes "service")) a) (Braces within.Service)
    (cond (first_is (is_word (codes "extend")) a) (Braces within.Extend) Passed)))

abbrev pub message_statement_of : List Lexeme → Statement
message_statement_of a =
    cond (first_is (is_word (codes "message")) a) (Braces within.Message)
    (cond (first_is (is_word (codes "enum")) a) (Braces within.Enum)
    (cond (first_is (is_word (codes "oneof")) a) (Braces within.Oneof)
    (cond (first_is (is_word (codes "extend")) a) (Braces within.Extend)
    (cond (first_is (is_word (codes "reserved")) a) Passed
    (cond (first_is (is_word (codes "extensions")) a) Ranges Member)))))

abbrev pub statement_of : Within → List Lexeme → Statement
statement_of within.File a = file_statement_of a
statement_of within.Message a = message_statement_of a
statement_of within.Oneof a = Member
statement_of within.Extend a = Member
statement_of within.Enum a = cond (first_is (is_word (codes "reserved")) a) Passed Member
statement_of within.Service a = Method
statement_of within.Method a = Passed

abbrev pub element_of : Within → Option Element
element_of within.File = Some of_a.File
element_of within.Message = Some of_a.Message
element_of within.Oneof = Some of_a.Oneof
element_of within.Extend = None
element_of within.Enum = Some of_a.Enum
element_of within.Service = Some of_a.Service
element_of within.Method = Some of_a.Method

abbrev pub member_of : Within → Span → Element
member_of within.Enum name = of_a.EnumValue
member_of _ name = of_a.Field name
