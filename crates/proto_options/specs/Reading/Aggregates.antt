-- Messages in an option's value: what a step reads, with the names so far.
use Rattle.std.specs.Prelude.{ℕ, zero, suc, Bool, true, false, cond, Result, Ok, Err, Option, Some, None, List, [], ◌∷◌}
use Rattle.std.specs.Prelude.{◌++◌, length}
use Rattle.proto_lex.specs.declared.span.Span.{Span}
use Rattle.proto_lex.specs.declared.token.TokenKind.{TokenKind}
use Rattle.proto_lex.specs.declared.token.TokenKind.TheVariants.{Identifier, StringLiteral, Colon}
use Rattle.proto_lex.specs.declared.token.TokenKind.TheVariants.{OpenBrace, CloseBrace, OpenBracket, CloseBracket}
use Rattle.proto_lex.specs.declared.token.TokenKind.TheVariants.{Less, Greater, Slash}
use Rattle.proto_grammar.specs.declared.fault.SyntaxFault.{SyntaxFault}
use Rattle.proto_grammar.specs.declared.fault.SyntaxFault.TheVariants.{Memory}
use Rattle.proto_grammar.specs.Lexeme.{Place, place_of}
use Rattle.proto_grammar.specs.Terminal.{first_is, others, of_kind, is_end, not_next, behind}
use Rattle.proto_grammar.specs.Reading.Repetition.{◌>>=◌, Read, misplaced, token_that, until_at, passing}
use Rattle.proto_grammar.specs.Reading.Names.{name_at}
use Rattle.proto_options.specs.declared.names.FieldName.{FieldName}
use Rattle.proto_options.specs.declared.names.OptionRole.{OptionRole}
use Rattle.proto_options.specs.declared.names.OptionRole.TheVariants.{Field, Extension, Value}
use Rattle.proto_options.specs.Names.{Names, named, plain, one_word}
use Rattle.proto_options.specs.Grammar.Passed.{is_message_next, is_whole_word, past_one, past_odd}
use Rattle.proto_options.specs.Grammar.Aggregates.{field_name, packed_role, begins_value}
use Rattle.proto_options.specs.Grammar.Aggregates.{list_is_over, is_over}

-- from the names so far to those with the names that stand here
abbrev pub Adding : Type 0
Adding = Names → Read Names

-- ---- a field's name

unfoldable pub extension_end_at : List Span → Read FieldName
extension_end_at components tokens =
    token_that (of_kind CloseBracket) tokens
    >>= λ close_bracket. Ok (field_name Extension components, close_bracket.1)

unfoldable pub packed_end_at : OptionRole → Read FieldName
packed_end_at role tokens = do
  slash ← token_that (of_kind Slash) tokens
  components ← name_at slash.1
  close_bracket ← token_that (of_kind CloseBracket) components.1
  Ok (field_name role components.0, close_bracket.1)

unfoldable pub bracketed_at : Read FieldName
bracketed_at tokens = do
  open_bracket ← token_that (of_kind OpenBracket) tokens
  components ← name_at open_bracket.1
  cond (first_is (of_kind Slash) components.1.left) (packed_end_at (packed_role open_bracket.1.left) components.1)
      (extension_end_at components.0 components.1)

abbrev pub is_memory : SyntaxFault → Bool
is_memory Memory = true
is_memory fault = false

-- The name, if something of a value is behind it. Else nothing is taken.
abbrev pub if_valued : (start : Place) → Result (FieldName × Place) SyntaxFault
    → Result (Option FieldName × Place) SyntaxFault
if_valued start (Ok x) = cond (begins_value x.1.left) (Ok (Some x.0, x.1)) (Ok (None, start))
if_valued start (Err fault) = Ok (None, start)

unfoldable pub bracket_begin_at : Read (Option FieldName)
bracket_begin_at tokens = if_valued tokens (bracketed_at tokens)

unfoldable pub word_begin_at : Read (Option FieldName)
word_begin_at tokens =
    cond (begins_value (others tokens.left))
    (token_that (of_kind Identifier) tokens >>= λ word. Ok (Some (field_name Field (word.0 ∷ [])), word.1))
    (Ok (None, tokens))

-- The name of a field that begins here. If none does, nothing is taken.
unfoldable pub begin_at : Read (Option FieldName)
begin_at tokens =
    cond (first_is (of_kind OpenBracket) tokens.left) (bracket_begin_at tokens)
    (cond (first_is (of_kind Identifier) tokens.left) (word_begin_at tokens) (Ok (None, tokens)))

unfoldable pub word_at : OptionRole → Option ℕ → Adding
word_at role around names tokens =
    token_that (of_kind Identifier) tokens >>= λ word. Ok (names ++ named role around (one_word word.0) ∷ [], word.1)

unfoldable pub literal_at : Read (Unit {0})
literal_at tokens = token_that (of_kind StringLiteral) tokens >>= λ text. Ok (tt, text.1)

unfoldable pub literals_at : Read (Unit {0})
literals_at tokens = until_at (not_next StringLiteral) (passing literal_at) tt tokens

unfoldable pub strings_at : Read (Unit {0})
strings_at tokens = literal_at tokens >>= λ text. literals_at text.1

-- what adds no name
abbrev pub nothing_added : Read (Unit {0}) → Adding
nothing_added part names tokens = part tokens >>= λ x. Ok (names, x.1)

unfoldable pub odd_at : Adding
odd_at names tokens =
    cond (is_end tokens.left) (misplaced tokens) (Ok (names, place_of tokens.end (past_odd tokens.left)))

-- a sign, if it is there
unfoldable pub optional_at : TokenKind → Read (Unit {0})
optional_at sign tokens = cond (first_is (of_kind sign) tokens.left) (Ok (tt, behind tokens)) (Ok (tt, tokens))

-- how a message is read as a value
abbrev pub Reads : Type 0
Reads = Option ℕ → Adding

unfoldable pub element_at : Reads → Option ℕ → Adding
element_at message around names tokens =
    cond (is_message_next tokens.left) (message around names tokens)
    (cond (is_whole_word tokens.left) (word_at Value around names tokens) (odd_at names tokens))

unfoldable pub elements_at : Reads → Option ℕ → Adding
elements_at message around names tokens = until_at list_is_over (element_at message around) names tokens

unfoldable pub list_at : Reads → Option ℕ → Adding
list_at message around names tokens = do
  open_bracket ← token_that (of_kind OpenBracket) tokens
  elements ← elements_at message around names open_bracket.1
  close_bracket ← optional_at CloseBracket elements.1
  Ok (elements.0, close_bracket.1)

unfoldable pub value_at : Reads → Option ℕ → Adding
value_at message around names tokens =
    cond (is_message_next tokens.left) (message around names tokens)
    (cond (first_is (of_kind OpenBracket) tokens.left) (list_at message around names tokens)
    (cond (is_whole_word tokens.left) (word_at Value around names tokens) (Ok (names, tokens))))

unfoldable pub field_at : Reads → Option ℕ → FieldName → Adding
field_at message around name names tokens = do
  colon ← optional_at Colon tokens
  value_at message (Some (length names)) (names ++ named name.role around (plain name.components) ∷ []) colon.1

abbrev pub item_by : Reads → Option ℕ → Option FieldName → Adding
item_by message around (Some name) names tokens = field_at message around name names tokens
item_by message around None names tokens = odd_at names tokens

unfoldable pub item_at : Reads → Option ℕ → Adding
item_at message around names tokens = begin_at tokens >>= λ begin. item_by message around begin.0 names begin.1

unfoldable pub items_at : Reads → TokenKind → Option ℕ → Adding
items_at message closing around names tokens = until_at (is_over closing) (item_at message around) names tokens

unfoldable pub body_at : Reads → TokenKind → Option ℕ → Adding
body_at message closing around names tokens = do
  items ← items_at message closing around names tokens
  closes ← optional_at closing items.1
  Ok (items.0, closes.1)

unfoldable pub message_at : (levels : ℕ) → Reads
message_at zero around names tokens = Ok (names, place_of tokens.end (past_one tokens.left))
message_at (suc levels) around names tokens =
    cond (first_is (of_kind Less) tokens.left) (body_at (message_at levels) Greater around names (behind tokens))
    (token_that (of_kind OpenBrace) tokens
    >>= λ open_brace. body_at (message_at levels) CloseBrace around names open_brace.1)
