-- Single tokens as steps (proto3 specification, "Lexical elements"). Each kind has an example.
use Rattle.std.specs.Prelude.{ℕ, Bool, true, false, ◌&&◌, not, List, [], codes}
use Rattle.proto_lex.specs.declared.span.Span.{Span}
use Rattle.proto_lex.specs.declared.token.TokenKind.{TokenKind}
use Rattle.proto_lex.specs.declared.token.TokenKind.TheVariants.{Identifier, Integer, StringLiteral, CloseBrace, Minus}
use Rattle.proto_grammar.specs.Lexeme.{Lexeme}
use Rattle.proto_grammar.specs.Terminal.{of_kind, is_word, is_scalar, is_key, is_sign, is_group_name, is_numeral}
use Rattle.proto_grammar.specs.Terminal.{is_number, is_plain_literal}
use Rattle.proto_steps.specs.Step.{Step, Take}

-- a token of a kind with a spelling, that no `.` follows
abbrev pub like : TokenKind → List ℕ → Lexeme
like kind spelling = record { kind = kind; spelling = spelling; span = record { start = 0; end = 0 }; dotted = false }

abbrev pub an_ident : Lexeme
an_ident = like Identifier (codes "a")

-- a label that each grammar has
abbrev pub a_label : Lexeme
a_label = like Identifier (codes "optional")

abbrev pub an_int : Lexeme
an_int = like Integer (codes "0")

abbrev pub a_literal : Lexeme
a_literal = like StringLiteral (codes "''")

abbrev pub sign : TokenKind → Step Span
sign kind = Take (record { is = of_kind kind; example = like kind [] })

abbrev pub word : List ℕ → Step Span
word spelling = Take (record { is = is_word spelling; example = like Identifier spelling })

abbrev pub ident : Step Span
ident = Take (record { is = of_kind Identifier; example = an_ident })

abbrev pub int : Step Span
int = Take (record { is = of_kind Integer; example = an_int })

abbrev pub literal : Step Span
literal = Take (record { is = of_kind StringLiteral; example = a_literal })

-- a literal without a `\`
abbrev pub plain_literal : Step Span
plain_literal = Take (record { is = is_plain_literal; example = a_literal })

-- a literal with a `\`
abbrev pub is_escaped : Lexeme → Bool
is_escaped t = of_kind StringLiteral t && not (is_plain_literal t)

-- "Fields": the word of a scalar type, and of one that may be the key of a map
abbrev pub scalar : Step Span
scalar = Take (record { is = is_scalar; example = like Identifier (codes "bool") })

abbrev pub key : Step Span
key = Take (record { is = is_key; example = like Identifier (codes "bool") })

-- IDENT that begins with a capital letter
abbrev pub group_name : Step Span
group_name = Take (record { is = is_group_name; example = like Identifier (codes "A") })

-- "-" | "+"
abbrev pub minus_or_plus : Step Span
minus_or_plus = Take (record { is = is_sign; example = like Minus [] })

-- INT | FLOAT
abbrev pub numeral : Step Span
numeral = Take (record { is = is_numeral; example = an_int })

-- INT | FLOAT | "inf" | "nan"
abbrev pub number : Step Span
number = Take (record { is = is_number; example = an_int })

-- ---- what goes on as long as there is something else

-- any token but a `}`
abbrev pub is_inside : Lexeme → Bool
is_inside t = not (of_kind CloseBrace t)

abbrev pub is_token : Lexeme → Bool
is_token t = true
