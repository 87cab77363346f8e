-- What is read past in a message in an option's value, since the grammar of messages has no field there.
use Rattle.std.specs.Prelude.{ℕ, ◌+◌, ◌-◌, ◌==◌, Bool, ◌&&◌, ◌||◌, not, cond, List, [], ◌∷◌}
use Rattle.proto_lex.specs.declared.token.TokenKind.TheVariants.{Identifier, Colon, Dot, Slash, Minus, Plus, Equals}
use Rattle.proto_lex.specs.declared.token.TokenKind.TheVariants.{OpenBrace, CloseBrace, OpenBracket, CloseBracket}
use Rattle.proto_lex.specs.declared.token.TokenKind.TheVariants.{Less, Greater}
use Rattle.proto_grammar.specs.Lexeme.{Lexeme}
use Rattle.proto_grammar.specs.Terminal.{first_is, others, of_kind}

-- whether a `[` or a `<` is next, and what closes one of them
abbrev pub opens_bracket : List Lexeme → Bool
opens_bracket a = first_is (of_kind OpenBracket) a || first_is (of_kind Less) a

abbrev pub closes_bracket : List Lexeme → Bool
closes_bracket a = first_is (of_kind CloseBracket) a || first_is (of_kind Greater) a

-- How many are open behind a token that opens one, closes one, or neither.
abbrev pub open_behind : (opens closes : Bool) → ℕ → ℕ
open_behind opens closes count = cond opens (count + 1) (cond closes (count - 1) count)

abbrev pub braces_behind : List Lexeme → ℕ → ℕ
braces_behind a braces = open_behind (first_is (of_kind OpenBrace) a) (first_is (of_kind CloseBrace) a) braces

abbrev pub brackets_behind : List Lexeme → (braces brackets : ℕ) → ℕ
brackets_behind a braces brackets =
    cond (braces == 0) (open_behind (opens_bracket a) (closes_bracket a) brackets) brackets

-- Whether neither braces nor brackets are open, or a `}` is next that closes what is around the brackets.
abbrev pub is_past : (braces brackets : ℕ) → List Lexeme → Bool
is_past braces brackets a = (braces == 0) && ((brackets == 0) || first_is (of_kind CloseBrace) a)

-- What is behind this many open brackets, `[` and `<`, in which this many braces are open: brackets in braces don't
-- count.
abbrev pub behind_open : (braces brackets : ℕ) → List Lexeme → List Lexeme
behind_open braces brackets [] = []
behind_open braces brackets (t ∷ rest) =
    cond (is_past braces brackets (t ∷ rest)) (t ∷ rest)
    (behind_open (braces_behind (t ∷ rest) braces) (brackets_behind (t ∷ rest) braces brackets) rest)

-- what is behind the next token, and behind what it opens
abbrev pub past_one : List Lexeme → List Lexeme
past_one a =
    cond (first_is (of_kind OpenBrace) a) (behind_open 1 0 (others a))
    (cond (opens_bracket a) (behind_open 0 1 (others a)) (others a))

-- whether a message in braces, or in `<` and `>`, is next
abbrev pub is_message_next : List Lexeme → Bool
is_message_next a = first_is (of_kind OpenBrace) a || first_is (of_kind Less) a

-- whether a sign is next that joins a word behind it to what is in front of it
abbrev pub is_joint_next : List Lexeme → Bool
is_joint_next a =
    first_is (of_kind Dot) a
    || (first_is (of_kind Slash) a
    || (first_is (of_kind Minus) a || (first_is (of_kind Plus) a || first_is (of_kind Equals) a)))

-- Whether a word is next that may be a value: it is no part of a longer name, and no field's name with its value.
abbrev pub is_whole_word : List Lexeme → Bool
is_whole_word a =
    first_is (of_kind Identifier) a
    && not (is_joint_next (others a) || (first_is (of_kind Colon) (others a) || is_message_next (others a)))

-- whether a message, a list or something else in brackets is next
abbrev pub is_opening_next : List Lexeme → Bool
is_opening_next a = first_is (of_kind OpenBrace) a || opens_bracket a

-- Whether what is next has a sign in front of what belongs to it: a word or what is in brackets. Behind a `:` only a
-- word belongs to it that may be a value.
abbrev pub has_sign : List Lexeme → Bool
has_sign a =
    (is_joint_next a && (first_is (of_kind Identifier) (others a) || is_opening_next (others a)))
    || (first_is (of_kind Colon) a && (is_whole_word (others a) || is_opening_next (others a)))

-- What is behind an odd thing: a token and what it opens, and with a sign what belongs to it.
abbrev pub past_odd : List Lexeme → List Lexeme
past_odd a = cond (has_sign a) (past_one (others a)) (past_one a)
