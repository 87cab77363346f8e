-- What single tokens are, and what is next, as tests.
use Rattle.std.specs.Prelude.{ℕ, ◌-◌, Bool, true, false, ◌==◌, ◌&&◌, ◌||◌, not, Option, Some, None, List, [], ◌∷◌}
use Rattle.std.specs.Prelude.{length, take, drop, bytes_eq, nat_le, codes}
use Rattle.std.specs.Option.{option_map_or}
use Rattle.std.specs.List.{list_any}
use denote.Enum.Bare.{sameb}
use Rattle.proto_lex.specs.Ascii as ascii
use Rattle.proto_lex.specs.contracts.token.TokenKind.{the_type}
use Rattle.proto_lex.specs.declared.token.TokenKind.{TokenKind}
use Rattle.proto_lex.specs.declared.token.TokenKind.TheVariants.{Identifier, Integer, Float, StringLiteral, CloseBrace}
use Rattle.proto_lex.specs.declared.token.TokenKind.TheVariants.{Plus, Minus}
use Rattle.proto_grammar.specs.Lexeme.{Lexeme, Place}

-- Whether the kind is the wanted one.
abbrev pub is_kind : TokenKind → TokenKind → Bool
is_kind wanted kind = sameb the_type kind wanted

-- "Fields": the words of the scalar types, and those among them that may be the key of a map.
abbrev pub key_words : List (List ℕ)
key_words =
    codes "int32" ∷ (codes "int64"
    ∷ (codes "uint32" ∷ (codes "uint64"
    ∷ (codes "sint32" ∷ (codes "sint64"
    ∷ (codes "fixed32" ∷ (codes "fixed64"
    ∷ (codes "sfixed32" ∷ (codes "sfixed64" ∷ (codes "bool" ∷ (codes "string" ∷ [])))))))))))

abbrev pub scalar_words : List (List ℕ)
scalar_words = codes "double" ∷ (codes "float" ∷ (codes "bytes" ∷ key_words))

abbrev pub of_kind : TokenKind → Lexeme → Bool
of_kind kind t = is_kind kind t.kind

abbrev pub is_word : List ℕ → Lexeme → Bool
is_word word t = is_kind Identifier t.kind && bytes_eq t.spelling word

abbrev pub is_scalar : Lexeme → Bool
is_scalar t = is_kind Identifier t.kind && list_any (bytes_eq t.spelling) scalar_words

-- the word of a scalar type, as a type: no `.` follows
abbrev pub is_scalar_type : Lexeme → Bool
is_scalar_type t = is_scalar t && not t.dotted

-- the word `group` in front of a group: no `.` follows
abbrev pub is_group_word : Lexeme → Bool
is_group_word t = is_word (codes "group") t && not t.dotted

abbrev pub is_key : Lexeme → Bool
is_key t = is_kind Identifier t.kind && list_any (bytes_eq t.spelling) key_words

abbrev pub is_sign : Lexeme → Bool
is_sign t = is_kind Minus t.kind || is_kind Plus t.kind

-- Whether a text begins with a capital letter.
abbrev pub is_capitalized : List ℕ → Bool
is_capitalized [] = false
is_capitalized (byte ∷ rest) = nat_le ascii.upper_a byte && nat_le byte ascii.upper_z

-- an identifier that begins with a capital letter
abbrev pub is_group_name : Lexeme → Bool
is_group_name t = is_kind Identifier t.kind && is_capitalized t.spelling

-- INT or FLOAT
abbrev pub is_numeral : Lexeme → Bool
is_numeral t = is_kind Integer t.kind || is_kind Float t.kind

-- what may be after a sign
abbrev pub is_number : Lexeme → Bool
is_number t = is_numeral t || (is_word (codes "inf") t || is_word (codes "nan") t)

-- What is between a literal's quotes, as it is spelled.
abbrev pub between_quotes : List ℕ → List ℕ
between_quotes spelling = take (length spelling - 2) (drop 1 spelling)

-- a string literal without a `\`
abbrev pub is_plain_literal : Lexeme → Bool
is_plain_literal t = is_kind StringLiteral t.kind && not (list_any (λ byte. byte == ascii.backslash) t.spelling)

abbrev pub first : List Lexeme → Option Lexeme
first [] = None
first (t ∷ rest) = Some t

abbrev pub others : List Lexeme → List Lexeme
others [] = []
others (t ∷ rest) = rest

-- Where the next token begins, or where the text ends if none is left.
abbrev pub offset_at : Place → ℕ
offset_at place = option_map_or (λ (t : Lexeme). t.span.start) (first place.left) place.end

-- The place behind the next token, if there is one.
abbrev pub behind : Place → Place
behind place = record { left = others place.left; end = place.end }

-- Whether the next token passes the test.
abbrev pub first_is : (Lexeme → Bool) → List Lexeme → Bool
first_is test tokens = option_map_or test (first tokens) false

-- Whether the next token is of another kind, or there is none.
abbrev pub not_next : TokenKind → List Lexeme → Bool
not_next kind tokens = not (first_is (of_kind kind) tokens)

abbrev pub closes : List Lexeme → Bool
closes tokens = first_is (of_kind CloseBrace) tokens

abbrev pub is_end : List Lexeme → Bool
is_end [] = true
is_end (t ∷ rest) = false

-- Whether a scalar type is next.
abbrev pub begins_scalar : List Lexeme → Bool
begins_scalar tokens = first_is is_scalar_type tokens

-- Whether a group is next, in proto2.
abbrev pub begins_group : List Lexeme → Bool
begins_group tokens = first_is is_group_word tokens
