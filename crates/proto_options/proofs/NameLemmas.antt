-- What is in front of a token of a kind, token by token.
use Rattle.std.proofs.Common.{◌≡◌, ℕ, Bool, true, false, ◌||◌, Ok, Err, List, [], ◌∷◌, refl}
use Rattle.proto_lex.specs.declared.token.TokenKind.{TokenKind}
use Rattle.proto_grammar.specs.declared.fault.SyntaxFault.TheVariants.{Grammar}
use Rattle.proto_grammar.specs.Lexeme.{Lexeme, Place, place_of}
use Rattle.proto_grammar.specs.Terminal.{others, first_is, of_kind, is_end, offset_at, behind}
use Rattle.proto_options.specs.Reading.Statements.{one_token_at, names_from, name_before_at}

done_by : (kind other : TokenKind) (taken : Lexeme) (left : List Lexeme) (end : ℕ)
    → (first_is (of_kind kind) left || first_is (of_kind other) left) ≡ true
    → names_from kind other taken (place_of end left) ≡ Ok (taken, place_of end left)
unfolding names_from
done_by kind other taken [] end e = cc
done_by kind other taken (t ∷ left) end e = rw e refl

pub name_done : (kind other : TokenKind) (taken : Lexeme) (tokens : Place)
    → (first_is (of_kind kind) tokens.left || first_is (of_kind other) tokens.left) ≡ true
    → names_from kind other taken tokens ≡ Ok (taken, tokens)
name_done kind other taken tokens e = done_by kind other taken tokens.left tokens.end e

-- the name isn't the next token while the one behind it is of neither kind
goes_on_by : (kind other : TokenKind) (left : List Lexeme) (end : ℕ) → is_end left ≡ false
    → first_is (of_kind kind) (others left) ≡ false → first_is (of_kind other) (others left) ≡ false
    → name_before_at kind other (behind (place_of end left)) ≡ name_before_at kind other (place_of end left)
unfolding one_token_at names_from name_before_at
goes_on_by kind other [] end some isnt none = cc
goes_on_by kind other (t ∷ []) end some isnt none = refl
goes_on_by kind other (t ∷ (u ∷ rest)) end some isnt none = rw (isnt, none) refl

pub before_goes_on : (kind other : TokenKind) (tokens : Place) → is_end tokens.left ≡ false
    → first_is (of_kind kind) (others tokens.left) ≡ false → first_is (of_kind other) (others tokens.left) ≡ false
    → name_before_at kind other (behind tokens) ≡ name_before_at kind other tokens
before_goes_on kind other tokens some isnt none = goes_on_by kind other tokens.left tokens.end some isnt none

stops_by : (kind other : TokenKind) (left : List Lexeme) (end : ℕ) → is_end left ≡ true
    → name_before_at kind other (place_of end left) ≡ Err (Grammar (offset_at (place_of end left)))
unfolding one_token_at name_before_at
stops_by kind other [] end none = refl
stops_by kind other (t ∷ rest) end none = cc

pub before_stops : (kind other : TokenKind) (tokens : Place) → is_end tokens.left ≡ true
    → name_before_at kind other tokens ≡ Err (Grammar (offset_at tokens))
before_stops kind other tokens none = stops_by kind other tokens.left tokens.end none

-- the name is the next token where the one behind it is of one of the kinds
named_by : (kind other : TokenKind) (left : List Lexeme) (end : ℕ)
    → (first_is (of_kind kind) (others left) || first_is (of_kind other) (others left)) ≡ true
    → name_before_at kind other (place_of end left) ≡ one_token_at (place_of end left)
unfolding one_token_at names_from name_before_at
named_by kind other [] end e = cc
named_by kind other (t ∷ []) end e = cc
named_by kind other (t ∷ (u ∷ rest)) end e = rw e refl

pub before_named : (kind other : TokenKind) (tokens : Place)
    → (first_is (of_kind kind) (others tokens.left) || first_is (of_kind other) (others tokens.left)) ≡ true
    → name_before_at kind other tokens ≡ one_token_at tokens
before_named kind other tokens e = named_by kind other tokens.left tokens.end e

-- one of two tests, by the first or the second
pub left_or : (a b : Bool) → a ≡ true → (a || b) ≡ true
left_or true b e = refl
left_or false b e = cc

pub right_or : (a b : Bool) → b ≡ true → (a || b) ≡ true
right_or true b e = refl
right_or false b e = e
