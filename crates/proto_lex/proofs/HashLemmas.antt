-- What stands at a place where a `#` may begin a comment, or in one.
use Rattle.std.proofs.Common.{◌≡◌, ℕ, ◌+◌, ◌<◌, Bool, true, false, not, cond, ◌||◌, ◌&&◌, nat_eq, nat_le, nat_lt}
use Rattle.std.proofs.Common.{Option, Some, None, is_some, Ok, Err, List, [], ◌∷◌, ◌++◌, length, reverse, refl, sym, ◌∙◌}
use Rattle.std.proofs.Common.{subst, arith, eqb-true, ◌-◌, ◌≤◌}
use Rattle.proto_lex.specs.declared.token.Token.{Token}
use Rattle.std.proofs.lemmas.Bool.Decides.{nat_tests}
use Rattle.proto_lex.specs.Bytes.{is_blank, is_letter, is_digit, is_quote, starts}
use Rattle.proto_lex.specs.Hashes.{Where, Plain, Behind, Commented, is_in_value, opens, closes}
use Rattle.proto_lex.specs.Lexes.{sign_kind, is_odd, is_odd_in}
use Rattle.proto_lex.specs.Reading.{piece_at, odd_piece, piece_in, opened_by}
use Rattle.proto_lex.specs.declared.fault.LexFault.TheVariants.{BadByte}
use Rattle.proto_lex.specs.declared.lexer.piece.Piece.{Piece}
use Rattle.proto_lex.specs.declared.lexer.piece.PieceKind.{PieceKind}
use Rattle.proto_lex.specs.declared.lexer.piece.PieceKind.TheVariants as piece
use Rattle.proto_lex.specs.declared.token.TokenKind.{TokenKind}
use Rattle.proto_lex.proofs.ReadingTestLemmas.{both, chosen, same_ok, err_not_ok}
use Rattle.proto_lex.proofs.PieceFound.{Stands, piece_found}
use Rattle.proto_lex.proofs.PieceExact.{piece_exact, stands_some, unknown_exact}

-- a character that begins no token

none_of : {P : Type 0} (p q r s : Bool) → not (p || q || r || s) ≡ true
    → (p ≡ false → q ≡ false → r ≡ false → s ≡ false → P) → P
none_of true q r s e k = absurd cc
none_of false true r s e k = absurd cc
none_of false false true s e k = absurd cc
none_of false false false true e k = absurd cc
none_of false false false false e k = k refl refl refl refl

no_kind : (o : Option TokenKind) → is_some o ≡ false → o ≡ None
no_kind None e = refl
no_kind (Some k) e = absurd cc

not_blank : (b : ℕ) → (nat_lt 32 b && nat_le b 127) ≡ true → is_blank b ≡ false
not_blank b e = grind (arith, nat_tests)

low : (b : ℕ) → (nat_lt 32 b && nat_le b 127) ≡ true → b < 128
low b e = grind (arith, nat_tests)

high : (b : ℕ) → (nat_lt 32 b && nat_le b 127) ≡ true → nat_eq b 0 ≡ false
high b e = grind (arith, nat_tests)

odd_unknown : (at b : ℕ) (others : List ℕ) → is_odd b ≡ true → piece_at at (b ∷ others) ≡ Err (BadByte at)
odd_unknown at b others t =
    both (nat_lt 32 b && nat_le b 127) (not (is_letter b || is_digit b || is_quote b || is_some (sign_kind b))) t
    (λ is none. none_of (is_letter b) (is_digit b) (is_quote b) (is_some (sign_kind b)) none
    (λ nl nd nq ns. unknown_exact at b others (not_blank b is) nl nd nq (no_kind (sign_kind b) ns)))

odd_in : (place : Where) (b : ℕ) → is_odd_in place b ≡ true → is_odd b ≡ true
odd_in Plain b t = absurd cc
odd_in (Behind tokens) b t =
    both (nat_eq b 35) (is_in_value 0 (reverse tokens)) t (λ h _. rw (eqb-true b 35 h) refl)
odd_in (Commented tokens depth) b t = t

seen : (place : Where) (b : ℕ) → is_odd_in place b ≡ true → (nat_lt 32 b && nat_le b 127) ≡ true
seen place b t =
    both (nat_lt 32 b && nat_le b 127) (not (is_letter b || is_digit b || is_quote b || is_some (sign_kind b)))
    (odd_in place b t) (λ is _. is)

pub odd_low : (place : Where) (b : ℕ) → is_odd_in place b ≡ true → b < 128
odd_low place b t = low b (seen place b t)

-- which is no NUL
pub odd_high : (place : Where) (b : ℕ) → is_odd_in place b ≡ true → nat_eq b 0 ≡ false
odd_high place b t = high b (seen place b t)

-- what stands at a place

abbrev pub StandsIn : Where → PieceKind → (word rest : List ℕ) → Type 0
StandsIn place piece.Odd word rest = (b : ℕ) × (word ≡ b ∷ []) × (is_odd_in place b ≡ true)
StandsIn place piece.Blank word rest = Stands piece.Blank word rest
StandsIn place (piece.Comment k) word rest = Stands (piece.Comment k) word rest
StandsIn place (piece.Token k) word rest = Stands (piece.Token k) word rest

-- the bytes begin with this piece
pub record BeginsIn (place : Where) (p : Piece) (bytes : List ℕ) : Type 0 where
  pub word : List ℕ
  pub rest : List ℕ
  pub parts : bytes ≡ word ++ rest
  pub counted : length word ≡ p.len
  pub stands : StandsIn place p.kind word rest

stands_in : (place : Where) (k : PieceKind) (word rest : List ℕ) → Stands k word rest → StandsIn place k word rest
stands_in place piece.Blank word rest s = s
stands_in place piece.Odd word rest s = absurd s
stands_in place (piece.Comment k) word rest s = s
stands_in place (piece.Token k) word rest s = s

pub piece_in_found : (place : Where) (at : ℕ) (bytes : List ℕ) (p : Piece) → piece_in place at bytes ≡ Ok p
    → BeginsIn place p bytes
unfolding piece_in piece_at
piece_in_found place at [] p e = err_not_ok e
piece_in_found place at (b ∷ others) p e =
    chosen (is_odd_in place b) e
    (λ t x. subst (λ (q : Piece). BeginsIn place q (b ∷ others)) (same_ok odd_piece p (Ok odd_piece) refl x) (record {
      word = b ∷ [];
      rest = others;
      parts = refl;
      counted = refl;
      stands = (b, refl, t);
    }))
    (λ _ x. let f = piece_found at (b ∷ others) p x in record {
      word = f.word;
      rest = f.rest;
      parts = f.parts;
      counted = f.counted;
      stands = stands_in place p.kind f.word f.rest f.stands;
    })

-- what is read though no `#` begins a comment is read wherever one may
pub piece_in_piece : (place : Where) (at : ℕ) (bytes : List ℕ) (p : Piece) → piece_at at bytes ≡ Ok p
    → piece_in place at bytes ≡ Ok p
unfolding piece_in
piece_in_piece place at [] p e = e
piece_in_piece place at (b ∷ others) p e =
    elim (is_odd_in place b) as
    (λ t. is_odd_in place b ≡ t → cond t (Ok odd_piece) (piece_at at (b ∷ others)) ≡ Ok p) [
      | true ↦ λ t. err_not_ok (sym (odd_unknown at b others (odd_in place b t)) ∙ e)
      | false ↦ λ _. e
    ] refl

pub piece_in_not_odd : (place : Where) (at : ℕ) (bytes : List ℕ) → starts (is_odd_in place) bytes ≡ false
    → piece_in place at bytes ≡ piece_at at bytes
unfolding piece_in
piece_in_not_odd place at [] n = refl
piece_in_not_odd place at (b ∷ others) n = rw n refl

pub piece_in_exact : (place : Where) (at : ℕ) (k : PieceKind) (word rest : List ℕ) → StandsIn place k word rest
    → piece_in place at (word ++ rest) ≡ Ok (record { kind = k; len = length word })
unfolding piece_in
piece_in_exact place at piece.Odd word rest s = rw (s.1, s.2) refl
piece_in_exact place at piece.Blank word rest s =
    piece_in_piece place at (word ++ rest) _ (piece_exact at piece.Blank word rest s)
piece_in_exact place at (piece.Comment k) word rest s =
    piece_in_piece place at (word ++ rest) _ (piece_exact at (piece.Comment k) word rest s)
piece_in_exact place at (piece.Token k) word rest s =
    piece_in_piece place at (word ++ rest) _ (piece_exact at (piece.Token k) word rest s)

pub stands_in_some : (place : Where) (k : PieceKind) (word rest : List ℕ) → StandsIn place k word rest
    → 0 < length word
stands_in_some place piece.Odd word rest s = rw s.1 (omega arith)
stands_in_some place piece.Blank word rest s = stands_some piece.Blank word rest s
stands_in_some place (piece.Comment k) word rest s = stands_some (piece.Comment k) word rest s
stands_in_some place (piece.Token k) word rest s = stands_some (piece.Token k) word rest s

-- how far the count of braces goes

pub opened_most : (depth : ℕ) (k : PieceKind) → opened_by depth k ≤ depth + 1
opened_most depth piece.Blank = omega arith
opened_most depth piece.Odd = omega arith
opened_most depth (piece.Comment k) = omega arith
opened_most depth (piece.Token k) = by depth (opens k) (closes k)
  where
    by : (n : ℕ) (a b : Bool) → cond a (n + 1) (cond b (n - 1) n) ≤ n + 1
    by n true b = omega arith
    by n false true = omega arith
    by n false false = omega arith
