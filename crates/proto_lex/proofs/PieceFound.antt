use Rattle.std.proofs.Common.{◌≡◌, ℕ, ◌+◌, true, false, ◌||◌, nat_eq, Option, Some, None, Ok, List, [], ◌∷◌, ◌++◌}
use Rattle.std.proofs.Common.{length, take, drop, refl, sym, ap, subst, arith, eqb-true}
use Rattle.std.proofs.lemmas.Bool.Decides.{nat_tests}
use Rattle.std.proofs.lemmas.List.{take-append-drop}
use Rattle.std.proofs.lemmas.List.Folds.{length-prefix_len}
use Rattle.std.specs.List.{AllByRecursion, prefix_len}
use Rattle.std.proofs.lemmas.Option.{same_Some, none-some}
use Rattle.proto_lex.specs.Bytes.{is_blank, is_letter, is_word, is_quote, starts}
use Rattle.proto_lex.specs.Numbers.{run_of, begins_number}
use Rattle.proto_lex.specs.Comments.{IsComment, line, block}
use Rattle.proto_lex.specs.Lexes.{signs, kind_in, sign_kind, identifier, integer, float, literal, sign}
use Rattle.proto_lex.specs.Lexes.{IsWhole, IsToken}
use Rattle.proto_lex.specs.Reading.{◌>>=◌, is_in_line, is_integer, is_float, number_kind, token, numbered, number_at}
use Rattle.proto_lex.specs.Reading.{literal_at, block_at, blocked, past_first, slash_at, signed, piece_at}
use Rattle.proto_lex.specs.declared.lexer.piece.Piece.{Piece}
use Rattle.proto_lex.specs.declared.lexer.piece.PieceKind.{PieceKind}
use Rattle.proto_lex.specs.declared.lexer.piece.PieceKind.TheVariants as piece
use Rattle.proto_lex.specs.declared.token.TokenKind.{TokenKind}
use Rattle.proto_lex.specs.declared.token.TokenKind.TheVariants as kind
use Rattle.proto_lex.specs.declared.token.CommentKind.TheVariants as comment
use Rattle.proto_lex.proofs.ReadingTestLemmas.{chosen, same_ok, err_not_ok, bind_ok}
use Rattle.proto_lex.proofs.ReadingPrefixLemmas.{prefix_passes, prefix_stops}
use Rattle.proto_lex.proofs.NumberLemmas.{integer_found, float_found}
use Rattle.proto_lex.proofs.NumberLemmas.{run_of-front}
use Rattle.proto_lex.proofs.LiteralFound.{literal_found}
use Rattle.proto_lex.proofs.CommentLemmas.{block_found}

-- What is read at a place stands there.

abbrev pub Stands : PieceKind → (word rest : List ℕ) → Type 0
Stands piece.Blank word rest = (b : ℕ) × (word ≡ b ∷ []) × (is_blank b ≡ true)
Stands piece.Odd word rest = ⊥
Stands (piece.Comment k) word rest = IsComment k word rest
Stands (piece.Token k) word rest = IsToken k word rest

-- the bytes begin with this piece
pub record Begins (p : Piece) (bytes : List ℕ) : Type 0 where
  pub word : List ℕ
  pub rest : List ℕ
  pub parts : bytes ≡ word ++ rest
  pub counted : length word ≡ p.len
  pub stands : Stands p.kind word rest

-- the signs, one by one
cases_in : (P : ℕ → TokenKind → Type 0) (table : List (ℕ × TokenKind)) (b : ℕ) (k : TokenKind)
    → kind_in table b ≡ Some k → AllByRecursion (λ (s : ℕ × TokenKind). P s.0 s.1) table → P b k
cases_in P [] b k e all = absurd (none-some _ e)
cases_in P (s ∷ table) b k e all =
    chosen (nat_eq b s.0) e
    (λ t x. subst (λ (i : TokenKind). P b i) (same_Some _ _ x)
    (subst (λ (a : ℕ). P a s.1) (sym (eqb-true b s.0 t)) all.0))
    (λ _ x. cases_in P table b k x all.1)

pub sign_cases : (P : ℕ → TokenKind → Type 0) (b : ℕ) (k : TokenKind) → sign_kind b ≡ Some k
    → P 59 kind.Semicolon → P 61 kind.Equals → P 123 kind.OpenBrace → P 125 kind.CloseBrace → P 91 kind.OpenBracket
    → P 93 kind.CloseBracket
    → P 40 kind.OpenParenthesis → P 41 kind.CloseParenthesis → P 60 kind.Less → P 62 kind.Greater → P 44 kind.Comma
    → P 46 kind.Dot
    → P 58 kind.Colon → P 43 kind.Plus → P 45 kind.Minus → P 47 kind.Slash → P b k
sign_cases P b k e p1 p2 p3 p4 p5 p6 p7 p8 p9 p10 p11 p12 p13 p14 p15 p16 =
    cases_in P signs b k e
    (p1, (p2, (p3, (p4, (p5, (p6, (p7, (p8, (p9, (p10, (p11, (p12, (p13, (p14, (p15, (p16, tt))))))))))))))))

-- numbers

kind_found : (run rest : List ℕ) (k : TokenKind) → number_kind run ≡ Some k → run_of (run ++ rest) ≡ run
    → IsToken k run rest
kind_found run rest k e w =
    chosen (is_integer run) e
    (λ t x. subst (λ (j : TokenKind). IsToken j run rest) (same_Some _ _ x)
    (record { spelled = integer (integer_found run t); whole = w })) (λ _ x.
    chosen (is_float run) x
    (λ t y. subst (λ (j : TokenKind). IsToken j run rest) (same_Some _ _ y)
    (record { spelled = float (float_found run t); whole = w }))
    (λ _ y. absurd (none-some _ y)))

numbered_found : (at : ℕ) (o : Option TokenKind) (len : ℕ) (p : Piece) → numbered at o len ≡ Ok p
    → (k : TokenKind) × (o ≡ Some k) × (token k len ≡ p)
numbered_found at None len p e = err_not_ok e
numbered_found at (Some k) len p e = (k, refl, same_ok (token k len) p (Ok (token k len)) refl e)

number_found : (at : ℕ) (bytes : List ℕ) (p : Piece) → number_at at bytes ≡ Ok p → Begins p bytes
unfolding number_at
number_found at bytes p e =
    let run = run_of bytes in
    let rest = drop (length (run_of bytes)) bytes in
    let m = numbered_found at (number_kind run) (length run) p e in
    let parts : run ++ rest ≡ bytes =
    subst (λ (w : List ℕ). w ++ rest ≡ bytes) (run_of-front bytes) (take-append-drop (length run) bytes) in
    subst (λ (q : Piece). Begins q bytes) m.2 (record {
      word = run;
      rest = rest;
      parts = sym parts;
      counted = refl;
      stands = kind_found run rest m.0 m.1 (ap run_of parts);
    })

-- comments and the sign `/`

line_found : (others : List ℕ) → starts (nat_eq 47) others ≡ true
    → Begins (record { kind = piece.Comment comment.Line; len = 1 + prefix_len is_in_line others }) (47 ∷ others)
line_found [] t = absurd cc
line_found (c ∷ others) t =
    let same : 47 ≡ c = eqb-true 47 c t in
    let n = prefix_len is_in_line others in
    let counted : length (47 ∷ (47 ∷ take n others)) ≡ 1 + (1 + n) =
    omega (arith, length-prefix_len is_in_line others) in
    rw (← same) (record {
      word = 47 ∷ (47 ∷ take n others);
      rest = drop n others;
      parts = ap (λ xs. 47 ∷ (47 ∷ xs)) (sym (take-append-drop n others));
      counted = counted;
      stands = line (prefix_passes is_in_line others) (prefix_stops is_in_line others);
    })

blocked_found : (at : ℕ) (o : Option ℕ) (p : Piece) → blocked at o ≡ Ok p
    → (len : ℕ) × (o ≡ Some len) × (record { kind = piece.Comment comment.Block; len = len } ≡ p)
blocked_found at None p e = err_not_ok e
blocked_found at (Some len) p e =
    let q : Piece = record { kind = piece.Comment comment.Block; len = len } in (len, refl, same_ok q p (Ok q) refl e)

closed_found : (at : ℕ) (others : List ℕ) (p : Piece) → starts (nat_eq 42) others ≡ true
    → blocked at (block_at 2 (past_first others)) ≡ Ok p
    → Begins p (47 ∷ others)
closed_found at [] p t e = absurd cc
closed_found at (c ∷ others) p t e =
    let same : 42 ≡ c = eqb-true 42 c t in
    let m = blocked_found at (block_at 2 others) p e in
    let f = block_found 2 m.0 others m.1 in
    let g = f.2 in
    let counted : length (47 ∷ (42 ∷ g.front)) ≡ m.0 = omega (arith, f.1, g.counted) in
    subst (λ (q : Piece). Begins q (47 ∷ (c ∷ others))) m.2 (rw (← same) (record {
      word = 47 ∷ (42 ∷ g.front);
      rest = g.rest;
      parts = ap (λ xs. 47 ∷ (42 ∷ xs)) g.parts;
      counted = counted;
      stands = block g.ends;
    }))

no_comment : (others : List ℕ) → starts (nat_eq 47) others ≡ false → starts (nat_eq 42) others ≡ false
    → starts (λ b. nat_eq b 47 || nat_eq b 42) others ≡ false
no_comment [] h i = refl
no_comment (c ∷ others) h i = no_mark c h i
  where
    no_mark : (c : ℕ) → nat_eq 47 c ≡ false → nat_eq 42 c ≡ false → (nat_eq c 47 || nat_eq c 42) ≡ false
    no_mark c h i = grind (arith, nat_tests)

slash_found : (at : ℕ) (others : List ℕ) (p : Piece) → slash_at at others ≡ Ok p → Begins p (47 ∷ others)
slash_found at others p e =
    let q : Piece = record { kind = piece.Comment comment.Line; len = 1 + prefix_len is_in_line others } in
    chosen (starts (nat_eq 47) others) e
    (λ t x. subst (λ (r : Piece). Begins r (47 ∷ others)) (same_ok q p (Ok q) refl x) (line_found others t)) (λ n x.
    chosen (starts (nat_eq 42) others) x
    (λ t y. closed_found at others p t y)
    (λ m y. subst (λ (r : Piece). Begins r (47 ∷ others))
    (same_ok (token kind.Slash 1) p (Ok (token kind.Slash 1)) refl y) (record {
      word = 47 ∷ [];
      rest = others;
      parts = refl;
      counted = refl;
      stands = record { spelled = sign {b = 47} refl; whole = no_comment others n m };
    })))

-- the other signs

sign_whole : (b : ℕ) (k : TokenKind) (rest : List ℕ) → sign_kind b ≡ Some k → nat_eq b 47 ≡ false
    → begins_number (b ∷ rest) ≡ false
    → IsWhole k (b ∷ []) rest
sign_whole b k rest e =
    sign_cases (λ c j. nat_eq c 47 ≡ false → begins_number (c ∷ rest) ≡ false → IsWhole j (c ∷ []) rest) b k e
    (λ _ _. tt) (λ _ _. tt) (λ _ _. tt) (λ _ _. tt) (λ _ _. tt) (λ _ _. tt) (λ _ _. tt) (λ _ _. tt) (λ _ _. tt)
    (λ _ _. tt)
    (λ _ _. tt) (λ _ h. h) (λ _ _. tt) (λ _ _. tt) (λ _ _. tt) (λ n _. absurd cc)

signed_found : (at : ℕ) (o : Option TokenKind) (p : Piece) → signed at o ≡ Ok p
    → (k : TokenKind) × (o ≡ Some k) × (token k 1 ≡ p)
signed_found at None p e = err_not_ok e
signed_found at (Some k) p e = (k, refl, same_ok (token k 1) p (Ok (token k 1)) refl e)

sign_found : (at b : ℕ) (others : List ℕ) (p : Piece) → signed at (sign_kind b) ≡ Ok p → nat_eq b 47 ≡ false
    → begins_number (b ∷ others) ≡ false
    → Begins p (b ∷ others)
sign_found at b others p e n m =
    let f = signed_found at (sign_kind b) p e in
    subst (λ (r : Piece). Begins r (b ∷ others)) f.2 (record {
      word = b ∷ [];
      rest = others;
      parts = refl;
      counted = refl;
      stands = record { spelled = sign f.1; whole = sign_whole b f.0 others f.1 n m };
    })

-- identifiers and strings

identifier_found : (b : ℕ) (others : List ℕ) → is_letter b ≡ true
    → Begins (token kind.Identifier (1 + prefix_len is_word others)) (b ∷ others)
identifier_found b others t =
    let n = prefix_len is_word others in
    let counted : length (b ∷ take n others) ≡ 1 + n = omega (arith, length-prefix_len is_word others) in
    record {
      word = b ∷ take n others;
      rest = drop n others;
      parts = ap (λ xs. b ∷ xs) (sym (take-append-drop n others));
      counted = counted;
      stands = record { spelled = identifier t (prefix_passes is_word others); whole = prefix_stops is_word others };
    }

string_found : (at b : ℕ) (others : List ℕ) (p : Piece) → is_quote b ≡ true
    → (literal_at b at 0 1 others >>= λ len. Ok (token kind.StringLiteral len)) ≡ Ok p → Begins p (b ∷ others)
string_found at b others p t e =
    let m = bind_ok (literal_at b at 0 1 others) (λ len. Ok (token kind.StringLiteral len)) p e in
    let f = literal_found b at 0 1 m.0 others m.1 in
    let g = f.2 in
    let counted : length (b ∷ g.front) ≡ m.0 = omega (arith, f.1, g.counted) in
    let q : Piece = token kind.StringLiteral m.0 in
    subst (λ (r : Piece). Begins r (b ∷ others)) (same_ok q p (Ok q) refl m.2) (record {
      word = b ∷ g.front;
      rest = g.rest;
      parts = ap (λ xs. b ∷ xs) g.parts;
      counted = counted;
      stands = record { spelled = literal t g.ends; whole = tt };
    })

pub piece_found : (at : ℕ) (bytes : List ℕ) (p : Piece) → piece_at at bytes ≡ Ok p → Begins p bytes
unfolding piece_at
piece_found at [] p e = err_not_ok e
piece_found at (b ∷ others) p e =
    let q : Piece = record { kind = piece.Blank; len = 1 } in
    let w : Piece = token kind.Identifier (1 + prefix_len is_word others) in
    chosen (is_blank b) e
    (λ t x. subst (λ (r : Piece). Begins r (b ∷ others)) (same_ok q p (Ok q) refl x) (record {
      word = b ∷ [];
      rest = others;
      parts = refl;
      counted = refl;
      stands = (b, refl, t);
    })) (λ _ x.
    chosen (is_letter b) x
    (λ t y. subst (λ (r : Piece). Begins r (b ∷ others)) (same_ok w p (Ok w) refl y) (identifier_found b others t))
    (λ _ y.
    chosen (begins_number (b ∷ others)) y (λ _ z. number_found at (b ∷ others) p z) (λ m z.
    chosen (is_quote b) z (λ t v. string_found at b others p t v) (λ _ v.
    chosen (nat_eq b 47) v
    (λ t u. rw (eqb-true b 47 t) (slash_found at others p u))
    (λ n u. sign_found at b others p u n m)))))
