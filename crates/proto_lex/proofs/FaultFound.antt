use Rattle.std.proofs.Common.{◌≡◌, ℕ, zero, suc, ◌+◌, ◌-◌, ◌<◌, Bool, true, false, cond, ◌||◌, ◌&&◌, ◌⊎◌, inl, inr}
use Rattle.std.proofs.Common.{nat_eq, Option, Some, None, Ok, Err, List, [], ◌∷◌, ◌++◌, length, drop, refl, sym, ◌∙◌}
use Rattle.std.proofs.Common.{ap, subst, arith, eqb-true, add-zero}
use Rattle.std.proofs.lemmas.List.{drop_at}
use Rattle.std.proofs.lemmas.Option.{none-some}
use Rattle.proto_lex.specs.Bytes.{is_blank, is_letter, is_digit, is_quote, starts}
use Rattle.proto_lex.specs.Numbers.{begins_number, run_of}
use Rattle.proto_lex.specs.Literals.{is_plain, IsEscape}
use Rattle.proto_lex.specs.Hashes.{Where, behind, past_odd}
use Rattle.proto_lex.specs.Lexes.{sign_kind, is_odd_in}
use Rattle.proto_lex.specs.declared.hashes.Hashes.{Hashes}
use Rattle.proto_lex.specs.Faults.{here, character, escape, IsStringFault, cut, nul, no_escape, IsFaultAt, unknown}
use Rattle.proto_lex.specs.Faults.{no_number, no_close, no_string, Meets, fault, blank, comment, token, odd, begins_mark}
use Rattle.proto_lex.specs.Faults.{IsFirstFaultWith, unmarked, marked}
use Rattle.proto_lex.specs.Reading.{Read, ◌>>=◌, is_integer, is_float, number_kind, numbered, number_at}
use Rattle.proto_lex.specs.Reading.{escape_len, escaped, character_at, literal_at, block_at, blocked, past_first}
use Rattle.proto_lex.specs.Reading.{slash_at, signed, piece_at, piece_in, past_piece, Pieces, with_first, pieces_at, mark_len, pieces_of}
use Rattle.proto_lex.specs.Reading as reading
use Rattle.proto_lex.specs.declared.fault.LexFault.{LexFault}
use Rattle.proto_lex.specs.declared.fault.LexFault.TheVariants.{Memory, BadByte, OpenString, OpenComment, BadEscape}
use Rattle.proto_lex.specs.declared.fault.LexFault.TheVariants.{BadNumber}
use Rattle.proto_lex.specs.declared.lexer.piece.Piece.{Piece}
use Rattle.proto_lex.specs.declared.lexer.piece.PieceKind.{PieceKind}
use Rattle.proto_lex.specs.declared.lexer.piece.PieceKind.TheVariants as piece
use Rattle.proto_lex.specs.declared.token.TokenKind.{TokenKind}
use Rattle.proto_lex.specs.declared.token.TokenKind.TheVariants as kind
use Rattle.proto_lex.proofs.ReadingTestLemmas.{chosen, same_ok, err_not_ok, ok_not_err, same_err, bind_err}
use Rattle.proto_lex.proofs.ByteLemmas.{is_plain_from}
use Rattle.proto_lex.proofs.NumberLemmas.{integer_exact, float_exact}
use Rattle.proto_lex.proofs.LiteralLemmas.{character_positive}
use Rattle.proto_lex.proofs.LiteralFound.{EscapeFront, escape_found, escaped_found}
use Rattle.proto_lex.proofs.LiteralExact.{escape_some}
use Rattle.proto_lex.proofs.CommentLemmas.{block_exact}
use Rattle.proto_lex.proofs.HashLemmas.{StandsIn, BeginsIn, piece_in_found, stands_in_some}
use Rattle.proto_lex.proofs.LexesLemmas.{mark_cases}
use Rattle.proto_lex.proofs.PiecesLemmas.{drop_after}

-- The fault that is read is the one that the text meets first.

abbrev failed : LexFault → Read ℕ
failed f = Err f

-- strings

-- a character or an escape before a fault
plain_before : (quote opening place b : ℕ) (others : List ℕ) (f : LexFault) → is_plain quote b ≡ true
    → IsStringFault quote opening (place + 1) others f → IsStringFault quote opening place (b ∷ others) f
plain_before quote opening place b others f p (cut h s) = cut (character p h) s
plain_before quote opening place b others f p (nul h) = nul (character p h)
plain_before quote opening place b others f p (no_escape h n) = no_escape (character p h) n

escape_before : (quote opening place : ℕ) (letters others : List ℕ) (f : LexFault) → IsEscape letters
    → IsStringFault quote opening (place + (1 + length letters)) others f
    → IsStringFault quote opening place (92 ∷ (letters ++ others)) f
escape_before quote opening place letters others f p (cut h s) = cut (escape p h) s
escape_before quote opening place letters others f p (nul h) = nul (escape p h)
escape_before quote opening place letters others f p (no_escape h n) = no_escape (escape p h) n

escaped_fault : (at : ℕ) (len : Option ℕ) (f : LexFault) → escaped at len ≡ Err f → (len ≡ None) × (BadEscape at ≡ f)
escaped_fault at None f e = (refl, same_err (BadEscape at) f (escaped at None) refl e)
escaped_fault at (Some len) f e = ok_not_err e

character_fault : (quote opening at b : ℕ) (others : List ℕ) (f : LexFault) → character_at opening at b others ≡ Err f
    → IsStringFault quote opening at (b ∷ others) f
unfolding character_at
character_fault quote opening at b others f e =
    chosen (nat_eq b 10) e
    (λ t x. rw (eqb-true b 10 t) (subst (λ (d : LexFault). IsStringFault quote opening at (10 ∷ others) d)
    (same_err (OpenString opening) f (failed (OpenString opening)) refl x) (cut here refl))) (λ _ x.
    chosen (nat_eq b 0) x
    (λ t y. rw (eqb-true b 0 t) (subst (λ (d : LexFault). IsStringFault quote opening at (0 ∷ others) d)
    (same_err (BadByte at) f (failed (BadByte at)) refl y) (nul here))) (λ _ y.
    chosen (nat_eq b 92) y
    (λ t z. let g = escaped_fault at (escape_len others) f z in
    rw (eqb-true b 92 t) (subst (λ (d : LexFault). IsStringFault quote opening at (92 ∷ others) d) g.1
    (no_escape here (λ letters rest form parts.
    absurd (none-some _ (sym g.0 ∙ (ap escape_len parts ∙ (escape_some form rest).1)))))))
    (λ _ z. ok_not_err z)))

backslash_before : (quote opening at more count : ℕ) (others : List ℕ) (f : LexFault) → EscapeFront others count
    → more ≡ count + 1
    → IsStringFault quote opening (at + more) (drop (more - 1) others) f
    → IsStringFault quote opening at (92 ∷ others) f
backslash_before quote opening at more count others f h n g =
    let less : more - 1 ≡ count = omega arith in
    let back : drop (more - 1) others ≡ h.rest = rw (less, h.parts) (drop_at h.front h.rest count (sym h.counted)) in
    let place : at + more ≡ at + (1 + length h.front) = omega (arith, h.counted) in
    let from : IsStringFault quote opening (at + (1 + length h.front)) h.rest f =
    subst (λ (k : ℕ). IsStringFault quote opening k h.rest f) place
    (subst (λ (xs : List ℕ). IsStringFault quote opening (at + more) xs f) back g) in
    subst (λ (xs : List ℕ). IsStringFault quote opening at (92 ∷ xs) f) (sym h.parts)
    (escape_before quote opening at h.front h.rest f h.form from)

-- a character that is read, before a fault
character_before : (quote opening at b more : ℕ) (others : List ℕ) (f : LexFault) → nat_eq b quote ≡ false
    → character_at opening at b others ≡ Ok more → IsStringFault quote opening (at + more) (drop (more - 1) others) f
    → IsStringFault quote opening at (b ∷ others) f
unfolding character_at
character_before quote opening at b more others f nq e g =
    chosen (nat_eq b 10) e (λ _ x. err_not_ok x) (λ n10 x.
    chosen (nat_eq b 0) x (λ _ y. err_not_ok y) (λ n0 y.
    chosen (nat_eq b 92) y
    (λ t z. let m = escaped_found at (escape_len others) more z in
    rw (eqb-true b 92 t) (backslash_before quote opening at more m.0 others f (escape_found others m.0 m.1) m.2 g))
    (λ n92 z. let one : 1 ≡ more = same_ok 1 more (Ok 1) refl z in
    plain_before quote opening at b others f (is_plain_from quote b nq n10 n0 n92)
    (subst (λ (k : ℕ). IsStringFault quote opening (at + k) (drop (k - 1) others) f) (sym one) g))))

literal_fault_found : (quote opening skip len : ℕ) (bytes : List ℕ) (f : LexFault)
    → literal_at quote opening skip len bytes ≡ Err f
    → IsStringFault quote opening (opening + len + skip) (drop skip bytes) f
unfolding literal_at
literal_fault_found quote opening zero len [] f e =
    subst (λ (d : LexFault). IsStringFault quote opening (opening + len + 0) [] d)
    (same_err (OpenString opening) f (failed (OpenString opening)) refl e) (cut here refl)
literal_fault_found quote opening (suc skip) len [] f e =
    subst (λ (d : LexFault). IsStringFault quote opening (opening + len + suc skip) [] d)
    (same_err (OpenString opening) f (failed (OpenString opening)) refl e) (cut here refl)
literal_fault_found quote opening (suc skip) len (b ∷ others) f e =
    let n : opening + (len + 1) + skip ≡ opening + len + suc skip = omega arith in
    rw n at (literal_fault_found quote opening skip (len + 1) others f e)
literal_fault_found quote opening zero len (b ∷ others) f e =
    chosen (nat_eq b quote) e (λ _ x. ok_not_err x) (λ n x.
    rw add-zero (bind_err (character_at opening (opening + len) b others)
    (λ more. literal_at quote opening (more - 1) (len + 1) others) f x
    (λ y. character_fault quote opening (opening + len) b others f y)
    (λ more y z.
    let some = character_positive opening (opening + len) b more others y in
    let place : opening + (len + 1) + (more - 1) ≡ opening + len + more = omega (arith, some) in
    character_before quote opening (opening + len) b more others f n y
    (rw place at (literal_fault_found quote opening (more - 1) (len + 1) others f z)))))

-- what stands at a place

numbered_fault : (at : ℕ) (o : Option TokenKind) (len : ℕ) (f : LexFault) → numbered at o len ≡ Err f
    → (o ≡ None) × (BadNumber at ≡ f)
numbered_fault at None len f e = (refl, same_err (BadNumber at) f (numbered at None len) refl e)
numbered_fault at (Some k) len f e = ok_not_err e

no_kind : (run : List ℕ) → number_kind run ≡ None → (is_integer run ≡ false) × (is_float run ≡ false)
no_kind run e =
    chosen (is_integer run) e (λ _ x. absurd (none-some _ (sym x))) (λ i x.
    chosen (is_float run) x (λ _ y. absurd (none-some _ (sym y))) (λ f _. (i, f)))

number_fault : (at : ℕ) (bytes : List ℕ) (f : LexFault) → begins_number bytes ≡ true → number_at at bytes ≡ Err f
    → IsFaultAt at bytes f
unfolding number_at
number_fault at bytes f t e =
    let m = numbered_fault at (number_kind (run_of bytes)) (length (run_of bytes)) f e in
    let k = no_kind (run_of bytes) m.0 in
    subst (λ (d : LexFault). IsFaultAt at bytes d) m.1
    (no_number t (λ i. let yes = integer_exact i in let no = k.0 in cc)
    (λ i. let yes = float_exact i in let no = k.1 in cc))

blocked_fault : (at : ℕ) (o : Option ℕ) (f : LexFault) → blocked at o ≡ Err f → (o ≡ None) × (OpenComment at ≡ f)
blocked_fault at None f e = (refl, same_err (OpenComment at) f (blocked at None) refl e)
blocked_fault at (Some len) f e = ok_not_err e

open_fault : (at : ℕ) (others : List ℕ) (f : LexFault) → starts (nat_eq 42) others ≡ true
    → blocked at (block_at 2 (past_first others)) ≡ Err f
    → IsFaultAt at (47 ∷ others) f
open_fault at [] f t e = absurd cc
open_fault at (c ∷ others) f t e =
    let same : 42 ≡ c = eqb-true 42 c t in
    let m = blocked_fault at (block_at 2 others) f e in
    subst (λ (d : LexFault). IsFaultAt at (47 ∷ (c ∷ others)) d) m.1 (rw (← same) (no_close (λ inside rest r parts.
    absurd (none-some _ (sym m.0 ∙ (ap (block_at 2) parts ∙ block_exact 2 rest r))))))

slash_fault : (at : ℕ) (others : List ℕ) (f : LexFault) → slash_at at others ≡ Err f → IsFaultAt at (47 ∷ others) f
slash_fault at others f e =
    chosen (starts (nat_eq 47) others) e (λ _ x. ok_not_err x) (λ _ x.
    chosen (starts (nat_eq 42) others) x (λ t y. open_fault at others f t y) (λ _ y. ok_not_err y))

signed_fault : (at : ℕ) (o : Option TokenKind) (f : LexFault) → signed at o ≡ Err f → (o ≡ None) × (BadByte at ≡ f)
signed_fault at None f e = (refl, same_err (BadByte at) f (signed at None) refl e)
signed_fault at (Some k) f e = ok_not_err e

or_false : (a b : Bool) → (a || b) ≡ false → a ≡ false
or_false true b e = e
or_false false b e = refl

string_fault : (at b : ℕ) (others : List ℕ) (f : LexFault) → is_quote b ≡ true
    → (literal_at b at 0 1 others >>= λ len. Ok (reading.token kind.StringLiteral len)) ≡ Err f
    → IsFaultAt at (b ∷ others) f
string_fault at b others f t e =
    bind_err (literal_at b at 0 1 others) (λ len. Ok (reading.token kind.StringLiteral len)) f e
    (λ x. no_string t (rw add-zero at (literal_fault_found b at 0 1 others f x)))
    (λ _ _ x. ok_not_err x)

piece_fault : (at b : ℕ) (others : List ℕ) (f : LexFault) → piece_at at (b ∷ others) ≡ Err f
    → IsFaultAt at (b ∷ others) f
unfolding piece_at
piece_fault at b others f e =
    chosen (is_blank b) e (λ _ x. ok_not_err x) (λ nb x.
    chosen (is_letter b) x (λ _ y. ok_not_err y) (λ nl y.
    chosen (begins_number (b ∷ others)) y (λ t z. number_fault at (b ∷ others) f t z) (λ nn z.
    chosen (is_quote b) z (λ t v. string_fault at b others f t v) (λ nq v.
    chosen (nat_eq b 47) v
    (λ t u. rw (eqb-true b 47 t) (slash_fault at others f u))
    (λ _ u. let m = signed_fault at (sign_kind b) f u in
    subst (λ (d : LexFault). IsFaultAt at (b ∷ others) d) m.1
    (unknown nb nl (or_false (is_digit b) (nat_eq b 46 && starts is_digit others) nn) nq m.0))))))

-- the text

placed : (place : Where) (at : ℕ) (k : PieceKind) (word rest : List ℕ) (f : LexFault) → StandsIn place k word rest
    → Meets (past_piece place k at (length word)) (at + length word) rest f → Meets place at (word ++ rest) f
placed place at piece.Blank word rest f s r =
    let from : Meets place (at + 1) rest f = subst (λ (w : List ℕ). Meets place (at + length w) rest f) s.1 r in
    subst (λ (w : List ℕ). Meets place at (w ++ rest) f) (sym s.1) (blank s.2 from)
placed place at piece.Odd word rest f s r =
    let from : Meets (past_odd place) (at + 1) rest f =
    subst (λ (w : List ℕ). Meets (past_odd place) (at + length w) rest f) s.1 r in
    subst (λ (w : List ℕ). Meets place at (w ++ rest) f) (sym s.1) (odd s.2 from)
placed place at (piece.Comment k) word rest f s r = comment s r
placed place at (piece.Token k) word rest f s r = token s r

piece_before : (place : Where) (at b : ℕ) (others : List ℕ) (p : Piece) (f : LexFault) → BeginsIn place p (b ∷ others)
    → 0 < p.len
    → Meets (past_piece place p.kind at p.len) (at + 1 + (p.len - 1)) (drop (p.len - 1) others) f
    → Meets place at (b ∷ others) f
piece_before place at b others p f h some r =
    let n : at + 1 + (p.len - 1) ≡ at + length h.word = omega (arith, h.counted) in
    let left : drop (p.len - 1) others ≡ h.rest =
    drop_after p.len b others some ∙ (ap (λ xs. drop p.len xs) h.parts ∙ drop_at h.word h.rest p.len h.counted) in
    let from : Meets (past_piece place p.kind at p.len) (at + length h.word) h.rest f = rw (n, left) at r in
    let counted : Meets (past_piece place p.kind at (length h.word)) (at + length h.word) h.rest f =
    subst (λ (len : ℕ). Meets (past_piece place p.kind at len) (at + length h.word) h.rest f) (sym h.counted) from in
    subst (λ (xs : List ℕ). Meets place at xs f) (sym h.parts) (placed place at p.kind h.word h.rest f h.stands counted)

pieces_fault_found : (place : Where) (skip at : ℕ) (bytes : List ℕ) (f : LexFault)
    → pieces_at place skip at bytes ≡ Err f
    → Meets place (at + skip) (drop skip bytes) f
unfolding pieces_at piece_in
pieces_fault_found place zero at [] f e = ok_not_err e
pieces_fault_found place (suc skip) at [] f e = ok_not_err e
pieces_fault_found place (suc skip) at (b ∷ others) f e =
    let n : at + 1 + skip ≡ at + suc skip = omega arith in
    rw n at (pieces_fault_found place skip (at + 1) others f e)
pieces_fault_found place zero at (b ∷ others) f e =
    let Later : Piece → Read Pieces = λ p.
    pieces_at (past_piece place p.kind at p.len) (p.len - 1) (at + 1) others
    >>= λ later. Ok (with_first place p.kind at p.len later) in
    rw add-zero (bind_err (piece_in place at (b ∷ others)) Later f e
    (λ x. chosen (is_odd_in place b) x (λ _ y. ok_not_err y) (λ n y. fault n (piece_fault at b others f y)))
    (λ p x y. bind_err (pieces_at (past_piece place p.kind at p.len) (p.len - 1) (at + 1) others)
    (λ later. Ok (with_first place p.kind at p.len later)) f y
    (λ z.
    let h = piece_in_found place at (b ∷ others) p x in
    let some : 0 < p.len = omega (arith, h.counted, stands_in_some place p.kind h.word h.rest h.stands) in
    piece_before place at b others p f h some
    (pieces_fault_found (past_piece place p.kind at p.len) (p.len - 1) (at + 1) others f z))
    (λ _ _ z. ok_not_err z)))

no_mark : (text : List ℕ) → mark_len text ≡ 0 → begins_mark text ≡ false
no_mark [] e = refl
no_mark (a ∷ []) e = refl
no_mark (a ∷ (b ∷ [])) e = refl
no_mark (a ∷ (b ∷ (c ∷ rest))) e =
    elim (nat_eq a 239 && nat_eq b 187 && nat_eq c 191) as (λ t. cond {A = ℕ} t 3 0 ≡ 0 → t ≡ false) [
      | true ↦ λ three. absurd (omega (arith, three))
      | false ↦ λ _. refl
    ] e

pub first_fault_found : (hashes : Hashes) (text : List ℕ) (f : LexFault) → pieces_of hashes text ≡ Err f
    → IsFirstFaultWith hashes text f
unfolding pieces_of
first_fault_found hashes text f e =
    mark_cases text
    (λ m. unmarked (no_mark text m) (pieces_fault_found (behind hashes []) 0 0 text f (rw m at e)))
    (λ rest m. subst (λ (t : List ℕ). IsFirstFaultWith hashes t f) (sym m)
    (marked (pieces_fault_found (behind hashes []) 0 3 rest f (rw m at e))))

-- what a failed reading tells of the text
pub given_fault : (hashes : Hashes) (text : List ℕ) (f : LexFault) → (f ≡ Memory) ⊎ (pieces_of hashes text ≡ Err f)
    → (f ≡ Memory) ⊎ IsFirstFaultWith hashes text f
given_fault hashes text f (inl memory) = inl memory
given_fault hashes text f (inr e) = inr (first_fault_found hashes text f e)

-- a text that lexes fails for want of memory alone
pub only_memory : (f : LexFault) (read : Read Pieces) (l : Pieces) → (f ≡ Memory) ⊎ (read ≡ Err f) → read ≡ Ok l
    → f ≡ Memory
only_memory f read l (inl memory) g = memory
only_memory f read l (inr e) g = ok_not_err (sym g ∙ e)
