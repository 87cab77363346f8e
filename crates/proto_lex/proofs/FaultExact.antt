-- The fault that a text meets first is the one that is read.
use Rattle.std.proofs.Common.{◌≡◌, ◌≢◌, ℕ, ◌+◌, ◌<◌, true, false, not, ◌⊎◌, inl, inr, nat_eq}
use Rattle.std.proofs.Common.{Some, None, Ok, Err, List, [], ◌∷◌, ◌++◌, length, refl, sym, ◌∙◌}
use Rattle.std.proofs.Common.{arith}
use Rattle.std.proofs.lemmas.Bool.Decides.{nat_tests}
use Rattle.std.proofs.lemmas.List.{drop_at, length-append}
use Rattle.proto_lex.specs.Bytes.{is_quote, starts}
use Rattle.proto_lex.specs.Numbers.{IsInteger, IsFloat, run_of}
use Rattle.proto_lex.specs.Literals.{IsEscape}
use Rattle.proto_lex.specs.Comments.{EndsBlock}
use Rattle.proto_lex.specs.Lexes.{LexesWith}
use Rattle.proto_lex.specs.Hashes.{Where}
use Rattle.proto_lex.specs.declared.hashes.Hashes.{Hashes}
use Rattle.proto_lex.specs.Faults.{StaysInString, here, character, escape, IsStringFault, cut, nul, no_escape}
use Rattle.proto_lex.specs.Faults.{IsFaultAt, unknown, no_number, no_close, no_string, Meets, fault, blank, comment}
use Rattle.proto_lex.specs.Faults.{token, odd, begins_mark, IsFirstFaultWith, unmarked, marked}
use Rattle.proto_lex.specs.Reading.{is_integer, is_float, number_kind, number_at, escape_len, character_at}
use Rattle.proto_lex.specs.Reading.{literal_at, block_at, piece_at, pieces_at}
use Rattle.proto_lex.specs.Reading.{pieces_of, past_piece}
use Rattle.proto_lex.specs.declared.fault.LexFault.{LexFault}
use Rattle.proto_lex.specs.declared.fault.LexFault.TheVariants.{BadByte, OpenString, BadEscape, BadNumber}
use Rattle.proto_lex.specs.declared.lexer.piece.Piece.{Piece}
use Rattle.proto_lex.specs.declared.lexer.piece.PieceKind.{PieceKind}
use Rattle.proto_lex.specs.declared.lexer.piece.PieceKind.TheVariants as piece
use Rattle.proto_lex.specs.declared.token.Token.{Token}
use Rattle.proto_lex.specs.declared.token.Comment.{Comment}
use Rattle.proto_lex.proofs.ByteLemmas.{quote_not_backslash}
use Rattle.proto_lex.proofs.ReadingTestLemmas.{bind_of_err, ok_not_err, same_err}
use Rattle.proto_lex.proofs.NumberLemmas.{integer_found, float_found}
use Rattle.proto_lex.proofs.LiteralLemmas.{literal_first}
use Rattle.proto_lex.proofs.LiteralFound.{escape_found}
use Rattle.proto_lex.proofs.LiteralExact.{literal_plain, escape_exact}
use Rattle.proto_lex.proofs.CommentLemmas.{block_found}
use Rattle.proto_lex.proofs.PieceExact.{number_place, quote_place, begun_some, unknown_exact}
use Rattle.proto_lex.proofs.HashLemmas.{StandsIn, piece_in_exact, piece_in_not_odd, stands_in_some}
use Rattle.proto_lex.proofs.LexesLemmas.{mark_cases, lexes_found, lexes_exact}
use Rattle.proto_lex.proofs.PiecesLemmas.{pieces_step, pieces_fault}
use Rattle.proto_lex.proofs.FaultFound.{first_fault_found}

-- strings

-- how much of a string was read where these bytes are left
record IsReadTo (quote opening len later : ℕ) (bytes left : List ℕ) : Type 0 where
  count : ℕ
  place : later ≡ opening + count
  read : literal_at quote opening 0 len bytes ≡ literal_at quote opening 0 count left

stays_exact : (quote opening len : ℕ) → is_quote quote ≡ true → {place later : ℕ} {bytes left : List ℕ}
    → StaysInString quote place bytes later left
    → place ≡ opening + len → IsReadTo quote opening len later bytes left
stays_exact quote opening len q here e = record { count = len; place = e; read = refl }
stays_exact quote opening len q (character {b = b} {others = others} p h) e =
    let more = stays_exact quote opening (len + 1) q h (omega arith) in
    record { count = more.count; place = more.place; read = literal_plain quote opening len b others p ∙ more.read }
stays_exact quote opening len q (escape {letters = letters} {others = others} f h) e =
    let more = stays_exact quote opening (len + 1 + length letters) q h (omega arith) in
    record { count = more.count; place = more.place; read = escape_exact quote opening q f len others ∙ more.read }

newline_faults : (opening at : ℕ) (others : List ℕ) → character_at opening at 10 others ≡ Err (OpenString opening)
unfolding character_at
newline_faults opening at others = refl

nul_faults : (opening at : ℕ) (others : List ℕ) → character_at opening at 0 others ≡ Err (BadByte at)
unfolding character_at
nul_faults opening at others = refl

no_escape_len : (left : List ℕ) → ((letters rest : List ℕ) → IsEscape letters → left ≡ letters ++ rest → ⊥)
    → escape_len left ≡ None
no_escape_len left none =
    elim (escape_len left) as (λ o. escape_len left ≡ o → o ≡ None) [
      | None ↦ λ e. refl
      | Some count ↦ λ e. let f = escape_found left count e in absurd (none f.front f.rest f.form f.parts)
    ] refl

escape_faults : (opening at : ℕ) (left : List ℕ) → escape_len left ≡ None
    → character_at opening at 92 left ≡ Err (BadEscape at)
unfolding character_at
escape_faults opening at left e = rw e refl

open_faults : (quote opening len : ℕ) → is_quote quote ≡ true → (left : List ℕ)
    → starts (λ b. not (nat_eq b 10)) left ≡ false
    → literal_at quote opening 0 len left ≡ Err (OpenString opening)
unfolding literal_at
open_faults quote opening len q [] s = refl
open_faults quote opening len q (b ∷ others) s =
    let newline : b ≡ 10 = is_newline b s in
    rw newline (literal_first quote opening len 10 others (not_quote quote q)
    ∙ bind_of_err _ (newline_faults opening (opening + len) others))
  where
    is_newline : (b : ℕ) → not (nat_eq b 10) ≡ false → b ≡ 10
    is_newline b s = grind (arith, nat_tests)

    not_quote : (quote : ℕ) → is_quote quote ≡ true → 10 ≢ quote
    not_quote quote q = grind (arith, nat_tests)

nul_is_no_quote : (quote : ℕ) → is_quote quote ≡ true → 0 ≢ quote
nul_is_no_quote quote q = grind (arith, nat_tests)

string_fault_exact : (quote opening len : ℕ) → is_quote quote ≡ true → {place : ℕ} {bytes : List ℕ} {f : LexFault}
    → IsStringFault quote opening place bytes f → place ≡ opening + len → literal_at quote opening 0 len bytes ≡ Err f
string_fault_exact quote opening len q (cut {left = left} h s) e =
    let r = stays_exact quote opening len q h e in r.read ∙ open_faults quote opening r.count q left s
string_fault_exact quote opening len q (nul h) e =
    let r = stays_exact quote opening len q h e in
    rw r.place (r.read ∙ (literal_first quote opening r.count 0 _ (nul_is_no_quote quote q)
    ∙ bind_of_err _ (nul_faults opening (opening + r.count) _)))
string_fault_exact quote opening len q (no_escape {left = left} h none) e =
    let r = stays_exact quote opening len q h e in
    rw r.place (r.read ∙ (literal_first quote opening r.count 92 left (quote_not_backslash quote q)
    ∙ bind_of_err _ (escape_faults opening (opening + r.count) left (no_escape_len left none))))

-- what stands at a place

no_kind : (run : List ℕ) → (IsInteger run → ⊥) → (IsFloat run → ⊥) → number_kind run ≡ None
no_kind run i f = rw (not_integer run i, not_float run f) refl
  where
    not_integer : (run : List ℕ) → (IsInteger run → ⊥) → is_integer run ≡ false
    not_integer run i =
        elim (is_integer run) as
        (λ t. is_integer run ≡ t → t ≡ false) [ true ↦ λ e. absurd (i (integer_found run e)) | false ↦ λ e. refl ]
        refl

    not_float : (run : List ℕ) → (IsFloat run → ⊥) → is_float run ≡ false
    not_float run f =
        elim (is_float run) as (λ t. is_float run ≡ t → t ≡ false)
        [ true ↦ λ e. absurd (f (float_found run e)) | false ↦ λ e. refl ] refl

number_faults : (at : ℕ) (bytes : List ℕ) → number_kind (run_of bytes) ≡ None → number_at at bytes ≡ Err (BadNumber at)
unfolding number_at
number_faults at bytes e = rw e refl

no_block_len : (others : List ℕ) → ((inside rest : List ℕ) → EndsBlock inside → others ≡ inside ++ rest → ⊥)
    → block_at 2 others ≡ None
no_block_len others none =
    elim (block_at 2 others) as (λ o. block_at 2 others ≡ o → o ≡ None) [
      | None ↦ λ e. refl
      | Some len ↦ λ e. let f = (block_found 2 len others e).2 in absurd (none f.front f.rest f.ends f.parts)
    ] refl

fault_exact : {place : ℕ} {bytes : List ℕ} {f : LexFault} → IsFaultAt place bytes f → piece_at place bytes ≡ Err f
unfolding piece_at
fault_exact (unknown {place} {b} {others} nb nl nd nq e) = unknown_exact place b others nb nl nd nq e
fault_exact (no_number {place} {bytes} t i f) =
    number_place place bytes t ∙ number_faults place bytes (no_kind (run_of bytes) i f)
fault_exact (no_close {place} {others} none) = rw (no_block_len others none) refl
fault_exact (no_string {place} {quote} {others} q s) =
    quote_place place quote others q ∙ bind_of_err _ (string_fault_exact quote place 1 q s refl)

fault_some : {place : ℕ} {bytes : List ℕ} {f : LexFault} → IsFaultAt place bytes f → 0 < length bytes
fault_some (unknown nb nl nd nq e) = omega arith
fault_some (no_number {bytes = bytes} t i f) = begun_some bytes t
fault_some (no_close none) = omega arith
fault_some (no_string q s) = omega arith

-- the text

fault_after : (place : Where) (at : ℕ) (k : PieceKind) (word rest : List ℕ) (f : LexFault) → StandsIn place k word rest
    → pieces_at (past_piece place k at (length word)) 0 (at + length word) rest ≡ Err f
    → pieces_at place 0 at (word ++ rest) ≡ Err f
fault_after place at k word rest f s e =
    let some = stands_in_some place k word rest s in
    let long : 0 < length (word ++ rest) = omega (arith, length-append word rest) in
    let p : Piece = record { kind = k; len = length word } in
    pieces_step place at (word ++ rest) p long (piece_in_exact place at k word rest s) some
    ∙ rw (drop_at word rest (length word) refl, e) refl

meets_exact : {place : Where} {at : ℕ} {bytes : List ℕ} {f : LexFault} → Meets place at bytes f
    → pieces_at place 0 at bytes ≡ Err f
meets_exact (fault {place} {at} {bytes} {f} n h) =
    pieces_fault place at bytes f (fault_some h) (piece_in_not_odd place at bytes n ∙ fault_exact h)
meets_exact (blank {place} {at} {b} {rest} {f} t m) =
    fault_after place at piece.Blank (b ∷ []) rest f (b, refl, t) (meets_exact m)
meets_exact (comment {place} {at} {k} {word} {rest} {f} s m) =
    fault_after place at (piece.Comment k) word rest f s (meets_exact m)
meets_exact (token {place} {at} {k} {word} {rest} {f} s m) =
    fault_after place at (piece.Token k) word rest f s (meets_exact m)
meets_exact (odd {place} {at} {b} {rest} {f} t m) =
    fault_after place at piece.Odd (b ∷ []) rest f (b, refl, t) (meets_exact m)

pub first_fault_exact : {hashes : Hashes} {text : List ℕ} {f : LexFault} → IsFirstFaultWith hashes text f
    → pieces_of hashes text ≡ Err f
unfolding pieces_of
first_fault_exact (unmarked {text} {f} n m) =
    mark_cases text
    (λ e. rw e (meets_exact m))
    (λ rest e. let no : begins_mark (239 ∷ (187 ∷ (191 ∷ rest))) ≡ false = rw e at n in absurd cc)
first_fault_exact (marked m) = meets_exact m

-- the laws

pub one_fault : {hashes : Hashes} {text : List ℕ} {f g : LexFault} → IsFirstFaultWith hashes text f
    → IsFirstFaultWith hashes text g → f ≡ g
one_fault {hashes} {text} {f} {g} a b =
    same_err f g (pieces_of hashes text) (first_fault_exact a) (first_fault_exact b)

pub no_fault : {hashes : Hashes} {text : List ℕ} {f : LexFault} {tokens : List Token} {comments : List Comment}
    → LexesWith hashes text tokens comments → IsFirstFaultWith hashes text f → ⊥
no_fault a b = ok_not_err (sym (lexes_exact a) ∙ first_fault_exact b)

pub lexes_or_faults : (hashes : Hashes) (text : List ℕ)
    → ((tokens : List Token) × (comments : List Comment) × LexesWith hashes text tokens comments)
    ⊎ ((f : LexFault) × IsFirstFaultWith hashes text f)
lexes_or_faults hashes text =
    elim (pieces_of hashes text) as
    (λ r. pieces_of hashes text ≡ r
    → ((tokens : List Token) × (comments : List Comment) × LexesWith hashes text tokens comments)
    ⊎ ((f : LexFault) × IsFirstFaultWith hashes text f)) [
      | Ok l ↦ λ e. inl (l.tokens, l.comments, lexes_found hashes text l e)
      | Err f ↦ λ e. inr (f, first_fault_found hashes text f e)
    ] refl
