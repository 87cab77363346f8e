-- The two laws of the lexer: what is read lexes, and what lexes is read.
use Rattle.std.proofs.Common.{◌≡◌, ℕ, zero, suc, ◌+◌, ◌-◌, ◌<◌, true, false, cond, ◌&&◌, nat_eq, Ok, Err, List, [], ◌∷◌}
use Rattle.std.proofs.Common.{◌++◌, length, drop, refl, sym, ◌∙◌, ap, subst, arith, eqb-true, add-zero}
use Rattle.std.proofs.lemmas.List.{drop_at, length-append}
use Rattle.proto_lex.specs.Hashes.{Where, Plain, Behind, behind, past_odd}
use Rattle.proto_lex.specs.Lexes.{LexesFrom, at_end, blank, comment, token, odd, LexesWith, Lexes, unmarked, marked}
use Rattle.proto_lex.specs.Lexes.{is_odd_in, part}
use Rattle.proto_lex.specs.declared.hashes.Hashes.{Hashes}
use Rattle.proto_lex.specs.declared.hashes.Hashes.TheVariants.{Nowhere, InValues}
use Rattle.proto_lex.specs.Reading.{Read, ◌>>=◌, piece_at, piece_in, past_piece, Pieces, pieces, with_first, pieces_at, mark_len, pieces_of}
use Rattle.proto_lex.specs.declared.fault.LexFault.TheVariants.{BadByte}
use Rattle.proto_lex.specs.declared.lexer.piece.Piece.{Piece}
use Rattle.proto_lex.specs.declared.lexer.piece.PieceKind.{PieceKind}
use Rattle.proto_lex.specs.declared.lexer.piece.PieceKind.TheVariants as piece
use Rattle.proto_lex.specs.declared.token.Token.{Token}
use Rattle.proto_lex.specs.declared.token.Comment.{Comment}
use Rattle.proto_lex.proofs.ReadingTestLemmas.{both, same_ok, err_not_ok, bind_ok}
use Rattle.proto_lex.proofs.HashLemmas.{StandsIn, BeginsIn, piece_in_found, piece_in_exact, piece_in_not_odd}
use Rattle.proto_lex.proofs.HashLemmas.{stands_in_some}
use Rattle.proto_lex.proofs.PiecesLemmas.{pieces_step, pieces_fault, drop_after}

-- what is listed lexes

placed : (place : Where) (at : ℕ) (k : PieceKind) (word rest : List ℕ) (l : Pieces) → StandsIn place k word rest
    → LexesFrom (past_piece place k at (length word)) (at + length word) rest l.tokens l.comments
    → LexesFrom place at (word ++ rest) (with_first place k at (length word) l).tokens
    (with_first place k at (length word) l).comments
placed place at piece.Blank word rest l s r =
    let from : LexesFrom place (at + 1) rest l.tokens l.comments =
    subst (λ (w : List ℕ). LexesFrom place (at + length w) rest l.tokens l.comments) s.1 r in
    subst (λ (w : List ℕ). LexesFrom place at (w ++ rest) l.tokens l.comments) (sym s.1) (blank s.2 from)
placed place at piece.Odd word rest l s r =
    let from : LexesFrom (past_odd place) (at + 1) rest l.tokens l.comments =
    subst (λ (w : List ℕ). LexesFrom (past_odd place) (at + length w) rest l.tokens l.comments) s.1 r in
    subst (λ (w : List ℕ). LexesFrom place at (w ++ rest) l.tokens l.comments) (sym s.1) (odd s.2 from)
placed place at (piece.Comment k) word rest l s r = comment s r
placed place at (piece.Token k) word rest l s r = token s r

piece_placed : (place : Where) (at b : ℕ) (others : List ℕ) (p : Piece) (l m : Pieces)
    → BeginsIn place p (b ∷ others) → 0 < p.len
    → LexesFrom (past_piece place p.kind at p.len) (at + 1 + (p.len - 1)) (drop (p.len - 1) others) l.tokens l.comments
    → with_first place p.kind at p.len l ≡ m
    → LexesFrom place at (b ∷ others) m.tokens m.comments
piece_placed place at b others p l m f h r e =
    let n : at + 1 + (p.len - 1) ≡ at + length f.word = omega (arith, f.counted) in
    let left : drop (p.len - 1) others ≡ f.rest =
    drop_after p.len b others h ∙ (ap (λ xs. drop p.len xs) f.parts ∙ drop_at f.word f.rest p.len f.counted) in
    let from : LexesFrom (past_piece place p.kind at p.len) (at + length f.word) f.rest l.tokens l.comments =
    rw (n, left) at r in
    let counted : LexesFrom (past_piece place p.kind at (length f.word)) (at + length f.word) f.rest l.tokens l.comments
    = subst (λ (len : ℕ). LexesFrom (past_piece place p.kind at len) (at + length f.word) f.rest l.tokens l.comments)
    (sym f.counted) from in
    let here : LexesFrom place at (b ∷ others) (with_first place p.kind at (length f.word) l).tokens
    (with_first place p.kind at (length f.word) l).comments =
    subst (λ (xs : List ℕ). LexesFrom place at xs (with_first place p.kind at (length f.word) l).tokens
    (with_first place p.kind at (length f.word) l).comments)
    (sym f.parts) (placed place at p.kind f.word f.rest l f.stands counted) in
    subst (λ (q : Pieces). LexesFrom place at (b ∷ others) q.tokens q.comments)
    (ap (λ i. with_first place p.kind at i l) f.counted ∙ e) here

pub pieces_found : (place : Where) (skip at : ℕ) (bytes : List ℕ) (l : Pieces) → pieces_at place skip at bytes ≡ Ok l
    → LexesFrom place (at + skip) (drop skip bytes) l.tokens l.comments
unfolding pieces_at
pieces_found place zero at [] l e =
    subst (λ (q : Pieces). LexesFrom place (at + 0) [] q.tokens q.comments)
    (same_ok (pieces [] []) l (Ok (pieces [] [])) refl e) at_end
pieces_found place (suc skip) at [] l e =
    subst (λ (q : Pieces). LexesFrom place (at + suc skip) [] q.tokens q.comments)
    (same_ok (pieces [] []) l (Ok (pieces [] [])) refl e) at_end
pieces_found place (suc skip) at (b ∷ others) l e =
    let n : at + 1 + skip ≡ at + suc skip = omega arith in
    rw n at (pieces_found place skip (at + 1) others l e)
pieces_found place zero at (b ∷ others) l e =
    let Later : Piece → Read Pieces = λ p.
    pieces_at (past_piece place p.kind at p.len) (p.len - 1) (at + 1) others
    >>= λ later. Ok (with_first place p.kind at p.len later) in
    let m = bind_ok (piece_in place at (b ∷ others)) Later l e in
    let p = m.0 in
    let n = bind_ok (pieces_at (past_piece place p.kind at p.len) (p.len - 1) (at + 1) others)
    (λ later. Ok (with_first place p.kind at p.len later)) l m.2 in
    let f = piece_in_found place at (b ∷ others) p m.1 in
    let some : 0 < p.len = omega (arith, f.counted, stands_in_some place p.kind f.word f.rest f.stands) in
    let q : Pieces = with_first place p.kind at p.len n.0 in
    rw add-zero (piece_placed place at b others p n.0 l f some
    (pieces_found (past_piece place p.kind at p.len) (p.len - 1) (at + 1) others n.0 n.1)
    (same_ok q l (Ok q) refl n.2))

-- what lexes is listed

pieces_piece : (place : Where) (at : ℕ) (k : PieceKind) (word rest : List ℕ) (l : Pieces) → StandsIn place k word rest
    → pieces_at (past_piece place k at (length word)) 0 (at + length word) rest ≡ Ok l
    → pieces_at place 0 at (word ++ rest) ≡ Ok (with_first place k at (length word) l)
pieces_piece place at k word rest l s e =
    let some = stands_in_some place k word rest s in
    let long : 0 < length (word ++ rest) = omega (arith, length-append word rest) in
    let p : Piece = record { kind = k; len = length word } in
    pieces_step place at (word ++ rest) p long (piece_in_exact place at k word rest s) some
    ∙ rw (drop_at word rest (length word) refl, e) refl

pub pieces_exact : {place : Where} {at : ℕ} {bytes : List ℕ} {tokens : List Token} {comments : List Comment}
    → LexesFrom place at bytes tokens comments
    → pieces_at place 0 at bytes ≡ Ok (pieces tokens comments)
unfolding pieces_at
pieces_exact at_end = refl
pieces_exact (blank {place} {at} {b} {rest} {tokens} {comments} t r) =
    pieces_piece place at piece.Blank (b ∷ []) rest (pieces tokens comments) (b, refl, t) (pieces_exact r)
pieces_exact (comment {place} {at} {k} {word} {rest} {tokens} {comments} s r) =
    pieces_piece place at (piece.Comment k) word rest (pieces tokens comments) s (pieces_exact r)
pieces_exact (token {place} {at} {k} {word} {rest} {tokens} {comments} s r) =
    pieces_piece place at (piece.Token k) word rest (pieces tokens comments) s (pieces_exact r)
pieces_exact (odd {place} {at} {b} {rest} {tokens} {comments} t r) =
    pieces_piece place at piece.Odd (b ∷ []) rest (pieces tokens comments) (b, refl, t) (pieces_exact r)

-- the byte order mark

pub mark_cases : (text : List ℕ) {P : Type 0} → (mark_len text ≡ 0 → P)
    → ((rest : List ℕ) → text ≡ 239 ∷ (187 ∷ (191 ∷ rest)) → P) → P
mark_cases [] p q = p refl
mark_cases (a ∷ []) p q = p refl
mark_cases (a ∷ (b ∷ [])) p q = p refl
mark_cases (a ∷ (b ∷ (c ∷ rest))) {P} p q =
    elim (nat_eq a 239 && nat_eq b 187 && nat_eq c 191) as
    (λ t. (nat_eq a 239 && nat_eq b 187 && nat_eq c 191) ≡ t → (cond {A = ℕ} t 3 0 ≡ 0 → P) → P) [
      | true ↦ λ e _. both (nat_eq a 239 && nat_eq b 187) (nat_eq c 191) e
          (λ ab tc. both (nat_eq a 239) (nat_eq b 187) ab (λ ta tb.
          q rest (rw (eqb-true a 239 ta, eqb-true b 187 tb, eqb-true c 191 tc) refl)))
      | false ↦ λ e k. k refl
    ] refl p

marked_at : (at : ℕ) (rest : List ℕ) → piece_at at (239 ∷ rest) ≡ Err (BadByte at)
unfolding piece_at
marked_at at rest = refl

mark_is_not_odd : (hashes : Hashes) → is_odd_in (behind hashes []) 239 ≡ false
mark_is_not_odd Nowhere = refl
mark_is_not_odd InValues = refl

pub lexes_found : (hashes : Hashes) (text : List ℕ) (l : Pieces) → pieces_of hashes text ≡ Ok l
    → LexesWith hashes text l.tokens l.comments
unfolding pieces_of
lexes_found hashes text l e =
    mark_cases text
    (λ m. unmarked (pieces_found (behind hashes []) 0 0 text l (rw m at e)))
    (λ rest m. subst (λ (t : List ℕ). LexesWith hashes t l.tokens l.comments) (sym m)
    (marked (pieces_found (behind hashes []) 0 3 rest l (rw m at e))))

no_mark : (hashes : Hashes) (rest : List ℕ) (l : Pieces) {P : Type 0}
    → pieces_at (behind hashes []) 0 0 (239 ∷ rest) ≡ Ok l → P
no_mark hashes rest l e =
    let some : 0 < length (239 ∷ rest) = omega arith in
    let bad = piece_in_not_odd (behind hashes []) 0 (239 ∷ rest) (mark_is_not_odd hashes) ∙ marked_at 0 rest in
    err_not_ok (sym (pieces_fault (behind hashes []) 0 (239 ∷ rest) (BadByte 0) some bad) ∙ e)

pub lexes_exact : {hashes : Hashes} {text : List ℕ} {tokens : List Token} {comments : List Comment}
    → LexesWith hashes text tokens comments
    → pieces_of hashes text ≡ Ok (pieces tokens comments)
unfolding pieces_of
lexes_exact {hashes} (unmarked {text} {tokens} {comments} r) =
    mark_cases text
    (λ m. rw m (pieces_exact r))
    (λ rest m. no_mark hashes (187 ∷ (191 ∷ rest)) (pieces tokens comments) (rw m at (pieces_exact r)))
lexes_exact (marked r) = pieces_exact r

-- a text lexes in one way
pub same_pieces : {hashes : Hashes} {text : List ℕ} {tokens others : List Token} {comments remarks : List Comment}
    → LexesWith hashes text tokens comments → LexesWith hashes text others remarks
    → pieces tokens comments ≡ pieces others remarks
same_pieces {hashes} {text} {tokens} {others} {comments} {remarks} d e =
    same_ok (pieces tokens comments) (pieces others remarks) (pieces_of hashes text) (lexes_exact d) (lexes_exact e)

-- what lexes in plain text does so wherever a `#` may begin a comment
alike_from : {at : ℕ} {bytes : List ℕ} {tokens : List Token} {comments : List Comment} (front : List Token)
    → LexesFrom Plain at bytes tokens comments → LexesFrom (Behind front) at bytes tokens comments
alike_from front at_end = at_end
alike_from front (blank t r) = blank t (alike_from front r)
alike_from front (comment s r) = comment s (alike_from front r)
alike_from front (token {at} {k} {word} s r) =
    token s (alike_from (front ++ record { kind = k; span = part at (length word) } ∷ []) r)
alike_from front (odd t r) = absurd cc

pub alike : (hashes : Hashes) {text : List ℕ} {tokens : List Token} {comments : List Comment}
    → Lexes text tokens comments → LexesWith hashes text tokens comments
alike Nowhere lexes = lexes
alike InValues (unmarked r) = unmarked (alike_from [] r)
alike InValues (marked r) = marked (alike_from [] r)
