-- The steps of reading the pieces of a text.
use Rattle.std.proofs.Common.{◌≡◌, ℕ, zero, suc, ◌+◌, ◌-◌, ◌<◌, true, false, cond, ◌&&◌, nat_eq, Ok, Err, List, [], ◌∷◌}
use Rattle.std.proofs.Common.{◌++◌, length, drop, refl, sym, ◌∙◌, ap, arith, eqb-true, add-zero, ◌≤◌}
use Rattle.std.proofs.Common.{◌⊎◌, inl, inr, append_assoc, length-append}
use Rattle.std.proofs.lemmas.List.{length-append, append-nil}
use Rattle.std.specs.List.{prefix_len}
use Rattle.proto_lex.specs.Bytes.{is_blank}
use Rattle.proto_lex.proofs.ReadingPrefixLemmas.{one_more}
use Rattle.proto_lex.specs.Bytes.{starts}
use Rattle.proto_lex.specs.Hashes.{Where, Plain, Behind, Commented, behind, closes, ends_comment}
use Rattle.proto_lex.specs.Lexes.{Spells, identifier, integer, float, literal, sign, is_odd_in, part}
use Rattle.proto_lex.specs.Reading.{◌>>=◌, piece_at, Pieces, pieces, with_first, pieces_at, mark_len, pieces_of, Read}
use Rattle.proto_lex.specs.Reading.{joined, with_last, PassesTo, ReadsTo, comment_ends, kept_kind}
use Rattle.proto_lex.specs.Reading.{opened_by, odd_piece, past_piece, piece_in}
use Rattle.proto_lex.specs.declared.hashes.Hashes.{Hashes}
use Rattle.proto_lex.specs.declared.hashes.Hashes.TheVariants.{Nowhere, InValues}
use Rattle.proto_lex.specs.declared.token.TokenKind.{TokenKind}
use Rattle.proto_lex.specs.declared.token.CommentKind.{CommentKind}
use Rattle.proto_lex.specs.declared.fault.LexFault.{LexFault}
use Rattle.proto_lex.specs.declared.fault.LexFault.TheVariants.{Memory}
use Rattle.proto_lex.specs.declared.lexer.piece.Piece.{Piece}
use Rattle.proto_lex.specs.declared.lexer.piece.PieceKind.{PieceKind}
use Rattle.proto_lex.specs.declared.lexer.piece.PieceKind.TheVariants as piece
use Rattle.proto_lex.specs.declared.token.Token.{Token}
use Rattle.proto_lex.specs.declared.token.Comment.{Comment}
use Rattle.proto_lex.proofs.ReadingTestLemmas.{bind_of_ok, bind_of_err, ok_not_err}
use Rattle.proto_lex.proofs.PieceFound.{Stands, piece_found, sign_cases}
use Rattle.proto_lex.specs.declared.span.Span.{Span}
use Rattle.proto_lex.proofs.HashLemmas.{StandsIn, piece_in_found, piece_in_piece, piece_in_exact, piece_in_not_odd}
use Rattle.proto_lex.proofs.HashLemmas.{stands_in_some}

-- bytes of what was listed before may be left out
pub pieces_skip : (place : Where) (skip at : ℕ) (bytes : List ℕ)
    → pieces_at place skip at bytes ≡ pieces_at place 0 (at + skip) (drop skip bytes)
unfolding pieces_at
pieces_skip place zero at bytes = rw add-zero refl
pieces_skip place (suc skip) at [] = refl
pieces_skip place (suc skip) at (b ∷ others) =
    let e : at + 1 + skip ≡ at + suc skip = omega arith in
    pieces_skip place skip (at + 1) others ∙ rw e refl

-- what is listed behind a piece
abbrev Later : Where → ℕ → Piece → Read Pieces → Read Pieces
Later place at p r = r >>= λ later. Ok (with_first place p.kind at p.len later)

pieces_first : (place : Where) (at b : ℕ) (others : List ℕ)
    → pieces_at place 0 at (b ∷ others)
    ≡ (piece_in place at (b ∷ others) >>= λ p. Later place at p
    (pieces_at (past_piece place p.kind at p.len) (p.len - 1) (at + 1) others))
unfolding pieces_at
pieces_first place at b others = refl

pub drop_after : (n b : ℕ) (others : List ℕ) → 0 < n → drop (n - 1) others ≡ drop n (b ∷ others)
drop_after zero b others h = absurd (omega arith)
drop_after (suc k) b others h = let e : suc k - 1 ≡ k = omega arith in rw e refl

-- a piece is listed, and then the rest
pub pieces_step : (place : Where) (at : ℕ) (bytes : List ℕ) (p : Piece) → 0 < length bytes
    → piece_in place at bytes ≡ Ok p → 0 < p.len
    → pieces_at place 0 at bytes
    ≡ (pieces_at (past_piece place p.kind at p.len) 0 (at + p.len) (drop p.len bytes)
    >>= λ later. Ok (with_first place p.kind at p.len later))
pieces_step place at [] p h e l = absurd (omega arith)
pieces_step place at (b ∷ others) p h e l =
    let n : at + 1 + (p.len - 1) ≡ at + p.len = omega arith in
    pieces_first place at b others
    ∙ (bind_of_ok _ e
    ∙ ap (Later place at p)
    (pieces_skip (past_piece place p.kind at p.len) (p.len - 1) (at + 1) others
    ∙ rw (n, drop_after p.len b others l) refl))

-- a blank is listed nowhere, and so blanks may be passed

blank_at : (place : Where) (at b : ℕ) (others : List ℕ) → is_blank b ≡ true
    → piece_in place at (b ∷ others) ≡ Ok (record { kind = piece.Blank; len = 1 })
blank_at place at b others e = piece_in_exact place at piece.Blank (b ∷ []) others (b, refl, e)

unlisted : (r : Read Pieces) → (r >>= λ later. Ok later) ≡ r
unlisted (Ok later) = refl
unlisted (Err fault) = refl

past_blanks : (place : Where) (at : ℕ) (bytes : List ℕ) → pieces_at place 0 at bytes
    ≡ pieces_at place 0 (at + prefix_len is_blank bytes) (drop (prefix_len is_blank bytes) bytes)
past_blanks place at [] = rw add-zero refl
past_blanks place at (b ∷ others) =
    let n : ℕ = prefix_len is_blank others in
    let one : Piece = record { kind = piece.Blank; len = 1 } in
    let step : at + (1 + n) ≡ at + 1 + n = omega arith in
    elim (is_blank b)
    as (λ t. is_blank b ≡ t → pieces_at place 0 at (b ∷ others)
    ≡ pieces_at place 0 (at + cond t (1 + n) 0) (drop (cond t (1 + n) 0) (b ∷ others))) [
      | true ↦ λ e. rw (step, one_more n)
          (pieces_step place at (b ∷ others) one (omega arith) (blank_at place at b others e) (omega arith)
          ∙ (unlisted (pieces_at place 0 (at + 1) others) ∙ past_blanks place (at + 1) others))
      | false ↦ λ e. rw add-zero refl
    ] refl

-- a fault at a place is the text's
pub pieces_fault : (place : Where) (at : ℕ) (bytes : List ℕ) (fault : LexFault) → 0 < length bytes
    → piece_in place at bytes ≡ Err fault → pieces_at place 0 at bytes ≡ Err fault
pieces_fault place at [] fault h e = absurd (omega arith)
pieces_fault place at (b ∷ others) fault h e = pieces_first place at b others ∙ bind_of_err _ e

pub pieces_end : (place : Where) (at : ℕ) (bytes : List ℕ) → length bytes ≡ 0
    → pieces_at place 0 at bytes ≡ Ok (pieces [] [])
unfolding pieces_at
pieces_end place at [] h = refl
pieces_end place at (b ∷ others) h = absurd (omega arith)

-- a piece takes a byte at least, and no more than there are
pub piece_in_bounds : (place : Where) (at : ℕ) (bytes : List ℕ) (p : Piece) → piece_in place at bytes ≡ Ok p
    → (0 < p.len) × (p.len ≤ length bytes)
piece_in_bounds place at bytes p e =
    let f = piece_in_found place at bytes p e in
    let some = stands_in_some place p.kind f.word f.rest f.stands in
    (omega (arith, some, f.counted), omega (arith, f.counted, ap length f.parts, length-append f.word f.rest))

pub piece_bounds : (at : ℕ) (bytes : List ℕ) (p : Piece) → piece_at at bytes ≡ Ok p
    → (0 < p.len) × (p.len ≤ length bytes)
piece_bounds at bytes p e = piece_in_bounds Plain at bytes p (piece_in_piece Plain at bytes p e)

-- what is listed before

joined_comment : (front : Pieces) (k : CommentKind) (at len : ℕ) (r : Read Pieces)
    → joined front (r >>= λ later. Ok (record later { comments = record { kind = k; span = part at len } ∷ later.comments }))
    ≡ joined (with_last front (piece.Comment k) (part at len)) r
joined_comment front k at len (Err fault) = refl
joined_comment front k at len (Ok l) =
    ap (λ xs. Ok (pieces (front.tokens ++ l.tokens) xs))
    (sym (append_assoc front.comments (record { kind = k; span = part at len } ∷ []) l.comments))

joined_token : (front : Pieces) (k : TokenKind) (at len : ℕ) (r : Read Pieces)
    → joined front (r >>= λ later. Ok (record later { tokens = record { kind = k; span = part at len } ∷ later.tokens }))
    ≡ joined (with_last front (piece.Token k) (part at len)) r
joined_token front k at len (Err fault) = refl
joined_token front k at len (Ok l) =
    ap (λ xs. Ok (pieces xs (front.comments ++ l.comments)))
    (sym (append_assoc front.tokens (record { kind = k; span = part at len } ∷ []) l.tokens))

-- outside of a comment a piece goes to what was listed before
joined_next : (hashes : Hashes) (front : Pieces) (p : Piece) (at : ℕ) (word rest bytes : List ℕ)
    → Stands p.kind word rest
    → joined front (pieces_at (past_piece (behind hashes front.tokens) p.kind at p.len) 0 (at + p.len) bytes
    >>= λ later. Ok (with_first (behind hashes front.tokens) p.kind at p.len later))
    ≡ joined (with_last front p.kind (part at p.len))
    (pieces_at (behind hashes (with_last front p.kind (part at p.len)).tokens) 0 (at + p.len) bytes)
joined_next hashes front p at word rest bytes s = by hashes p.kind s
  where
    by : (hashes : Hashes) (k : PieceKind) → Stands k word rest
        → joined front (pieces_at (past_piece (behind hashes front.tokens) k at p.len) 0 (at + p.len) bytes
        >>= λ later. Ok (with_first (behind hashes front.tokens) k at p.len later))
        ≡ joined (with_last front k (part at p.len))
        (pieces_at (behind hashes (with_last front k (part at p.len)).tokens) 0 (at + p.len) bytes)
    by hashes piece.Blank s = ap (joined front) (unlisted _)
    by hashes piece.Odd s = absurd s
    by hashes (piece.Comment k) s = joined_comment front k at p.len _
    by Nowhere (piece.Token k) s = joined_token front k at p.len _
    by InValues (piece.Token k) s = joined_token front k at p.len _

pub reads_piece : (hashes : Hashes) (front next : Pieces) (at : ℕ) (bytes : List ℕ) (p : Piece) (span : Span)
    → 0 < length bytes → Ok p ≡ piece_at at bytes → span ≡ part at p.len → next ≡ with_last front p.kind span
    → ReadsTo hashes front next at bytes p.len
reads_piece hashes front next at bytes p span h e where_is pushed =
    let place : Where = behind hashes front.tokens in
    let b = piece_bounds at bytes p (sym e) in
    let f = piece_found at bytes p (sym e) in
    rw (pushed, where_is) (record {
      some = b.0;
      within = b.1;
      read = ap (joined front) (pieces_step place at bytes p h (piece_in_piece place at bytes p (sym e)) b.0)
          ∙ joined_next hashes front p at f.word f.rest (drop p.len bytes) f.stands;
    })

pub piece_stops : (hashes : Hashes) (front : Pieces) (at : ℕ) (bytes : List ℕ) (fault : LexFault) → 0 < length bytes
    → Err fault ≡ piece_at at bytes → starts (is_odd_in (behind hashes front.tokens)) bytes ≡ false
    → pieces_at (behind hashes front.tokens) 0 at bytes ≡ Err fault
piece_stops hashes front at bytes fault h e n =
    let place : Where = behind hashes front.tokens in
    pieces_fault place at bytes fault h (piece_in_not_odd place at bytes n ∙ sym e)

-- a `#` begins a comment

pub reads_comment : (hashes : Hashes) (front next : Pieces) (at : ℕ) (bytes : List ℕ) (len : ℕ)
    → starts (is_odd_in (behind hashes front.tokens)) bytes ≡ true → PassesTo front next (at + 1) (drop 1 bytes) len
    → ReadsTo hashes front next at bytes (1 + len)
reads_comment hashes front next at [] len t to = absurd cc
reads_comment Nowhere front next at (b ∷ others) len t to = absurd cc
reads_comment InValues front next at (b ∷ others) len t to =
    let place : Where = Behind front.tokens in
    let step : at + 1 + len ≡ at + (1 + len) = omega arith in
    let one = piece_in_exact place at piece.Odd (b ∷ []) others (b, refl, t) in
    record {
      some = omega arith;
      within = omega (arith, to.within);
      read = ap (joined front)
          (pieces_step place at (b ∷ others) odd_piece (omega arith) one (omega arith) ∙ unlisted _)
          ∙ (to.read front.tokens
          ∙ rw (to.tokens, step, one_more len) refl);
    }

pub comment_met : (hashes : Hashes) (front : Pieces) (at : ℕ) (bytes : List ℕ) (fault : LexFault)
    → starts (is_odd_in (behind hashes front.tokens)) bytes ≡ true
    → (fault ≡ Memory) ⊎ ((tokens : List Token) → pieces_at (Commented tokens 0) 0 (at + 1) (drop 1 bytes) ≡ Err fault)
    → (fault ≡ Memory) ⊎ (pieces_at (behind hashes front.tokens) 0 at bytes ≡ Err fault)
comment_met hashes front at bytes fault t (inl memory) = inl memory
comment_met hashes front at [] fault t (inr met) = absurd cc
comment_met Nowhere front at (b ∷ others) fault t (inr met) = absurd cc
comment_met InValues front at (b ∷ others) fault t (inr met) =
    let place : Where = Behind front.tokens in
    let one = piece_in_exact place at piece.Odd (b ∷ []) others (b, refl, t) in
    inr (pieces_step place at (b ∷ others) odd_piece (omega arith) one (omega arith)
    ∙ ap (λ (r : Read Pieces). r >>= λ later. Ok later) (met front.tokens))

-- in a comment

closing_first : {k : TokenKind} {word : List ℕ} → Spells k word → closes k ≡ true → word ≡ 125 ∷ []
closing_first (identifier t h) c = absurd cc
closing_first (integer i) c = absurd cc
closing_first (float f) c = absurd cc
closing_first (literal q r) c = absurd cc
closing_first (sign {b} {k} e) c =
    sign_cases (λ d j. closes j ≡ true → d ∷ [] ≡ 125 ∷ []) b k e
    (λ x. absurd cc) (λ x. absurd cc) (λ x. absurd cc) (λ _. refl) (λ x. absurd cc) (λ x. absurd cc) (λ x. absurd cc)
    (λ x. absurd cc) (λ x. absurd cc) (λ x. absurd cc) (λ x. absurd cc) (λ x. absurd cc) (λ x. absurd cc)
    (λ x. absurd cc) (λ x. absurd cc) (λ x. absurd cc) c

-- a piece doesn't end a comment that goes on
abbrev Stays : (depth : ℕ) → PieceKind → Type 0
Stays depth piece.Blank = Unit {0}
Stays depth piece.Odd = Unit {0}
Stays depth (piece.Comment k) = Unit {0}
Stays depth (piece.Token k) = ends_comment depth k ≡ false

stays : (tokens : List Token) (depth : ℕ) (bytes : List ℕ) (k : PieceKind) (word rest : List ℕ)
    → comment_ends depth bytes ≡ false → bytes ≡ word ++ rest → StandsIn (Commented tokens depth) k word rest
    → Stays depth k
stays tokens depth bytes piece.Blank word rest n e s = tt
stays tokens depth bytes piece.Odd word rest n e s = tt
stays tokens depth bytes (piece.Comment k) word rest n e s = tt
stays tokens (suc depth) bytes (piece.Token k) word rest n e s = refl
stays tokens zero bytes (piece.Token k) word rest n e s =
    elim (closes k) as (λ t. closes k ≡ t → t ≡ false) [
      | true ↦ λ t.
          let first : bytes ≡ 125 ∷ rest = e ∙ ap (λ (w : List ℕ). w ++ rest) (closing_first s.spelled t) in
          let ends : comment_ends 0 (125 ∷ rest) ≡ false = rw first at n in
          absurd cc
      | false ↦ λ _. refl
    ] refl

joined_in : (tokens : List Token) (depth : ℕ) (front : Pieces) (k : PieceKind) (at len : ℕ) (bytes : List ℕ)
    → Stays depth k
    → joined front (pieces_at (past_piece (Commented tokens depth) k at len) 0 (at + len) bytes
    >>= λ later. Ok (with_first (Commented tokens depth) k at len later))
    ≡ joined (with_last front (kept_kind k) (part at len))
    (pieces_at (Commented tokens (opened_by depth k)) 0 (at + len) bytes)
joined_in tokens depth front piece.Blank at len bytes s = ap (joined front) (unlisted _)
joined_in tokens depth front piece.Odd at len bytes s = ap (joined front) (unlisted _)
joined_in tokens depth front (piece.Comment k) at len bytes s = joined_comment front k at len _
joined_in tokens depth front (piece.Token k) at len bytes s = rw s (ap (joined front) (unlisted _))

pub comment_goes_on : (tokens : List Token) (front : Pieces) (depth at : ℕ) (bytes : List ℕ) (p : Piece)
    → comment_ends depth bytes ≡ false → piece_in (Commented tokens depth) at bytes ≡ Ok p
    → joined front (pieces_at (Commented tokens depth) 0 at bytes)
    ≡ joined (with_last front (kept_kind p.kind) (part at p.len))
    (pieces_at (Commented tokens (opened_by depth p.kind)) 0 (at + p.len) (drop p.len bytes))
comment_goes_on tokens front depth at bytes p n e =
    let place : Where = Commented tokens depth in
    let b = piece_in_bounds place at bytes p e in
    let f = piece_in_found place at bytes p e in
    ap (joined front) (pieces_step place at bytes p (omega (arith, b.0, b.1)) e b.0)
    ∙ joined_in tokens depth front p.kind at p.len (drop p.len bytes)
    (stays tokens depth bytes p.kind f.word f.rest n f.parts f.stands)

comment_stops : (tokens : List Token) (depth at : ℕ) (bytes : List ℕ) (fault : LexFault)
    → comment_ends depth bytes ≡ false → piece_in (Commented tokens depth) at bytes ≡ Err fault
    → pieces_at (Commented tokens depth) 0 at bytes ≡ Err fault
comment_stops tokens depth at [] fault n e = absurd cc
comment_stops tokens depth at (b ∷ others) fault n e =
    pieces_fault (Commented tokens depth) at (b ∷ others) fault (omega arith) e

unjoined : (front : Pieces) (read : Read Pieces) (fault : LexFault) → joined front read ≡ Err fault → read ≡ Err fault
unjoined front (Ok l) fault e = ok_not_err e
unjoined front (Err met) fault e = e

-- so that the fault in it is that of the whole
pub comment_fails : (tokens : List Token) (old front : Pieces) (depth start at : ℕ) (bytes rest : List ℕ)
    (fault : LexFault) → comment_ends depth rest ≡ false → piece_in (Commented tokens depth) at rest ≡ Err fault
    → joined front (pieces_at (Commented tokens depth) 0 at rest)
    ≡ joined old (pieces_at (Commented tokens 0) 0 start bytes)
    → pieces_at (Commented tokens 0) 0 start bytes ≡ Err fault
comment_fails tokens old front depth start at bytes rest fault n e read =
    unjoined old (pieces_at (Commented tokens 0) 0 start bytes) fault
    (sym read ∙ ap (joined front) (comment_stops tokens depth at rest fault n e))

-- a token in it isn't listed
pub kept_tokens : (front : Pieces) (k : PieceKind) (span : Span) → (with_last front (kept_kind k) span).tokens
    ≡ front.tokens
kept_tokens front piece.Blank span = refl
kept_tokens front piece.Odd span = refl
kept_tokens front (piece.Comment k) span = refl
kept_tokens front (piece.Token k) span = refl

-- behind a comment it goes on as before it
pub comment_is_over : (tokens : List Token) (depth at : ℕ) (bytes : List ℕ) → comment_ends depth bytes ≡ true
    → pieces_at (Commented tokens depth) 0 at bytes ≡ pieces_at (Behind tokens) 0 at bytes
unfolding pieces_at piece_in piece_at
comment_is_over tokens depth at [] t = refl
comment_is_over tokens (suc depth) at (b ∷ others) t = absurd cc
comment_is_over tokens zero at (b ∷ others) t = rw (eqb-true b 125 t) refl

-- the steps of the loop over a text

pub goes_on_past : (hashes : Hashes) (old new : Pieces) (at : ℕ) (bytes : List ℕ) (len : ℕ)
    → ReadsTo hashes old new at bytes len → (others : List ℕ) → others ≡ drop len bytes
    → (blanks : ℕ) → blanks ≡ prefix_len is_blank others
    → joined old (pieces_at (behind hashes old.tokens) 0 at bytes)
    ≡ joined new (pieces_at (behind hashes new.tokens) 0 (at + len + blanks) (drop blanks others))
goes_on_past hashes old new at bytes len to others e blanks n =
    to.read
    ∙ (ap (joined new) (past_blanks (behind hashes new.tokens) (at + len) (drop len bytes))
    ∙ rw (n, e) refl)

pub ends : (place : Where) (front : Pieces) (at : ℕ) (bytes : List ℕ) → length bytes ≡ 0
    → joined front (pieces_at place 0 at bytes) ≡ Ok front
ends place front at bytes h =
    ap (joined front) (pieces_end place at bytes h) ∙ rw (append-nil front.tokens, append-nil front.comments) refl

-- nothing was listed at first
begins : (read : Read Pieces) → joined (pieces [] []) read ≡ read
begins (Ok l) = refl
begins (Err fault) = refl

pub starts_with : (hashes : Hashes) (text : List ℕ)
    → joined (pieces [] []) (pieces_at (behind hashes []) 0 (mark_len text) (drop (mark_len text) text))
    ≡ pieces_of hashes text
unfolding pieces_of
starts_with hashes text = begins (pieces_at (behind hashes []) 0 (mark_len text) (drop (mark_len text) text))

pub mark_within : (text : List ℕ) → mark_len text + length (drop (mark_len text) text) ≡ length text
mark_within [] = omega arith
mark_within (a ∷ []) = omega arith
mark_within (a ∷ (b ∷ [])) = omega arith
mark_within (a ∷ (b ∷ (c ∷ rest))) =
    elim (nat_eq a 239 && nat_eq b 187 && nat_eq c 191)
    as (λ t. cond {A = ℕ} t 3 0 + length (drop (cond {A = ℕ} t 3 0) (a ∷ (b ∷ (c ∷ rest))))
    ≡ length (a ∷ (b ∷ (c ∷ rest)))) [
      | true ↦ omega arith
      | false ↦ omega arith
    ]

-- the fault of what is left is that of the whole
pub fault_met : (front : Pieces) (left whole : Read Pieces) (fault : LexFault) → joined front left ≡ whole
    → (fault ≡ Memory) ⊎ (left ≡ Err fault) → (fault ≡ Memory) ⊎ (whole ≡ Err fault)
fault_met front left whole fault e (inl memory) = inl memory
fault_met front left whole fault e (inr met) = inr (sym e ∙ ap (joined front) met)
