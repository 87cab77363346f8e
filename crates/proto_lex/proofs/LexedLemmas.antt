use Rattle.std.proofs.Common.{◌≡◌, ℕ, ◌+◌, ◌-◌, ◌<◌, ◌≤◌, Bool, true, false, not, cond, ◌&&◌, nat_eq, nat_le, Some}
use Rattle.std.proofs.Common.{List, [], ◌∷◌, ◌++◌, length, get_or, drop, map, inl, inr, refl, sym, ◌∙◌, ap, subst}
use Rattle.std.proofs.Common.{arith, append_assoc}
use Rattle.std.proofs.lemmas.Bool.Decides.{nat_tests}
use Rattle.std.proofs.lemmas.List.{drop_at, take_at, length-append}
use Rattle.std.proofs.lemmas.List.Elements.{All-from_recursion}
use Rattle.std.proofs.lemmas.Str.{IsUtf8-drop, IsCharBoundary-end, IsCharBoundary-before_ascii}
use Rattle.std.proofs.lemmas.Str.{IsCharBoundary-after_ascii, IsCharBoundary-at_seam, IsUtf8-past_char}
use Rattle.std.proofs.Math.Utf8.{encode}
use Rattle.std.proofs.Math.Seq.{get_or-append_seam}
use Rattle.std.specs.Prelude.{IsUtf8, IsCharBoundary}
use Rattle.std.specs.List.{list_all, AllByRecursion}
use Rattle.proto_lex.specs.Bytes.{is_blank, is_letter, is_word, is_quote, is_digit, starts}
use Rattle.proto_lex.specs.Numbers.{goes_on, run_after, run_of, begins_hexadecimal, begins_number}
use Rattle.proto_lex.specs.Literals.{EndsLiteral, close, character, escape}
use Rattle.proto_lex.specs.Comments.{IsComment, line, block, EndsBlock}
use Rattle.proto_lex.specs.Comments as comments
use Rattle.proto_lex.specs.Lexes.{sign_kind, Spells, identifier, integer, float, literal, sign, IsWhole, part}
use Rattle.proto_lex.specs.Lexes.{LexesFrom, at_end, blank, comment, token, odd, LexesWith, unmarked, marked}
use Rattle.proto_lex.specs.Lexes.{is_odd_in}
use Rattle.proto_lex.specs.Hashes.{Where, is_commented}
use Rattle.proto_lex.specs.declared.hashes.Hashes.{Hashes}
use Rattle.proto_lex.specs.Lexed.{part_of, IsPart, AreInOrder, AreApart, IsLexed}
use Rattle.proto_lex.specs.declared.token.Token.{Token}
use Rattle.proto_lex.specs.declared.token.TokenKind.{TokenKind}
use Rattle.proto_lex.specs.declared.token.Comment.{Comment}
use Rattle.proto_lex.specs.declared.token.CommentKind.{CommentKind}
use Rattle.proto_lex.specs.declared.span.Span.{Span}
use Rattle.proto_lex.specs.declared.lexer.piece.PieceKind.{PieceKind}
use Rattle.proto_lex.specs.declared.lexer.piece.PieceKind.TheVariants as piece
use Rattle.proto_lex.proofs.ReadingTestLemmas.{both, either}
use Rattle.proto_lex.proofs.HashLemmas.{odd_low}
use Rattle.proto_lex.proofs.PieceFound.{Stands, sign_cases}
use Rattle.proto_lex.proofs.PieceExact.{integer_begins, float_begins, stands_some}

-- Tokens and comments stand between characters.

-- the last byte is ASCII
pub record EndsInAscii (word : List ℕ) : Type 0 where
  pub front : List ℕ
  pub last : ℕ
  pub parts : word ≡ front ++ last ∷ []
  pub ascii : last < 128

more_front : (b : ℕ) {word : List ℕ} → EndsInAscii word → EndsInAscii (b ∷ word)
more_front b e = record { front = b ∷ e.front; last = e.last; parts = ap (λ xs. b ∷ xs) e.parts; ascii = e.ascii }

-- a byte, and others that are ASCII
all_ascii : (b : ℕ) (others : List ℕ) → b < 128 → list_all (λ c. nat_le c 127) others ≡ true → EndsInAscii (b ∷ others)
all_ascii b [] h t = record { front = []; last = b; parts = refl; ascii = h }
all_ascii b (c ∷ others) h t =
    both (nat_le c 127) (list_all (λ d. nat_le d 127) others) t (λ u ts.
    let low : c < 128 = grind (arith, nat_tests) in more_front b (all_ascii c others low ts))

words_ascii : (others : List ℕ) → list_all is_word others ≡ true → list_all (λ c. nat_le c 127) others ≡ true
words_ascii [] t = refl
words_ascii (c ∷ others) t =
    both (is_word c) (list_all is_word others) t (λ u ts. rw (word_low c u, words_ascii others ts) refl)
  where
    word_low : (c : ℕ) → is_word c ≡ true → nat_le c 127 ≡ true
    word_low c u = grind (arith, nat_tests)

run_ascii : (m : Bool) (last : ℕ) (bytes : List ℕ) → list_all (λ c. nat_le c 127) (run_after m last bytes) ≡ true
run_ascii m last [] = refl
run_ascii m last (b ∷ others) =
    elim (goes_on m last b) as
    (λ t. goes_on m last b ≡ t → list_all (λ c. nat_le c 127) (cond t (b ∷ run_after m b others) []) ≡ true) [
      | true ↦ λ e. rw (low m last b e, run_ascii m b others) refl
      | false ↦ λ e. refl
    ] refl
  where
    low : (m : Bool) (last b : ℕ) → goes_on m last b ≡ true → nat_le b 127 ≡ true
    low m last b e = grind (arith, nat_tests)

number_ascii : (word rest : List ℕ) → begins_number word ≡ true → run_of (word ++ rest) ≡ word → EndsInAscii word
number_ascii [] rest t w = absurd cc
number_ascii (b ∷ others) rest t w =
    let low : b < 128 = first_low b others t in
    subst (λ (xs : List ℕ). EndsInAscii xs) w
    (all_ascii b _ low (run_ascii (not (begins_hexadecimal (b ∷ (others ++ rest)))) b (others ++ rest)))
  where
    first_low : (b : ℕ) (others : List ℕ) → begins_number (b ∷ others) ≡ true → b < 128
    first_low b others t = either (is_digit b) (nat_eq b 46 && starts is_digit others) t (λ h. digit_low b h)
        (λ _ h. both (nat_eq b 46) (starts is_digit others) h (λ p _. point_low b p))
      where
        digit_low : (b : ℕ) → is_digit b ≡ true → b < 128
        digit_low b h = grind (arith, nat_tests)

        point_low : (b : ℕ) → nat_eq b 46 ≡ true → b < 128
        point_low b h = grind (arith, nat_tests)

append_ascii : (front : List ℕ) {word : List ℕ} → EndsInAscii word → EndsInAscii (front ++ word)
append_ascii [] e = e
append_ascii (b ∷ front) e = more_front b (append_ascii front e)

literal_ascii : (quote : ℕ) → is_quote quote ≡ true → {bytes : List ℕ} → EndsLiteral quote bytes → EndsInAscii bytes
literal_ascii quote q close = record { front = []; last = quote; parts = refl; ascii = quote_low quote q }
  where
    quote_low : (b : ℕ) → is_quote b ≡ true → b < 128
    quote_low b h = grind (arith, nat_tests)
literal_ascii quote q (character {b} p r) = more_front b (literal_ascii quote q r)
literal_ascii quote q (escape {letters} f r) = more_front 92 (append_ascii letters (literal_ascii quote q r))

block_ascii : {bytes : List ℕ} → EndsBlock bytes → EndsInAscii bytes
block_ascii comments.close = record { front = 42 ∷ []; last = 47; parts = refl; ascii = omega arith }
block_ascii (comments.inside {b} c r) = more_front b (block_ascii r)

sign_low : (b : ℕ) (k : TokenKind) → sign_kind b ≡ Some k → b < 128
sign_low b k e =
    sign_cases (λ c _. c < 128) b k e (omega arith) (omega arith) (omega arith) (omega arith) (omega arith)
    (omega arith) (omega arith) (omega arith)
    (omega arith) (omega arith) (omega arith) (omega arith) (omega arith) (omega arith) (omega arith) (omega arith)

token_ascii : {k : TokenKind} {word : List ℕ} (rest : List ℕ) → Spells k word → IsWhole k word rest → EndsInAscii word
token_ascii rest (identifier {b} {others} t h) w = all_ascii b others (letter_low b t) (words_ascii others h)
  where
    letter_low : (b : ℕ) → is_letter b ≡ true → b < 128
    letter_low b t = grind (arith, nat_tests)
token_ascii rest (integer {word} i) w = number_ascii word rest (integer_begins i) w
token_ascii rest (float {word} f) w = number_ascii word rest (float_begins f) w
token_ascii rest (literal {quote} q r) w = more_front quote (literal_ascii quote q r)
token_ascii rest (sign {b} {k} e) w = record { front = []; last = b; parts = refl; ascii = sign_low b k e }

-- after such a word the text may be cut

cut_after : (word rest : List ℕ) → IsUtf8 (word ++ rest) → EndsInAscii word
    → IsCharBoundary (word ++ rest) (length word)
cut_after word rest u e =
    let same : word ++ rest ≡ e.front ++ e.last ∷ rest =
    ap (λ w. w ++ rest) e.parts ∙ append_assoc e.front (e.last ∷ []) rest in
    let here = IsCharBoundary-after_ascii (e.front ++ e.last ∷ rest) (length e.front) (subst IsUtf8 same u)
    (omega (arith, length-append e.front (e.last ∷ rest))) (rw (get_or-append_seam e.front e.last rest 0) e.ascii) in
    let count : length e.front + 1 ≡ length word =
    omega (arith, ap length e.parts, length-append e.front (e.last ∷ [])) in
    subst (λ (xs : List ℕ). IsCharBoundary xs (length word)) (sym same)
    (subst (λ (k : ℕ). IsCharBoundary (e.front ++ e.last ∷ rest) k) count here)

newline_low : (c : ℕ) → not (nat_eq c 10) ≡ false → c < 128
newline_low c s = grind (arith, nat_tests)

cut_line : (word rest : List ℕ) → starts (λ b. not (nat_eq b 10)) rest ≡ false
    → IsCharBoundary (word ++ rest) (length word)
cut_line word [] s =
    let count : length (word ++ []) ≡ length word = omega (arith, length-append word []) in
    subst (λ (k : ℕ). IsCharBoundary (word ++ []) k) count (IsCharBoundary-end (word ++ []))
cut_line word (c ∷ rest) s =
    IsCharBoundary-before_ascii (word ++ c ∷ rest) (length word) (omega (arith, length-append word (c ∷ rest)))
    (rw (get_or-append_seam word c rest 0) (newline_low c s))

cut_comment : {k : CommentKind} {word rest : List ℕ} → IsComment k word rest → IsUtf8 (word ++ rest)
    → IsCharBoundary (word ++ rest) (length word)
cut_comment (line {inside} {rest} h s) u = cut_line (47 ∷ (47 ∷ inside)) rest s
cut_comment (block {inside} {rest} r) u =
    cut_after (47 ∷ (42 ∷ inside)) rest u (more_front 47 (more_front 42 (block_ascii r)))

blank_low : (b : ℕ) → is_blank b ≡ true → b < 128
blank_low b t = grind (arith, nat_tests)

cut : (k : PieceKind) (word rest : List ℕ) → Stands k word rest → IsUtf8 (word ++ rest)
    → IsCharBoundary (word ++ rest) (length word)
cut piece.Blank word rest s u =
    cut_after word rest u (record { front = []; last = s.0; parts = s.1; ascii = blank_low s.0 s.2 })
cut piece.Odd word rest s u = absurd s
cut (piece.Comment k) word rest s u = cut_comment s u
cut (piece.Token k) word rest s u = cut_after word rest u (token_ascii rest s.spelled s.whole)

utf8_after : (k : PieceKind) (word rest : List ℕ) → Stands k word rest → IsUtf8 (word ++ rest) → IsUtf8 rest
utf8_after k word rest s u =
    subst IsUtf8 (drop_at word rest (length word) refl)
    (IsUtf8-drop (word ++ rest) (length word) u (cut k word rest s u))

utf8_after_odd : (place : Where) (b : ℕ) (rest : List ℕ) → is_odd_in place b ≡ true → IsUtf8 (b ∷ rest)
    → IsUtf8 rest
utf8_after_odd place b rest t u =
    let ascii : EndsInAscii (b ∷ []) =
    record { front = []; last = b; parts = refl; ascii = odd_low place b t } in
    IsUtf8-drop (b ∷ rest) 1 u (cut_after (b ∷ []) rest u ascii)

-- a piece of the text

part_is : (text front word rest : List ℕ) (at : ℕ) → text ≡ front ++ (word ++ rest) → at ≡ length front
    → 0 < length word
    → IsUtf8 (word ++ rest) → IsUtf8 rest → IsPart text (part at (length word))
part_is text front word rest at e n h u v =
    let split : text ≡ (front ++ word) ++ rest = e ∙ sym (append_assoc front word rest) in
    let count : length (front ++ word) ≡ at + length word = omega (arith, n, length-append front word) in
    record {
      some = omega (arith, h);
      within = omega (arith, ap length split, length-append (front ++ word) rest, count);
      starts_whole = subst (λ (k : ℕ). IsCharBoundary text k) (sym n)
          (IsCharBoundary-at_seam text front (word ++ rest) e u);
      ends_whole = subst (λ (k : ℕ). IsCharBoundary text k) count
          (IsCharBoundary-at_seam text (front ++ word) rest split v);
    }

pub in_order_before : (place later : ℕ) (spans : List Span) → place ≤ later → AreInOrder later spans
    → AreInOrder place spans
in_order_before place later [] h o = tt
in_order_before place later (span ∷ spans) h o = (omega (arith, o.0), o.1, o.2)

-- the bytes of a piece are its part of the text
part_word : (text front word rest : List ℕ) (at : ℕ) → text ≡ front ++ (word ++ rest) → at ≡ length front
    → part_of text (part at (length word)) ≡ word
part_word text front word rest at e n =
    let left : drop at text ≡ word ++ rest = ap (λ xs. drop at xs) e ∙ drop_at front (word ++ rest) at (sym n) in
    let count : at + length word - at ≡ length word = omega arith in
    rw (left, count) (take_at word rest (length word) refl)

-- the bytes after a piece are the rest of the text
rest_after : (text front word rest : List ℕ) (at : ℕ) → text ≡ front ++ (word ++ rest) → at ≡ length front
    → drop (at + length word) text ≡ rest
rest_after text front word rest at e n =
    let split : text ≡ (front ++ word) ++ rest = e ∙ sym (append_assoc front word rest) in
    let count : length (front ++ word) ≡ at + length word = omega (arith, n, length-append front word) in
    ap (λ xs. drop (at + length word) xs) split ∙ drop_at (front ++ word) rest (at + length word) count

-- what stands first is apart from what begins where it ends, or after

token_first : (span : Span) (comments : List Comment) → AreInOrder span.end (map (λ c. c.span) comments)
    → AllByRecursion (λ (c : Comment). AreApart span c.span) comments
token_first span [] o = tt
token_first span (c ∷ comments) o = (
  inl o.0,
  token_first span comments
      (in_order_before span.end c.span.end (map (λ d. d.span) comments) (omega (arith, o.0, o.1)) o.2),
)

comment_first : (span : Span) (k : CommentKind) (tokens : List Token) (comments : List Comment)
    → AreInOrder span.end (map (λ t. t.span) tokens)
    → AllByRecursion (λ (t : Token). AllByRecursion (λ (c : Comment). AreApart t.span c.span) comments) tokens
    → AllByRecursion (λ (t : Token). AllByRecursion (λ (c : Comment). AreApart t.span c.span)
    (record { kind = k; span = span } ∷ comments)) tokens
comment_first span k [] comments o a = tt
comment_first span k (t ∷ tokens) comments o a = (
  (inr o.0, a.0),
  comment_first span k tokens comments
      (in_order_before span.end t.span.end (map (λ u. u.span) tokens) (omega (arith, o.0, o.1)) o.2) a.1,
)

record ArePlaced (text : List ℕ) (place : ℕ) (tokens : List Token) (comments : List Comment) : Type 0 where
  tokens_in : AllByRecursion (λ t. IsPart text t.span) tokens
  spelled_in : AllByRecursion (λ t. Spells t.kind (part_of text t.span)) tokens
  comments_in : AllByRecursion (λ c. IsPart text c.span) comments
  comments_spelled_in : AllByRecursion (λ c. IsComment c.kind (part_of text c.span) (drop c.span.end text)) comments
  apart_in : AllByRecursion (λ t. AllByRecursion (λ c. AreApart t.span c.span) comments) tokens
  token_order : AreInOrder place (map (λ t. t.span) tokens)
  comment_order : AreInOrder place (map (λ c. c.span) comments)

placed_before : (text : List ℕ) (place later : ℕ) (tokens : List Token) (comments : List Comment) → place ≤ later
    → ArePlaced text later tokens comments → ArePlaced text place tokens comments
placed_before text place later tokens comments h p = record {
  tokens_in = p.tokens_in;
  spelled_in = p.spelled_in;
  comments_in = p.comments_in;
  comments_spelled_in = p.comments_spelled_in;
  apart_in = p.apart_in;
  token_order = in_order_before place later (map (λ t. t.span) tokens) h p.token_order;
  comment_order = in_order_before place later (map (λ c. c.span) comments) h p.comment_order;
}

placed_from : (text front : List ℕ) {place : Where} {at : ℕ} {bytes : List ℕ} {tokens : List Token} {comments : List Comment}
    → text ≡ front ++ bytes → at ≡ length front
    → IsUtf8 bytes → LexesFrom place at bytes tokens comments → ArePlaced text at tokens comments
placed_from text front e n u at_end =
    record {
      tokens_in = tt;
      spelled_in = tt;
      comments_in = tt;
      comments_spelled_in = tt;
      apart_in = tt;
      token_order = tt;
      comment_order = tt;
    }
placed_from text front e n u (blank {at} {b} {rest} {tokens} {comments} t r) =
    let v = utf8_after piece.Blank (b ∷ []) rest (b, refl, t) u in
    let split : text ≡ (front ++ b ∷ []) ++ rest = e ∙ sym (append_assoc front (b ∷ []) rest) in
    let count : at + 1 ≡ length (front ++ b ∷ []) = omega (arith, n, length-append front (b ∷ [])) in
    placed_before text at (at + 1) tokens comments (omega arith) (placed_from text (front ++ b ∷ []) split count v r)
placed_from text front e n u (comment {at} {k} {word} {rest} {tokens} {comments} s r) =
    let v = utf8_after (piece.Comment k) word rest s u in
    let some = stands_some (piece.Comment k) word rest s in
    let split : text ≡ (front ++ word) ++ rest = e ∙ sym (append_assoc front word rest) in
    let count : at + length word ≡ length (front ++ word) = omega (arith, n, length-append front word) in
    let p = placed_from text (front ++ word) split count v r in
    let part_of_text = part_is text front word rest at e n some u v in
    record {
      tokens_in = p.tokens_in;
      spelled_in = p.spelled_in;
      comments_in = (part_of_text, p.comments_in);
      comments_spelled_in = (
        rw (part_word text front word rest at e n, rest_after text front word rest at e n) s,
        p.comments_spelled_in,
      );
      apart_in = comment_first (part at (length word)) k tokens comments p.token_order p.apart_in;
      token_order = in_order_before at (at + length word) (map (λ t. t.span) tokens) (omega arith) p.token_order;
      comment_order = (omega arith, part_of_text.some, p.comment_order);
    }
placed_from text front e n u (odd {place} {at} {b} {rest} {tokens} {comments} t r) =
    let v = utf8_after_odd place b rest t u in
    let split : text ≡ (front ++ b ∷ []) ++ rest = e ∙ sym (append_assoc front (b ∷ []) rest) in
    let count : at + 1 ≡ length (front ++ b ∷ []) = omega (arith, n, length-append front (b ∷ [])) in
    placed_before text at (at + 1) tokens comments (omega arith) (placed_from text (front ++ b ∷ []) split count v r)
placed_from text front e n u (token {place} {at} {k} {word} {rest} {tokens} {comments} s r) =
    let v = utf8_after (piece.Token k) word rest s u in
    let some = stands_some (piece.Token k) word rest s in
    let split : text ≡ (front ++ word) ++ rest = e ∙ sym (append_assoc front word rest) in
    let count : at + length word ≡ length (front ++ word) = omega (arith, n, length-append front word) in
    let p = placed_from text (front ++ word) split count v r in
    let part_of_text = part_is text front word rest at e n some u v in
    elim (is_commented place k) as
    (λ t. ArePlaced text at (cond t tokens (record { kind = k; span = part at (length word) } ∷ tokens)) comments) [
      | true ↦ placed_before text at (at + length word) tokens comments (omega arith) p
      | false ↦ record {
        tokens_in = (part_of_text, p.tokens_in);
        spelled_in = (
          subst (λ (w : List ℕ). Spells k w) (sym (part_word text front word rest at e n)) s.spelled,
          p.spelled_in,
        );
        comments_in = p.comments_in;
        comments_spelled_in = p.comments_spelled_in;
        apart_in = (token_first (part at (length word)) comments p.comment_order, p.apart_in);
        token_order = (omega arith, part_of_text.some, p.token_order);
        comment_order = in_order_before at (at + length word) (map (λ c. c.span) comments) (omega arith) p.comment_order;
      }
    ]

-- the byte order mark is a character
mark_char : encode 65279 ≡ 239 ∷ (187 ∷ (191 ∷ []))
unfolding encode
mark_char = refl

placed : {hashes : Hashes} {text : List ℕ} {tokens : List Token} {comments : List Comment} → IsUtf8 text
    → LexesWith hashes text tokens comments → ArePlaced text 0 tokens comments
placed u (unmarked {text} r) = placed_from text [] refl refl u r
placed u (marked {rest} {tokens} {comments} r) =
    let text : List ℕ = 239 ∷ (187 ∷ (191 ∷ rest)) in
    placed_before text 0 3 tokens comments (omega arith)
    (placed_from text (239 ∷ (187 ∷ (191 ∷ []))) refl refl
    (IsUtf8-past_char text rest 65279 u (sym (ap (λ xs. xs ++ rest) mark_char))) r)

-- what lexes is lexed
pub is_lexed : {hashes : Hashes} {text : List ℕ} {tokens : List Token} {comments : List Comment} → IsUtf8 text
    → LexesWith hashes text tokens comments → IsLexed text tokens comments
is_lexed {hashes} {text} {tokens} {comments} u d =
    let p = placed u d in
    record {
      lexes = (hashes, d);
      token_parts = All-from_recursion (λ t. IsPart text t.span) tokens p.tokens_in;
      spelled = All-from_recursion (λ t. Spells t.kind (part_of text t.span)) tokens p.spelled_in;
      comment_parts = All-from_recursion (λ c. IsPart text c.span) comments p.comments_in;
      comments_spelled = All-from_recursion
          (λ c. IsComment c.kind (part_of text c.span) (drop c.span.end text)) comments p.comments_spelled_in;
      tokens_in_order = p.token_order;
      comments_in_order = p.comment_order;
      apart = λ k d inside. All-from_recursion (λ c. AreApart (get_or tokens k d).span c.span) comments
          (All-from_recursion (λ t. AllByRecursion (λ c. AreApart t.span c.span) comments) tokens p.apart_in k d
          inside);
    }
