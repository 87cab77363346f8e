-- What the searches for bytes say: how long a line and a block comment are, and where the lines of a text start.
use Rattle.std.proofs.Common.{◌≡◌, ◌∙◌, sym, ap, refl, ℕ, zero, suc, ◌+◌, ◌<◌, true, false, not, cond, nat_eq, List, []}
use Rattle.std.proofs.Common.{◌∷◌, ◌++◌, ◌-◌, append_assoc, length, get_or, map, Option, Some, None, arith, eqb-true}
use Rattle.std.specs.Option.{unwrap_or}
use Rattle.std.specs.List.{prefix_len}
use Rattle.std.proofs.lemmas.List.Sums.{prefix_len_is}
use Rattle.memchr.specs.Find.{IsFirstByte, Passes, FindsNeedle, OccursAt, is_byte, places, places_from}
use Rattle.proto_lex.specs.Comments.{begins_close}
use Rattle.proto_lex.specs.Position.{later_line_starts}
use Rattle.proto_lex.specs.Reading.{is_in_line, block_at}
use Rattle.proto_lex.proofs.ReadingTestLemmas.{both}

-- a line goes on up to the first line feed, or to the end

in_line : (bytes : List ℕ) (k : ℕ) → (Passes (is_byte 10) bytes k → ⊥) → is_in_line (get_or bytes k 0) ≡ true
in_line bytes k other =
    elim (nat_eq (get_or bytes k 0) 10) as (λ t. nat_eq (get_or bytes k 0) 10 ≡ t → not t ≡ true) [
      | true ↦ λ e. absurd (other e)
      | false ↦ λ e. refl
    ] refl

pub line_len_is : (bytes : List ℕ) (found : Option ℕ) → IsFirstByte (is_byte 10) bytes found
    → unwrap_or found (length bytes) ≡ prefix_len is_in_line bytes
line_len_is bytes None none =
    sym (prefix_len_is is_in_line bytes (length bytes) 0 (omega arith)
    (λ k l. in_line bytes k (none k (omega arith) l)) (λ l. absurd (omega arith)))
line_len_is bytes (Some at) first =
    sym (prefix_len_is is_in_line bytes at 0 (omega (arith, first.0.high))
    (λ k l. in_line bytes k (first.0.before k (omega arith) l)) (λ l. ap not first.1))

-- a block comment goes on up to its first `*/`

abbrev close : List ℕ
close = 42 ∷ (47 ∷ [])

reads_close : (others : List ℕ) (j : ℕ) → j < 2 → get_or (42 ∷ (47 ∷ others)) j 0 ≡ get_or close j 0
reads_close others zero l = refl
reads_close others (suc zero) l = refl
reads_close others (suc (suc j)) l = absurd (omega arith)

closes : (bytes : List ℕ) → OccursAt bytes close 0 → begins_close bytes ≡ true
closes [] at = absurd (omega (arith, at.fits))
closes (b ∷ []) at = absurd (omega (arith, at.fits))
closes (b ∷ (c ∷ others)) at =
    let first : b ≡ 42 = at.reads 0 (omega arith) in
    let second : c ≡ 47 = at.reads 1 (omega arith) in
    rw (first, second) refl

closed : (bytes : List ℕ) → begins_close bytes ≡ true → OccursAt bytes close 0
closed [] e = absurd cc
closed (b ∷ []) e = both (nat_eq b 42) false e (λ t s. absurd cc)
closed (b ∷ (c ∷ others)) e =
    both (nat_eq b 42) (nat_eq 47 c) e (λ t s.
    let first : b ≡ 42 = eqb-true b 42 t in
    let second : 47 ≡ c = eqb-true 47 c s in
    record {
      fits = omega arith;
      reads = λ j l. let same : 0 + j ≡ j = omega arith in rw (same, first, ← second) (reads_close others j l);
    })

-- a place is one further behind one byte more
further : (b k : ℕ) (others : List ℕ) → OccursAt others close k → OccursAt (b ∷ others) close (suc k)
further b k others at = record {
  fits = omega (arith, at.fits);
  reads = λ j l. let same : suc k + j ≡ suc (k + j) = omega arith in rw same (at.reads j l);
}

nearer : (b k : ℕ) (others : List ℕ) → OccursAt (b ∷ others) close (suc k) → OccursAt others close k
nearer b k others at = record {
  fits = omega (arith, at.fits);
  reads = λ j l. let same : suc k + j ≡ suc (k + j) = omega arith in rw same at (at.reads j l);
}

no_close : (len : ℕ) (bytes : List ℕ) → ((k : ℕ) → OccursAt bytes close k → ⊥) → block_at len bytes ≡ None
unfolding block_at
no_close len [] none = refl
no_close len (b ∷ others) none =
    elim (begins_close (b ∷ others))
    as (λ t. begins_close (b ∷ others) ≡ t → cond t (Some (len + 2)) (block_at (len + 1) others) ≡ None) [
      | true ↦ λ e. absurd (none 0 (closed (b ∷ others) e))
      | false ↦ λ e. no_close (len + 1) others (λ k at. none (suc k) (further b k others at))
    ] refl

first_close : (len k : ℕ) (bytes : List ℕ) → ((j : ℕ) → j < k → OccursAt bytes close j → ⊥) → OccursAt bytes close k
    → block_at len bytes ≡ Some (len + k + 2)
unfolding block_at
first_close len k [] before at = absurd (omega (arith, at.fits))
first_close len zero (b ∷ others) before at =
    let same : len + 2 ≡ len + 0 + 2 = omega arith in
    rw (closes (b ∷ others) at) (ap (λ n. Some n) same)
first_close len (suc k) (b ∷ others) before at =
    let same : len + 1 + k + 2 ≡ len + suc k + 2 = omega arith in
    elim (begins_close (b ∷ others))
    as (λ t. begins_close (b ∷ others) ≡ t
    → cond t (Some (len + 2)) (block_at (len + 1) others) ≡ Some (len + suc k + 2)) [
      | true ↦ λ e. absurd (before 0 (omega arith) (closed (b ∷ others) e))
      | false ↦ λ e.
          first_close (len + 1) k others (λ j l on. before (suc j) (omega arith) (further b j others on))
          (nearer b k others at) ∙ ap (λ n. Some n) same
    ] refl

pub block_unclosed : (bytes : List ℕ) → FindsNeedle bytes (42 ∷ (47 ∷ [])) 0 None → None ≡ block_at 2 bytes
block_unclosed bytes none = sym (no_close 2 bytes (λ k at. none k (omega arith) (omega (arith, at.fits)) at))

pub block_closed : (bytes : List ℕ) (k : ℕ) → FindsNeedle bytes (42 ∷ (47 ∷ [])) 0 (Some k)
    → Some (k + 4) ≡ block_at 2 bytes
block_closed bytes k first =
    let same : 2 + k + 2 ≡ k + 4 = omega arith in
    sym (first_close 2 k bytes (λ j l at. first.0.before j (omega arith) l at) first.1 ∙ ap (λ n. Some n) same)

-- the places behind the line feeds of bytes that are at an offset of a text

starts_from : (text : List ℕ) (at : ℕ) (bytes : List ℕ) → ((k : ℕ) → get_or text (at + k) 0 ≡ get_or bytes k 0)
    → map (λ end. end + 1) (places_from (is_byte 10) text at (length bytes)) ≡ later_line_starts at bytes
unfolding places_from
starts_from text at [] same = refl
starts_from text at (b ∷ others) same =
    let ends : List ℕ = places_from (is_byte 10) text (at + 1) (length others) in
    let rest : map (λ end. end + 1) ends ≡ later_line_starts (at + 1) others =
    starts_from text (at + 1) others
    (λ k. let next : at + 1 + k ≡ at + suc k = omega arith in rw next (same (suc k))) in
    let here : at + 0 ≡ at = omega arith in
    let first : get_or text at 0 ≡ b = rw here at (same 0) in
    rw first (elim (nat_eq b 10)
    as (λ t. map (λ end. end + 1) (cond t (at ∷ ends) ends)
    ≡ cond t ((at + 1) ∷ later_line_starts (at + 1) others) (later_line_starts (at + 1) others)) [
      | true ↦ ap (λ xs. (at + 1) ∷ xs) rest
      | false ↦ rest
    ])

pub starts_by_places : (text : List ℕ)
    → map (λ end. end + 1) (places (is_byte 10) text) ≡ later_line_starts 0 text
starts_by_places text =
    let whole : length text - 0 ≡ length text = omega arith in
    rw whole (starts_from text 0 text (λ k. let same : 0 + k ≡ k = omega arith in rw same refl))

-- one more of them
pub one_more : (starts ends later all : List ℕ) (end : ℕ) → ends ≡ end ∷ later
    → starts ++ map (λ end. end + 1) ends ≡ all
    → (starts ++ (end + 1) ∷ []) ++ map (λ end. end + 1) later ≡ all
one_more starts ends later all end is h =
    append_assoc starts ((end + 1) ∷ []) (map (λ end. end + 1) later) ∙ rw is at h
