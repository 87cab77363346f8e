-- Ends of texts, counts of a byte, and what a loop over bytes keeps.
use Rattle.std.proofs.Common.{◌≡◌, ℕ, ◌+◌, ◌-◌, ◌<◌, ◌≤◌, Bool, true, false, List, [], ◌∷◌, ◌++◌, length, drop, take}
use Rattle.std.proofs.Common.{get_or, cond, refl, sym, ◌∙◌, ap, arith, append_assoc, append-nil}
use Rattle.std.specs.Prelude.{nat_eq, nat_le, None, Some}
use Rattle.std.specs.List.{count_by}
use Rattle.std.proofs.lemmas.Bool.Decides.{nat_tests}
use Rattle.std.proofs.lemmas.List.Sums.{sum_by-cons, sum_by-append}
use Rattle.std.proofs.lemmas.List.{drop_all, drop_more, take_more}
use Rattle.std.specs.Option.{option_map, unwrap_or}
use Rattle.scip_query.specs.Names.{longest_end, kept_byte, quoted_behind, unquoted_from, behind_alike, begins_alike}

-- ---- what is left of a text

left_here : (text : List ℕ) (at b : ℕ) → at < length text → b ≡ get_or text at 0
    → drop at text ≡ b ∷ drop (at + 1) text
left_here text at b inside is = drop_more text at 0 inside ∙ ap (λ x. x ∷ drop (at + 1) text) (sym is)

-- ---- ends, and counts of a byte

count_first : (byte b : ℕ) (text : List ℕ)
    → count_by (nat_eq byte) (b ∷ text) ≡ cond (nat_eq byte b) 1 0 + count_by (nat_eq byte) text
count_first byte b text = sum_by-cons (λ x. cond (nat_eq byte x) 1 0) b text

-- all of a text, where the byte isn't too often in it
pub whole_end : (byte most : ℕ) (text : List ℕ) → count_by (nat_eq byte) text - most ≡ 0
    → longest_end byte most text ≡ text
whole_end byte most [] none = refl
whole_end byte most (b ∷ text) none =
    let few : nat_le (count_by (nat_eq byte) (b ∷ text)) most ≡ true = grind (arith, nat_tests) in
    ap (λ t. cond t (b ∷ text) (longest_end byte most text)) few

-- else an end of what is behind the first byte
end_behind : (byte most b : ℕ) (text : List ℕ) → 0 < count_by (nat_eq byte) (b ∷ text) - most
    → longest_end byte most (b ∷ text) ≡ longest_end byte most text
end_behind byte most b text some =
    let many : nat_le (count_by (nat_eq byte) (b ∷ text)) most ≡ false = grind (arith, nat_tests) in
    ap (λ t. cond t (b ∷ text) (longest_end byte most text)) many

count_behind : (byte most b : ℕ) (text : List ℕ) (excess : ℕ) → excess ≡ count_by (nat_eq byte) (b ∷ text) - most
    → 0 < excess → cond (nat_eq byte b) (excess - 1) excess ≡ count_by (nat_eq byte) text - most
count_behind byte most b text excess is some = by (nat_eq byte b) (count_first byte b text) where
  by : (t : Bool) → count_by (nat_eq byte) (b ∷ text) ≡ cond t 1 0 + count_by (nat_eq byte) text
      → cond t (excess - 1) excess ≡ count_by (nat_eq byte) text - most
  by true count = omega (arith, is, count)
  by false count = omega (arith, is, count)

-- the same at a place of a text
pub end_on : (byte most : ℕ) (text : List ℕ) (at b excess : ℕ) → at < length text → b ≡ get_or text at 0
    → excess ≡ count_by (nat_eq byte) (drop at text) - most → 0 < excess
    → longest_end byte most (drop at text) ≡ longest_end byte most (drop (at + 1) text)
end_on byte most text at b excess inside is counted some =
    let here : drop at text ≡ b ∷ drop (at + 1) text = left_here text at b inside is in
    let many : excess ≡ count_by (nat_eq byte) (b ∷ drop (at + 1) text) - most =
    counted ∙ ap (λ l. count_by (nat_eq byte) l - most) here in
    ap (longest_end byte most) here ∙ end_behind byte most b (drop (at + 1) text) (omega (arith, many, some))

pub excess_on : (byte most : ℕ) (text : List ℕ) (at b excess : ℕ) → at < length text → b ≡ get_or text at 0
    → excess ≡ count_by (nat_eq byte) (drop at text) - most → 0 < excess
    → cond (nat_eq byte b) (excess - 1) excess ≡ count_by (nat_eq byte) (drop (at + 1) text) - most
excess_on byte most text at b excess inside is counted some =
    let here : drop at text ≡ b ∷ drop (at + 1) text = left_here text at b inside is in
    count_behind byte most b (drop (at + 1) text) excess
    (counted ∙ ap (λ l. count_by (nat_eq byte) l - most) here) some

-- ---- what stands between backticks

pub unquoted_on : (quoted after : Bool) (text : List ℕ) (at b : ℕ) (kept more : List ℕ) → at < length text
    → b ≡ get_or text at 0 → more ≡ kept ++ kept_byte quoted b → after ≡ quoted_behind quoted b
    → more ++ unquoted_from after (drop (at + 1) text) ≡ kept ++ unquoted_from quoted (drop at text)
unquoted_on quoted after text at b kept more inside is put behind =
    let here : drop at text ≡ b ∷ drop (at + 1) text = left_here text at b inside is in
    ap (λ l. l ++ unquoted_from after (drop (at + 1) text)) put
    ∙ append_assoc kept (kept_byte quoted b) (unquoted_from after (drop (at + 1) text))
    ∙ ap (λ t. kept ++ (kept_byte quoted b ++ unquoted_from t (drop (at + 1) text))) behind
    ∙ ap (λ l. kept ++ unquoted_from quoted l) (sym here)

pub unquoted_all : (quoted : Bool) (text kept : List ℕ) (at : ℕ) → length text ≤ at
    → kept ++ unquoted_from quoted (drop at text) ≡ unquoted_from false text
    → kept ≡ unquoted_from false text
unquoted_all quoted text kept at past e =
    sym (append-nil kept)
    ∙ ap (λ l. kept ++ unquoted_from quoted l) (sym (drop_all at text past)) ∙ e

-- ---- names that begin with a text

pub alike_on : (text : List ℕ) (at b : ℕ) (name behind : List ℕ) → at < length text → b ≡ get_or text at 0
    → behind_alike b name ≡ Some behind
    → begins_alike (drop at text) name ≡ begins_alike (drop (at + 1) text) behind
alike_on text at b name behind inside is found =
    ap (λ l. begins_alike l name) (left_here text at b inside is)
    ∙ ap (λ o. unwrap_or (option_map (begins_alike (drop (at + 1) text)) o) false) found

pub alike_no : (text : List ℕ) (at b : ℕ) (name : List ℕ) → at < length text → b ≡ get_or text at 0
    → behind_alike b name ≡ None → begins_alike (drop at text) name ≡ false
alike_no text at b name inside is none =
    ap (λ l. begins_alike l name) (left_here text at b inside is)
    ∙ ap (λ o. unwrap_or (option_map (begins_alike (drop (at + 1) text)) o) false) none

-- ---- a byte, counted

pub few_more : (byte b count after at : ℕ) → after ≡ count + cond (nat_eq byte b) 1 0 → count ≤ at → after ≤ at + 1
few_more byte b count after at put few = by (nat_eq byte b) put where
  by : (t : Bool) → after ≡ count + cond t 1 0 → after ≤ at + 1
  by true is = omega (arith, is, few)
  by false is = omega (arith, is, few)

pub count_on : (byte : ℕ) (text : List ℕ) (at b count after : ℕ) → at < length text → b ≡ get_or text at 0
    → after ≡ count + cond (nat_eq byte b) 1 0 → count ≡ count_by (nat_eq byte) (take at text)
    → after ≡ count_by (nat_eq byte) (take (at + 1) text)
count_on byte text at b count after inside is put counted =
    let more : take (at + 1) text ≡ take at text ++ b ∷ [] =
    take_more text at 0 inside ∙ ap (λ x. take at text ++ x ∷ []) (sym is) in
    put ∙ ap (λ n. n + cond (nat_eq byte b) 1 0) counted
    ∙ omega (arith, sum_by-append (λ x. cond (nat_eq byte x) 1 0) (take at text) (b ∷ []))
    ∙ ap (count_by (nat_eq byte)) (sym more)
