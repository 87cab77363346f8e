-- The command of a line is what the grammar says: `Found` of what is read, `Exact` of what is in the grammar.
use Rattle.std.proofs.Common.{◌≡◌, ℕ, ◌≤◌, ◌==◌, Bool, true, false, not, ◌&&◌, List, [], ◌∷◌, ◌++◌, length, cond}
use Rattle.std.proofs.Common.{refl, ◌∙◌, ap, arith}
use Rattle.std.specs.Prelude.{Option, None, Some, nat_le, nat_lt}
use Rattle.std.specs.List.{list_all, AllPass}
use Rattle.std.specs.Option.{option_and_then, option_map}
use Rattle.std.specs.Str.{is_utf8, IsUtf8}
use Rattle.std.proofs.lemmas.List.Sums.{AllPass-from_list_all}
use borrow.Author.Tests.{eqb-true}
use Rattle.std.proofs.lemmas.Bool.Decides.{nat_tests}
use Rattle.std.proofs.lemmas.Str.{IsUtf8-from_is_utf8, is_utf8-from_IsUtf8}
use Rattle.std.proofs.lemmas.Bool.{and_parts, leb-true}
use Rattle.basics.proofs.ListLemmas.{map_some}
use Rattle.scip_query.specs.Commands.{is_digit, value_of, max_digits}
use Rattle.scip_query.specs.CommandReading.{Parts, with_first, parts_of, is_written, at_most, number_of, path_of}

pub bind_some : {A B : Type 0} (o : Option A) (f : A → Option B) (y : B) → option_and_then f o ≡ Some y
    → (x : A) × (o ≡ Some x) × (f x ≡ Some y)
bind_some None f y e = absurd cc
bind_some (Some x) f y e = (x, refl, e)

-- Exact: a word without a space, a space and what stands behind it
pub parts_exact : (word behind : List ℕ) → list_all (λ b. not (b == 32)) word ≡ true
    → parts_of (word ++ 32 ∷ behind) ≡ Some (record { word = word; behind = behind })
parts_exact [] behind e = refl
parts_exact (b ∷ word) behind e = by (parts_exact word behind) (b == 32) refl where
  by : (list_all (λ x. not (x == 32)) word ≡ true
      → parts_of (word ++ 32 ∷ behind) ≡ Some (record { word = word; behind = behind })) → (t : Bool) → (b == 32) ≡ t
      → parts_of (b ∷ word ++ 32 ∷ behind) ≡ Some (record { word = b ∷ word; behind = behind })
  by rest true is = let clash : false ≡ true = rw is at e in absurd cc
  by rest false is = rw is (ap (option_map (with_first b)) (rest (rw is at e)))

-- Found
pub parts_found : (line : List ℕ) (parts : Parts) → parts_of line ≡ Some parts → line ≡ parts.word ++ 32 ∷ parts.behind
parts_found [] parts e = absurd cc
parts_found (b ∷ line) parts e = by (parts_found line) (b == 32) refl where
  by : ((inner : Parts) → parts_of line ≡ Some inner → line ≡ inner.word ++ 32 ∷ inner.behind) → (t : Bool)
      → (b == 32) ≡ t → b ∷ line ≡ parts.word ++ 32 ∷ parts.behind
  by rest true is =
      let first : Parts = record { word = []; behind = line } in
      let found : Some first ≡ Some parts = rw is at e in
      let same : first ≡ parts = cc in
      ap (λ x. x ∷ line) (eqb-true b 32 is) ∙ ap (λ (p : Parts). p.word ++ 32 ∷ p.behind) same
  by rest false is =
      let inner = map_some (with_first b) (parts_of line) parts (rw is at e) in
      ap (λ l. b ∷ l) (rest inner.0 inner.1) ∙ ap (λ (p : Parts). p.word ++ 32 ∷ p.behind) inner.2

-- ---- numbers

pub not_empty : (n : ℕ) → (n == 0) ≡ false → nat_lt 0 n ≡ true
not_empty n e = grind (arith, nat_tests)

pub written_digits : (word : List ℕ) → is_written word ≡ true → AllPass is_digit word × (length word ≤ max_digits)
written_digits word e =
    let parts = and_parts (list_all is_digit word) (nat_lt 0 (length word) && nat_le (length word) max_digits) e in
    let lengths = and_parts (nat_lt 0 (length word)) (nat_le (length word) max_digits) parts.1 in
    (AllPass-from_list_all is_digit word parts.0, leb-true (length word) max_digits lengths.1)

pub number_written : (word : List ℕ) → is_written word ≡ true → number_of word ≡ at_most (value_of word)
unfolding number_of
number_written word e = ap (λ b. cond b (at_most (value_of word)) None) e

pub number_unwritten : (word : List ℕ) → is_written word ≡ false → number_of word ≡ None
unfolding number_of
number_unwritten word e = ap (λ b. cond b (at_most (value_of word)) None) e

-- ---- paths

pub path_is : (path : List ℕ) → (length path == 0) ≡ false → IsUtf8 path → path_of path ≡ Some path
unfolding path_of
path_is path some text =
    ap (λ b. cond (b && is_utf8 path) (Some path) None) (not_empty (length path) some)
    ∙ ap (λ b. cond b (Some path) None) (is_utf8-from_IsUtf8 path text)

pub path_isnt : (path : List ℕ) → (IsUtf8 path → ⊥) → path_of path ≡ None
unfolding path_of
path_isnt path no_text = by (nat_lt 0 (length path)) (is_utf8 path) refl where
  by : (a b : Bool) → is_utf8 path ≡ b → cond (a && b) (Some path) None ≡ None
  by false b e = refl
  by true false e = refl
  by true true e = absurd (no_text (IsUtf8-from_is_utf8 path e))
