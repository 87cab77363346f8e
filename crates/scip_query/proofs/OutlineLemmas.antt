-- Outlines: the order, the symbols that a document defines, and symbols around one.
use Rattle.std.proofs.Common.{◌≡◌, ℕ, ◌+◌, ◌<◌, ◌≤◌, ◌==◌, Bool, true, false, not, ◌&&◌, ◌||◌, List, [], ◌∷◌, ◌++◌, length}
use Rattle.std.proofs.Common.{map, cond, get_or, take, refl, sym, ◌∙◌, ap, arith}
use Rattle.std.specs.Borrow.{Bor}
use Rattle.std.specs.Cmp.{IsTotalOrder}
use Rattle.std.specs.Cmp.Lexicographic.{slice_cmp}
use Rattle.std.specs.List.{filter, flat_map, list_any, count_by}
use Rattle.std.specs.Ordering.{nat_cmp, is_eq}
use Rattle.std.specs.Str.{bytes_eq}
use Rattle.std.proofs.lemmas.Bool.Decides.{nat_tests}
use Rattle.std.proofs.lemmas.Cmp.{on_total}
use Rattle.std.proofs.lemmas.List.{flat_map_more, take_more}
use Rattle.std.proofs.lemmas.List.Sums.{sum_by-append}
use Rattle.std.proofs.lemmas.Map.Text.{is_eq-slice_cmp}
use Rattle.scip_records.specs.declared.records.Index.{Index}
use Rattle.scip_records.specs.declared.records.Occurrence.{Occurrence}
use Rattle.scip_query.specs.CommandViews.{text_of}
use Rattle.scip_query.specs.Positions.{start_of}
use Rattle.scip_query.specs.Sites.{Numbered}
use Rattle.scip_query.specs.Outline.{defines, Outlined, outlined, outlined_cmp}
use Rattle.scip_query.specs.Tables.{numbers}
use Rattle.scip_query.specs.Tables.Outlines.{defined_symbol, outlined_at}
use Rattle.scip_query.proofs.TableLemmas.{positions_total, numbers_more}

pub outlined_total : IsTotalOrder outlined_cmp
outlined_total = on_total (λ (o : Outlined). start_of o.occurrence.range) positions_total

-- what is kept of some elements, each as a function gives it
kept_each : {A B : Type 0} (p : A → Bool) (f : A → B) (xs : List A)
    → flat_map (λ x. cond (p x) (f x ∷ []) []) xs ≡ map f (filter p xs)
kept_each p f [] = refl
kept_each p f (x ∷ xs) = by (p x) (kept_each p f xs) where
  by : (b : Bool) → flat_map (λ y. cond (p y) (f y ∷ []) []) xs ≡ map f (filter p xs)
      → cond b (f x ∷ []) [] ++ flat_map (λ y. cond (p y) (f y ∷ []) []) xs
      ≡ map f (cond b (x ∷ filter p xs) (filter p xs))
  by true rest = ap (λ l. f x ∷ l) rest
  by false rest = rest

pub symbols_are : (occurrences : List Occurrence)
    → flat_map defined_symbol occurrences ≡ map (λ (o : Occurrence). o.symbol) (filter defines occurrences)
symbols_are occurrences = kept_each defines (λ (o : Occurrence). o.symbol) occurrences

pub outlined_are : (index : Index) (d : Numbered) (occurrences : List Occurrence)
    → flat_map (outlined_at index d) occurrences ≡ map (outlined index d) (filter defines occurrences)
outlined_are index d occurrences = kept_each defines (outlined index d) occurrences

-- what is made of some elements, and of one more
pub pieces_more : {A B : Type 0} (f : A → List B) (xs : List A) (i : ℕ) (x : A) (before so_far after : List B)
    → i < length xs → x ≡ get_or xs i x → so_far ≡ before ++ flat_map f (take i xs) → after ≡ so_far ++ f x
    → after ≡ before ++ flat_map f (take (i + 1) xs)
pieces_more f xs i x before so_far after inside is far put =
    put ∙ ap (λ l. l ++ f x) far ∙ flat_map_more f before (take i xs) x
    ∙ ap (λ l. before ++ flat_map f l) (sym (take_more xs i x inside ∙ ap (λ y. take i xs ++ y ∷ []) (sym is)))

some_left : {A : Type 0} (x : A) (xs : List A) → not (length (x ∷ xs) == 0) ≡ true
some_left x xs = grind (arith, nat_tests)

-- some of a list passes where what passes isn't empty
any_kept : {A B : Type 0} (p : A → Bool) (q : B → Bool) (f : A → B) → ((x : A) → p x ≡ q (f x)) → (xs : List A)
    → not (length (filter p xs) == 0) ≡ list_any q (map f xs)
any_kept p q f same [] = refl
any_kept p q f same (x ∷ xs) = by (p x) (same x) (any_kept p q f same xs) where
  by : (b : Bool) → b ≡ q (f x) → not (length (filter p xs) == 0) ≡ list_any q (map f xs)
      → not (length (cond b (x ∷ filter p xs) (filter p xs)) == 0) ≡ q (f x) || list_any q (map f xs)
  by true passes rest = some_left x (filter p xs) ∙ ap (λ t. t || list_any q (map f xs)) passes
  by false fails rest = rest ∙ ap (λ t. t || list_any q (map f xs)) fails

pub some_found : (text : List ℕ) (all found : List (Bor (List ℕ))) (empty : Bool)
    → found ≡ filter (λ (b : Bor (List ℕ)). is_eq (slice_cmp nat_cmp b.now text)) all → empty ≡ (length found == 0)
    → not empty ≡ list_any (λ s. bytes_eq s text) (map text_of all)
some_found text all found empty are is =
    ap not (is ∙ ap (λ l. length l == 0) are)
    ∙ any_kept (λ (b : Bor (List ℕ)). is_eq (slice_cmp nat_cmp b.now text)) (λ s. bytes_eq s text) text_of
    (λ b. is_eq-slice_cmp b.now text) all

-- ---- symbols around one, counted

count_more : (p : ℕ → Bool) (number : ℕ)
    → count_by p (numbers (number + 1)) ≡ count_by p (numbers number) + cond (p number) 1 0
count_more p number =
    ap (count_by p) (numbers_more number)
    ∙ omega (arith, sum_by-append (λ x. cond (p x) 1 0) (numbers number) (number ∷ []))

pub depth_more : (p : ℕ → Bool) (number depth after : ℕ) (inside : Bool) → after ≡ depth + cond inside 1 0
    → inside ≡ p number → depth ≡ count_by p (numbers number) → after ≡ count_by p (numbers (number + 1))
depth_more p number depth after inside put is counted =
    put ∙ ap (λ t. depth + cond t 1 0) is ∙ ap (λ n. n + cond (p number) 1 0) counted ∙ sym (count_more p number)

pub depth_few : (inside : Bool) (depth after number : ℕ) → after ≡ depth + cond inside 1 0 → depth ≤ number
    → after ≤ number + 1
depth_few true depth after number put few = omega (arith, put)
depth_few false depth after number put few = omega (arith, put)

-- a symbol that goes on there is inside what the front is, and one that doesn't is inside nothing there
pub inside_where : (ends some defined : Bool) → (ends && some) ≡ true → defined ≡ (ends && (some && defined))
inside_where true true defined on = refl
inside_where true false defined on = cc
inside_where false some defined on = cc

pub inside_nothing : (ends some defined : Bool) → (ends && some) ≡ false → false ≡ (ends && (some && defined))
inside_nothing true true defined on = cc
inside_nothing true false defined on = refl
inside_nothing false some defined on = refl
