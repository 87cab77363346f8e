-- What URLs of pages are read as, and where they lead.
use Rattle.std.proofs.Common.{◌≡◌, ◌∙◌, sym, refl, ap, subst, ℕ, suc, ◌+◌, ◌-◌, ◌*◌, ◌/◌, ◌%◌, ◌<◌, ◌≤◌, ◌==◌, Bool}
use Rattle.std.proofs.Common.{true, false, cond, List, [], ◌∷◌, ◌++◌, length, take, nat_eq, append-nil}
use Rattle.std.proofs.Common.{arith}
use Rattle.std.specs.Prelude.{codes, nat_lt, not, ◌&&◌}
use Rattle.std.specs.List.{flat_map, starts_with, count_by, AllByRecursion}
use Rattle.std.proofs.lemmas.Bool.{eqb-true, ltb-true, ltb-false, lt-ltb, le-ltb}
use Rattle.std.proofs.lemmas.List.{length-append, length-take-le}
use Rattle.std.proofs.lemmas.List.Recursion.{is_count_by}
use Rattle.std.proofs.lemmas.List.Splits.{length-slice_split}
use Rattle.scip_pages.specs.Paths.{components, has_name, is_path_below, entered, entered_all, place_of}
use Rattle.scip_pages.specs.Urls.{is_kept, hex_digit, encoded_byte, encoded, ups, digit_value, decoded, folder_of}
use Rattle.scip_pages.specs.UrlLaws.{IsDecoded, LeadsToThePage}
use Rattle.scip_pages.proofs.PathLemmas.{stays_below}

-- ---- bytes

value_of_digit : (n : ℕ) → n < 16 → digit_value (hex_digit n) ≡ n
value_of_digit n small = by (nat_lt n 10) refl
  where
    by : (b : Bool) → nat_lt n 10 ≡ b → digit_value (cond b (n + 48) (n + 55)) ≡ n
    by true e = let low : n < 10 = ltb-true n 10 e in rw (lt-ltb (n + 48) 65 (omega (arith, low))) (omega arith)
    by false e = let high : 10 ≤ n = ltb-false n 10 e in rw (le-ltb (n + 55) 65 (omega (arith, high))) (omega arith)

two_digits : (b : ℕ) → b < 256 → 16 * digit_value (hex_digit (b / 16)) + digit_value (hex_digit (b % 16)) ≡ b
two_digits b small =
    let high : b / 16 < 16 = omega (arith, small) in
    let low : b % 16 < 16 = omega arith in
    rw (value_of_digit (b / 16) high, value_of_digit (b % 16) low) (omega arith)

not_percent : (b : ℕ) → is_kept b ≡ true → (b == 37) ≡ false
not_percent b kept = by (b == 37) refl
  where
    by : (c : Bool) → (b == 37) ≡ c → c ≡ false
    by true e = let clash : false ≡ true = subst (λ (n : ℕ). is_kept n ≡ true) (eqb-true b 37 e) kept in cc
    by false e = refl

-- a byte that is kept is written as it is
pub kept_byte : (b : ℕ) → is_kept b ≡ true → encoded_byte b ≡ b ∷ []
kept_byte b kept = rw kept refl

decodes_byte : (b : ℕ) (rest : List ℕ) → b < 256 → decoded (encoded_byte b ++ rest) ≡ b ∷ decoded rest
decodes_byte b rest small = by (is_kept b) refl
  where
    by : (k : Bool) → is_kept b ≡ k
        → decoded (cond k (b ∷ []) (37 ∷ (hex_digit (b / 16) ∷ (hex_digit (b % 16) ∷ []))) ++ rest) ≡ b ∷ decoded rest
    by true kept = rw (not_percent b kept) refl
    by false other = ap (λ (n : ℕ). n ∷ decoded rest) (two_digits b small)

pub is_decoded : IsDecoded
is_decoded [] small = refl
is_decoded (b ∷ path) small =
    decodes_byte b (encoded path) small.0 ∙ ap (λ (l : List ℕ). b ∷ l) (is_decoded path small.1)

-- ---- ways up

abbrev parents : List ℕ → List (List ℕ)
parents from = flat_map (λ b. cond (b == 47) (codes ".." ∷ []) []) from

ups_components : (from to : List ℕ) → components (ups from ++ to) ≡ parents from ++ components to
ups_components [] to = refl
ups_components (b ∷ from) to = by (b == 47) (ups_components from to)
  where
    by : (c : Bool) → components (ups from ++ to) ≡ parents from ++ components to
        → components ((cond c (codes "../") [] ++ ups from) ++ to)
        ≡ (cond c (codes ".." ∷ []) [] ++ parents from) ++ components to
    by true others = ap (λ (l : List (List ℕ)). codes ".." ∷ l) others
    by false others = others

parents_next : (b : ℕ) (from : List ℕ)
    → length (parents (b ∷ from)) ≡ cond (b == 47) (1 + length (parents from)) (length (parents from))
parents_next b from = by (b == 47)
  where
    by : (c : Bool) → length (cond c (codes ".." ∷ []) [] ++ parents from)
        ≡ cond c (1 + length (parents from)) (length (parents from))
    by true = omega arith
    by false = refl

length_parents : (from : List ℕ) → length (parents from) ≡ count_by (λ b. b == 47) from
length_parents from = is_count_by (λ (l : List ℕ). length (parents l)) (λ b. b == 47) refl parents_next from

are_parents : (from : List ℕ) → AllByRecursion (λ p. p ≡ codes "..") (parents from)
are_parents [] = tt
are_parents (b ∷ from) = by (b == 47) (are_parents from)
  where
    by : (c : Bool) → AllByRecursion (λ p. p ≡ codes "..") (parents from)
        → AllByRecursion (λ p. p ≡ codes "..") (cond c (codes ".." ∷ []) [] ++ parents from)
    by true others = (refl, others)
    by false others = others

without_last : {X : Type 0} (xs ys : List X) (y : X)
    → take (length (xs ++ y ∷ ys) - 1) (xs ++ y ∷ ys) ≡ xs ++ take (length (y ∷ ys) - 1) (y ∷ ys)
without_last [] ys y = refl
without_last (x ∷ xs) ys y =
    let more : length (x ∷ (xs ++ y ∷ ys)) - 1 ≡ suc (length (xs ++ y ∷ ys) - 1) =
    omega (arith, length-append xs (y ∷ ys)) in
    ap (λ (n : ℕ). take n (x ∷ (xs ++ y ∷ ys))) more ∙ ap (λ l. x ∷ l) (without_last xs ys y)

length_less : {X : Type 0} (y : X) (ys : List X) → length (take (length (y ∷ ys) - 1) (y ∷ ys)) ≡ length ys
length_less y ys = length-take-le (length (y ∷ ys) - 1) (y ∷ ys) (omega arith) ∙ omega arith

goes_back : (root dirs ps names : List (List ℕ)) → AllByRecursion (λ p. p ≡ codes "..") ps → length dirs ≡ length ps
    → entered_all (root ++ dirs) (ps ++ names) ≡ entered_all root names
goes_back root [] [] names all same = ap (λ (f : List (List ℕ)). entered_all f names) (append-nil root)
goes_back root (d ∷ dirs) [] names all same = absurd (omega (arith, same))
goes_back root [] (p ∷ ps) names all same = absurd (omega (arith, same))
goes_back root (d ∷ dirs) (p ∷ ps) names all same =
    ap (λ (q : List ℕ). entered_all (entered (root ++ d ∷ dirs) q) (ps ++ names)) all.0
    ∙ ap (λ (f : List (List ℕ)). entered_all f (ps ++ names)) (without_last root dirs d)
    ∙ goes_back root (take (length (d ∷ dirs) - 1) (d ∷ dirs)) ps names all.1 (omega (arith, length_less d dirs, same))

-- ---- paths that aren't absolute

relative_by : (a b c d : Bool)
    → (not a && not b && not c && not d) ≡ true → a ≡ false
relative_by true b c d e = absurd cc
relative_by false b c d e = refl

is_relative : (to : List ℕ) → is_path_below to ≡ true → starts_with nat_eq to (codes "/") ≡ false
is_relative to e = relative_by (starts_with nat_eq to (codes "/")) (has_name (codes "") to) (has_name (codes ".") to)
    (has_name (codes "..") to) e

ups_relative : (from to : List ℕ) → starts_with nat_eq to (codes "/") ≡ false
    → starts_with nat_eq (ups from ++ to) (codes "/") ≡ false
ups_relative [] to e = e
ups_relative (b ∷ from) to e = by (b == 47) (ups_relative from to e)
  where
    by : (c : Bool) → starts_with nat_eq (ups from ++ to) (codes "/") ≡ false
        → starts_with nat_eq ((cond c (codes "../") [] ++ ups from) ++ to) (codes "/") ≡ false
    by true others = refl
    by false others = others

length_folder : (from : List ℕ) → length (folder_of from) ≡ length (parents from)
length_folder from =
    length-take-le (length (components from) - 1) (components from) (omega arith)
    ∙ omega (arith, length-slice_split (λ (b : ℕ). b == 47) from, length_parents from)

pub leads_to_the_page : LeadsToThePage
leads_to_the_page root from to e =
    let relative : starts_with nat_eq to (codes "/") ≡ false = is_relative to e in
    let there : place_of root to ≡ entered_all root (components to) =
    ap (λ (b : Bool). entered_all (cond b [] root) (components to)) relative in
    ap (λ (b : Bool). entered_all (cond b [] (root ++ folder_of from)) (components (ups from ++ to)))
    (ups_relative from to relative)
    ∙ ap (entered_all (root ++ folder_of from)) (ups_components from to)
    ∙ goes_back root (folder_of from) (parents from) (components to) (are_parents from) (length_folder from)
    ∙ sym there
    ∙ stays_below root to e
