-- Ends of texts, and the nearest of sites.
use Rattle.std.proofs.Common.{◌≡◌, ℕ, zero, suc, ◌+◌, ◌-◌, ◌<◌, Bool, true, false, ◌&&◌, nat_eq, nat_le, max}
use Rattle.std.proofs.Common.{Some, List, [], ◌∷◌, ◌++◌, length, map, take, refl, sym, ◌∙◌, ap, ap₂, append_assoc}
use Rattle.std.proofs.Common.{arith, get_or, length-append, take_at}
use Rattle.std.specs.List.{ends_with, filter, list_all, AllZip}
use Rattle.std.proofs.lemmas.Bool.{and_from, and_parts}
use Rattle.std.proofs.lemmas.Bool.Decides.{Decides-eqb, nat_tests}
use Rattle.std.proofs.lemmas.List.Folds.{list_all-map, list_all_more}
use Rattle.std.proofs.lemmas.Slice.Eq.{ends_is}
use Rattle.basics.proofs.TestLemmas.{same_tests}
use Rattle.scip_records.specs.declared.records.Document.{Document}
use Rattle.scip_query.specs.Nearest.{greatest_below, nearest, nearness, nearness_listed, nearness_of}
use Rattle.scip_query.specs.Sites.{Site}
use Rattle.scip_query.specs.Tables.{path_or_none, symbol_listed, symbol_or_none}
use Rattle.scip_query.specs.Tables.Searches.{site_listed}
use Rattle.scip_query.specs.declared.place.Place.{Place}
use Rattle.scip_query.proofs.SiteLemmas.{stands}
use Rattle.scip_query.proofs.TableZipLemmas.{zip_filter}

-- ---- a text that ends with two, ends with the second behind the first

before : (xs b : List ℕ) → List ℕ
before xs b = take (length xs - length b) xs

ends_so : (xs front b : List ℕ) → xs ≡ front ++ b → ends_with nat_eq xs b ≡ true
ends_so xs front b e = (ends_is (λ x y. Decides-eqb x y) xs b (ends_with nat_eq xs b) refl).1 front e

parted : (xs b : List ℕ) → ends_with nat_eq xs b ≡ true → xs ≡ before xs b ++ b
unfolding before
parted xs b is = (ends_is (λ x y. Decides-eqb x y) xs b (ends_with nat_eq xs b) refl).0 is

left_before : (xs front b : List ℕ) → xs ≡ front ++ b → before xs b ≡ front
unfolding before
left_before xs front b e =
    ap (take (length xs - length b)) e
    ∙ take_at front b (length xs - length b) (omega (arith, ap length e, length-append front b))

pub ends_append : (xs a b : List ℕ)
    → ends_with nat_eq xs (a ++ b) ≡ (ends_with nat_eq xs b && ends_with nat_eq (take (length xs - length b) xs) a)
unfolding before
ends_append xs a b = same_tests _ _ to from where
  to : ends_with nat_eq xs (a ++ b) ≡ true
      → (ends_with nat_eq xs b && ends_with nat_eq (before xs b) a) ≡ true
  to is =
      let front = before xs (a ++ b) in
      let whole : xs ≡ (front ++ a) ++ b = parted xs (a ++ b) is ∙ sym (append_assoc front a b) in
      and_from _ _ (ends_so xs (front ++ a) b whole)
      (ends_so (before xs b) front a (left_before xs (front ++ a) b whole))

  from : (ends_with nat_eq xs b && ends_with nat_eq (before xs b) a) ≡ true
      → ends_with nat_eq xs (a ++ b) ≡ true
  from is =
      let both = and_parts _ _ is in
      let front = before (before xs b) a in
      ends_so xs front (a ++ b)
      (parted xs b both.0 ∙ ap (λ l. l ++ b) (parted (before xs b) a both.1) ∙ append_assoc front a b)

-- so it is by two tests, of which the second is made only if the first one passes
pub ends_then : (text a b front : List ℕ) (x y : Bool) → front ≡ take (length text - length b) text
    → x ≡ ends_with nat_eq text b → x ≡ true → y ≡ ends_with nat_eq front a → y ≡ ends_with nat_eq text (a ++ b)
ends_then text a b front x y is by passes also =
    also ∙ (ap (λ l. ends_with nat_eq l a) is
    ∙ sym (ends_append text a b
    ∙ ap (λ e. e && ends_with nat_eq (take (length text - length b) text) a) (sym by ∙ passes)))

pub ends_else : (text a b : List ℕ) (x : Bool) → x ≡ ends_with nat_eq text b → x ≡ false
    → x ≡ ends_with nat_eq text (a ++ b)
ends_else text a b x by fails =
    fails ∙ sym (ends_append text a b
    ∙ ap (λ e. e && ends_with nat_eq (take (length text - length b) text) a) (sym by ∙ fails))

-- ---- the greatest number

pub at_it : (holds : ℕ → Bool) (count : ℕ) → 0 < count → holds (count - 1) ≡ true → greatest_below holds count ≡ count
at_it holds zero some is = absurd (omega (arith, some))
at_it holds (suc n) some is =
    let same : n ≡ suc n - 1 = omega arith in
    rw (ap holds same ∙ is) refl

pub below_it : (holds : ℕ → Bool) (count : ℕ) → 0 < count → holds (count - 1) ≡ false
    → greatest_below holds (count - 1) ≡ greatest_below holds count
below_it holds zero some isnt = absurd (omega (arith, some))
below_it holds (suc n) some isnt =
    let same : n ≡ suc n - 1 = omega arith in
    let below : greatest_below holds (suc n) ≡ greatest_below holds n = rw (ap holds same ∙ isnt) refl in
    ap (greatest_below holds) (sym same) ∙ sym below

-- ---- the nearest

max_within : (a b n : ℕ) → nat_le (max a b) n ≡ (nat_le a n && nat_le b n)
max_within a b n = grind (arith, nat_tests)

pub one_more : (near : Place → ℕ) (places : List Place) (i : ℕ) (d : Place) (n greatest here now : ℕ)
    → i < length places → now ≡ max greatest here → here ≡ near (get_or places i d)
    → nat_le greatest n ≡ list_all (λ place. nat_le (near place) n) (take i places)
    → nat_le now n ≡ list_all (λ place. nat_le (near place) n) (take (i + 1) places)
one_more near places i d n greatest here now within is_max is_near so_far =
    ap (λ m. nat_le m n) is_max
    ∙ (max_within greatest here n
    ∙ (ap₂ ◌&&◌ so_far (ap (λ m. nat_le m n) is_near)
    ∙ sym (list_all_more (λ place. nat_le (near place) n) places i d within)))

-- by place as by site
module _ (documents : List Document) (asked : List ℕ) where
  abbrev Stand : Place → Site → Type 0
  Stand place site = site_listed documents place ≡ Some site

  near_alike : (place : Place) (site : Site) → Stand place site
      → nearness_listed documents asked place ≡ nearness_of asked site
  near_alike place site stand =
      let of = stands documents place site stand in
      ap (λ o. nearness asked (path_or_none o) (symbol_listed documents place)) of.document_is
      ∙ ap (λ o. nearness asked site.document.relative_path (symbol_or_none o)) of.listed

  all_alike : (places : List Place) (sites : List Site) → AllZip Stand places sites
      → map (nearness_listed documents asked) places ≡ map (nearness_of asked) sites
  all_alike [] [] all = refl
  all_alike [] (site ∷ sites) all = absurd all
  all_alike (place ∷ places) [] all = absurd all
  all_alike (place ∷ places) (site ∷ sites) all =
      ap (λ n. n ∷ map (nearness_listed documents asked) places) (near_alike place site all.0)
      ∙ ap (λ ns. nearness_of asked site ∷ ns) (all_alike places sites all.1)

  -- the nearest of places stand for the nearest of their sites
  pub nearest_stand : (places : List Place) (sites : List Site) → AllZip Stand places sites
      → AllZip Stand (filter (λ place. list_all (λ other. nat_le (nearness_listed documents asked other)
      (nearness_listed documents asked place)) places) places) (nearest asked sites)
  nearest_stand places sites all =
      zip_filter Stand (λ place. list_all (λ other. nat_le (listed other) (listed place)) places)
      (λ site. list_all (λ other. nat_le (nearness_of asked other) (nearness_of asked site)) sites) same places sites
      all
    where
      listed : Place → ℕ
      listed place = nearness_listed documents asked place

      same : (place : Place) (site : Site) → Stand place site
          → list_all (λ other. nat_le (listed other) (listed place)) places
          ≡ list_all (λ other. nat_le (nearness_of asked other) (nearness_of asked site)) sites
      same place site stand =
          sym (list_all-map (λ n. nat_le n (listed place)) listed places)
          ∙ (ap (list_all (λ n. nat_le n (listed place))) (all_alike places sites all)
          ∙ (list_all-map (λ n. nat_le n (listed place)) (nearness_of asked) sites
          ∙ ap (λ n. list_all (λ other. nat_le (nearness_of asked other) n) sites) (near_alike place site stand)))
