-- Groups of places by symbol, one after another in the order of their symbols, are a table of the places by symbol.
use Rattle.std.proofs.Common.{◌≡◌, ℕ, zero, suc, ◌+◌, ◌≤◌, ◌<◌, Bool, true, false, not, List, [], ◌∷◌, ◌++◌, length}
use Rattle.std.proofs.Common.{get_or, take, take_all, cond, refl, sym, ◌∙◌, ap, subst, arith, append-nil, Some}
use Rattle.std.specs.Prelude.{Vec, Option}
use Rattle.std.specs.Borrow.{Bor}
use Rattle.std.specs.Cmp.{IsStrictWeakOrder}
use Rattle.std.specs.Cmp.Lexicographic.{slice_cmp}
use Rattle.std.specs.HashMap.{HashMap, get_by, Updates}
use Rattle.std.specs.List.{filter, flat_map, AllByRecursion, IsDistinct}
use Rattle.std.specs.List.Sorted.{IsPermutation, IsSorted, IsSortedBy, ties}
use Rattle.std.specs.Map.{keys_of, values_of, lookup}
use Rattle.std.specs.Option.{option_map_or}
use Rattle.std.specs.Ordering.{nat_cmp, is_lt, on}
use Rattle.std.specs.Str.{bytes_eq}
use Rattle.std.proofs.lemmas.Cmp.{nat_list_cmp_total, nat_list_eq_equiv}
use Rattle.std.proofs.lemmas.List.{flat_map_more, take_more}
use Rattle.std.proofs.lemmas.List.Elements.{filter-append, filter_more}
use Rattle.std.proofs.lemmas.List.Sorted.{ranks_by, sorted_far, IsPermutation-refl, IsPermutation-trans}
use Rattle.std.proofs.lemmas.List.Sorted.{IsPermutation-append_right, IsPermutation-filter_both}
use Rattle.std.proofs.lemmas.Map.Text.{is_eq-slice_cmp, hash_map_updates_str}
use Rattle.std.proofs.lemmas.Slice.Eq.{bytes_eq-Decides}
use Rattle.scip_query.specs.Tables.{IsTable}
use Rattle.scip_query.specs.Tables.Groups.{gathered_at, AreGathered}
use Rattle.scip_query.proofs.RunLemmas.{tie}

same_text : (s : List ℕ) → bytes_eq s s ≡ true
same_text s = (bytes_eq-Decides s s).1 refl

-- ---- what passes one test or another

module _ {N : Type 0} (p q : N → Bool) where
  abbrev fails : N → Bool
  fails n = not (p n)

  passed_again : (xs : List N) → filter p (filter p xs) ≡ filter p xs
  passed_again [] = refl
  passed_again (x ∷ xs) = by (p x) refl (passed_again xs) where
    by : (b : Bool) → p x ≡ b → filter p (filter p xs) ≡ filter p xs
        → filter p (cond b (x ∷ filter p xs) (filter p xs)) ≡ cond b (x ∷ filter p xs) (filter p xs)
    by true e others =
        ap (λ b. cond b (x ∷ filter p (filter p xs)) (filter p (filter p xs))) e ∙ ap (λ l. x ∷ l) others
    by false e others = others

  failed_pass : (xs : List N) → filter p (filter fails xs) ≡ []
  failed_pass [] = refl
  failed_pass (x ∷ xs) = by (p x) refl (failed_pass xs) where
    by : (b : Bool) → p x ≡ b → filter p (filter fails xs) ≡ []
        → filter p (cond (not b) (x ∷ filter fails xs) (filter fails xs)) ≡ []
    by true e others = others
    by false e others = ap (λ b. cond b (x ∷ filter p (filter fails xs)) (filter p (filter fails xs))) e ∙ others

  module _ (apart : (n : N) → p n ≡ true → q n ≡ false) where
    apart_pass : (xs : List N) → filter q (filter p xs) ≡ []
    apart_pass [] = refl
    apart_pass (x ∷ xs) = by (p x) refl (apart_pass xs) where
      by : (b : Bool) → p x ≡ b → filter q (filter p xs) ≡ []
          → filter q (cond b (x ∷ filter p xs) (filter p xs)) ≡ []
      by true e others =
          ap (λ b. cond b (x ∷ filter q (filter p xs)) (filter q (filter p xs))) (apart x e) ∙ others
      by false e others = others

    apart_stay : (xs : List N) → filter q (filter fails xs) ≡ filter q xs
    apart_stay [] = refl
    apart_stay (x ∷ xs) = by (p x) refl (apart_stay xs) where
      by : (b : Bool) → p x ≡ b → filter q (filter fails xs) ≡ filter q xs
          → filter q (cond (not b) (x ∷ filter fails xs) (filter fails xs)) ≡ cond (q x) (x ∷ filter q xs) (filter q xs)
      by true e others = others ∙ sym (ap (λ b. cond b (x ∷ filter q xs) (filter q xs)) (apart x e))
      by false e others = ap (λ l. cond (q x) (x ∷ l) l) others

-- ---- those with a text

module _ {N : Type 0} (text_of : N → List ℕ) where
  abbrev has : List ℕ → N → Bool
  has s n = bytes_eq (text_of n) s

  abbrev others : List ℕ → List N → List N
  others s all = filter (λ n. not (has s n)) all

  has_text : (s : List ℕ) (n : N) → has s n ≡ true → text_of n ≡ s
  has_text s n e = (bytes_eq-Decides (text_of n) s).0 e

  has_other : (s t : List ℕ) → bytes_eq s t ≡ false → (n : N) → has s n ≡ true → has t n ≡ false
  has_other s t e n h = subst (λ u. bytes_eq u t ≡ false) (sym (has_text s n h)) e

  -- those with a text stand among those with another, and among the others
  parted : (s t : List ℕ) (all : List N)
      → filter (has t) (filter (has s) all) ++ filter (has t) (others s all) ≡ filter (has t) all
  parted s t all = by (bytes_eq s t) refl where
    by : (b : Bool) → bytes_eq s t ≡ b
        → filter (has t) (filter (has s) all) ++ filter (has t) (others s all) ≡ filter (has t) all
    by true e =
        subst (λ u. filter (has u) (filter (has s) all) ++ filter (has u) (others s all) ≡ filter (has u) all)
        ((bytes_eq-Decides s t).0 e)
        (ap (λ l. l ++ filter (has s) (others s all)) (passed_again (has s) (has s) all)
        ∙ ap (λ l. filter (has s) all ++ l) (failed_pass (has s) (has s) all) ∙ append-nil (filter (has s) all))
    by false e =
        ap (λ l. l ++ filter (has t) (others s all)) (apart_pass (has s) (has t) (has_other s t e) all)
        ∙ apart_stay (has s) (has t) (has_other s t e) all

  all_have : (s : List ℕ) (all : List N) → AllByRecursion (λ n. text_of n ≡ s) (filter (has s) all)
  all_have s [] = tt
  all_have s (x ∷ xs) = by (has s x) refl (all_have s xs) where
    by : (b : Bool) → has s x ≡ b → AllByRecursion (λ n. text_of n ≡ s) (filter (has s) xs)
        → AllByRecursion (λ n. text_of n ≡ s) (cond b (x ∷ filter (has s) xs) (filter (has s) xs))
    by true e rest = (has_text s x e, rest)
    by false e rest = rest

  -- ---- their order

  abbrev below : N → N → Bool
  below a b = is_lt (slice_cmp nat_cmp (text_of a) (text_of b))

  abbrev AreFrom : List ℕ → List N → Type 0
  AreFrom s = AllByRecursion (λ n. is_lt (slice_cmp nat_cmp (text_of n) s) ≡ false)

  itself : (s : List ℕ) → is_lt (slice_cmp nat_cmp s s) ≡ false
  itself s = by (is_lt (slice_cmp nat_cmp s s)) refl where
    by : (b : Bool) → is_lt (slice_cmp nat_cmp s s) ≡ b → is_lt (slice_cmp nat_cmp s s) ≡ false
    by true e = (ranks_by nat_list_cmp_total (λ (t : List ℕ). t)).one_way s s e
    by false e = e

  from_joined : (s u : List ℕ) (xs ys : List N) → is_lt (slice_cmp nat_cmp u s) ≡ false
      → AllByRecursion (λ n. text_of n ≡ u) xs → AreFrom s ys → AreFrom s (xs ++ ys)
  from_joined s u [] ys low named from = from
  from_joined s u (x ∷ xs) ys low named from = (
    subst (λ v. is_lt (slice_cmp nat_cmp v s) ≡ false) (sym named.0) low,
    from_joined s u xs ys low named.1 from,
  )

  sorted_cons : (x : N) (xs : List N) → AreFrom (text_of x) xs → IsSortedBy below xs → IsSortedBy below (x ∷ xs)
  sorted_cons x [] from sorted = λ k d low high. absurd (omega (arith, high))
  sorted_cons x (y ∷ ys) from sorted = next where
    next : (k : ℕ) (d : N) → zero ≤ k → k + 1 < length (x ∷ y ∷ ys)
        → below (get_or (x ∷ y ∷ ys) (k + 1) d) (get_or (x ∷ y ∷ ys) k d) ≡ false
    next zero d low high = from.0
    next (suc k) d low high =
        let one : suc (k + 1) ≡ suc k + 1 = omega arith in
        subst (λ (m : ℕ). below (get_or (x ∷ y ∷ ys) m d) (get_or (y ∷ ys) k d) ≡ false) one
        (sorted k d (omega arith) (omega (arith, high)))

  -- those with a text, and behind them what isn't less
  sorted_behind : (s : List ℕ) (xs ys : List N) → AllByRecursion (λ n. text_of n ≡ s) xs → IsSortedBy below ys
      → AreFrom s ys → IsSortedBy below (xs ++ ys)
  sorted_behind s [] ys named sorted from = sorted
  sorted_behind s (x ∷ xs) ys named sorted from =
      sorted_cons x (xs ++ ys)
      (subst (λ v. AreFrom v (xs ++ ys)) (sym named.0) (from_joined s s xs ys (itself s) named.1 from))
      (sorted_behind s xs ys named.1 sorted from)

  -- who ties with one has its text
  tied : (x n : N) → ties below x n ≡ has (text_of x) n
  tied x n =
      tie nat_list_cmp_total text_of (text_of x) x
      (is_eq-slice_cmp (text_of x) (text_of x) ∙ same_text (text_of x)) n
      ∙ is_eq-slice_cmp (text_of n) (text_of x)

  -- ---- groups

  module _ {E : Type 0} (name : E → List ℕ) (items : E → List N) where
    abbrev AreGroups : List E → List N → Type 0
    AreGroups [] all = all ≡ []
    AreGroups (e ∷ es) all = (items e ≡ filter (has (name e)) all) × AreGroups es (others (name e) all)

    abbrev Rise : List E → Type 0
    Rise [] = Unit {0}
    Rise (e ∷ es) = AllByRecursion (λ f. is_lt (slice_cmp nat_cmp (name f) (name e)) ≡ false) es × Rise es

    abbrev AreApart : List E → Type 0
    AreApart [] = Unit {0}
    AreApart (e ∷ es) = AllByRecursion (λ f. bytes_eq (name e) (name f) ≡ false) es × AreApart es

    abbrev listed : List E → List ℕ → List N
    listed [] s = []
    listed (e ∷ es) s = cond (bytes_eq s (name e)) (items e) (listed es s)

    joined_permutation : (es : List E) (all : List N) → AreGroups es all → IsPermutation all (flat_map items es)
    joined_permutation [] all groups = subst (λ l. IsPermutation l []) (sym groups) (IsPermutation-refl [])
    joined_permutation (e ∷ es) all groups =
        let first = filter (has (name e)) all in
        let rest = others (name e) all in
        IsPermutation-trans all (first ++ rest) (items e ++ flat_map items es)
        (IsPermutation-filter_both (has (name e)) (λ n. not (has (name e) n)) (λ n. refl) all)
        (subst (λ l. IsPermutation (first ++ rest) (l ++ flat_map items es)) (sym groups.0)
        (IsPermutation-append_right first rest (flat_map items es) (joined_permutation es rest groups.1)))

    joined_kept : (t : List ℕ) (es : List E) (all : List N) → AreGroups es all
        → filter (has t) (flat_map items es) ≡ filter (has t) all
    joined_kept t [] all groups = ap (filter (has t)) (sym groups)
    joined_kept t (e ∷ es) all groups =
        filter-append (has t) (items e) (flat_map items es)
        ∙ ap (λ l. filter (has t) l ++ filter (has t) (flat_map items es)) groups.0
        ∙ ap (λ l. filter (has t) (filter (has (name e)) all) ++ l)
        (joined_kept t es (others (name e) all) groups.1)
        ∙ parted (name e) t all

    joined_from : (s : List ℕ) (es : List E) (all : List N) → AreGroups es all
        → AllByRecursion (λ f. is_lt (slice_cmp nat_cmp (name f) s) ≡ false) es → AreFrom s (flat_map items es)
    joined_from s [] all groups low = tt
    joined_from s (e ∷ es) all groups low =
        subst (λ l. AreFrom s (l ++ flat_map items es)) (sym groups.0)
        (from_joined s (name e) (filter (has (name e)) all) (flat_map items es) low.0 (all_have (name e) all)
        (joined_from s es (others (name e) all) groups.1 low.1))

    joined_sorted : (es : List E) (all : List N) → AreGroups es all → Rise es → IsSortedBy below (flat_map items es)
    joined_sorted [] all groups rise = λ k d low high. absurd (omega (arith, high))
    joined_sorted (e ∷ es) all groups rise =
        subst (λ l. IsSortedBy below (l ++ flat_map items es)) (sym groups.0)
        (sorted_behind (name e) (filter (has (name e)) all) (flat_map items es) (all_have (name e) all)
        (joined_sorted es (others (name e) all) groups.1 rise.1)
        (joined_from (name e) es (others (name e) all) groups.1 rise.0))

    absent : (s : List ℕ) (es : List E) → AllByRecursion (λ f. bytes_eq s (name f) ≡ false) es → listed es s ≡ []
    absent s [] apart = refl
    absent s (e ∷ es) apart = ap (λ b. cond b (items e) (listed es s)) apart.0 ∙ absent s es apart.1

    none_left : (all : List N) → ((s : List ℕ) → [] ≡ filter (has s) all) → all ≡ []
    none_left [] is = refl
    none_left (x ∷ xs) is =
        let s = text_of x in
        let clash : [] ≡ x ∷ filter (has s) xs =
        is s ∙ ap (λ b. cond b (x ∷ filter (has s) xs) (filter (has s) xs)) (same_text s) in absurd cc

    -- what a map lists at each text are groups
    listed_groups : (es : List E) (all : List N) → AreApart es → ((s : List ℕ) → listed es s ≡ filter (has s) all)
        → AreGroups es all
    listed_groups [] all apart is = none_left all is
    listed_groups (e ∷ es) all apart is = (
      sym (ap (λ b. cond b (items e) (listed es (name e))) (same_text (name e))) ∙ is (name e),
      listed_groups es (others (name e) all) apart.1 (λ s. rest s (bytes_eq s (name e)) refl (is s)),
    )
      where
        rest : (s : List ℕ) (b : Bool) → bytes_eq s (name e) ≡ b
            → cond b (items e) (listed es s) ≡ filter (has s) all
            → listed es s ≡ filter (has s) (others (name e) all)
        rest s true same its =
            subst (λ u. listed es u ≡ filter (has u) (others (name e) all)) (sym ((bytes_eq-Decides s (name e)).0 same))
            (absent (name e) es apart.0 ∙ sym (failed_pass (has (name e)) (has (name e)) all))
        rest s false other its =
            its ∙ sym (apart_stay (has (name e)) (has s)
            (has_other (name e) s (nat_list_eq_equiv.symm (name e) s ∙ other)) all)

    joined_table : (es : List E) (all : List N) → AreGroups es all → Rise es
        → IsTable (on text_of (slice_cmp nat_cmp)) all (flat_map items es)
    joined_table es all groups rise = record {
      permutation = joined_permutation es all groups;
      sorted = joined_sorted es all groups rise;
      stable = λ x. (λ i. filter (λ n. tied x n i) (flat_map items es)) ∙ joined_kept (text_of x) es all groups
          ∙ (λ i. filter (λ n. sym (tied x n) i) all);
    }

-- ---- groups of a map

abbrev pub key_eq : Bor (List ℕ) → Bor (List ℕ) → Bool
key_eq a b = bytes_eq a.now b.now

abbrev name : {V : Type 0} → Bor (List ℕ) × V → List ℕ
name e = e.0.now

key_order : IsStrictWeakOrder (λ (a b : Bor (List ℕ)). is_lt (slice_cmp nat_cmp a.now b.now))
key_order = ranks_by nat_list_cmp_total (λ (key : Bor (List ℕ)). key.now)

module _ {N V : Type 0} (text_of : N → List ℕ) (items : Bor (List ℕ) × V → List N) where
  name_apart : (e : Bor (List ℕ) × V) (es : List (Bor (List ℕ) × V))
      → AllByRecursion (λ key. key_eq e.0 key ≡ false) (keys_of es)
      → AllByRecursion (λ f. bytes_eq (name e) (name f) ≡ false) es
  name_apart e [] apart = tt
  name_apart e (f ∷ es) apart = (apart.0, name_apart e es apart.1)

  names_apart : (es : List (Bor (List ℕ) × V)) → IsDistinct key_eq (keys_of es) → AreApart text_of name items es
  unfolding IsDistinct
  names_apart [] distinct = tt
  names_apart (e ∷ es) distinct = (name_apart e es distinct.0, names_apart es distinct.1)

  name_rises : (e : Bor (List ℕ) × V) (es : List (Bor (List ℕ) × V))
      → ((j : ℕ) (d : Bor (List ℕ)) → j < length (keys_of es)
      → is_lt (slice_cmp nat_cmp (get_or (keys_of es) j d).now (name e)) ≡ false)
      → AllByRecursion (λ f. is_lt (slice_cmp nat_cmp (name f) (name e)) ≡ false) es
  name_rises e [] later = tt
  name_rises e (f ∷ es) later =
      (later zero f.0 (omega arith), name_rises e es (λ j d inside. later (suc j) d (omega arith)))

  names_rise : (es : List (Bor (List ℕ) × V))
      → ((i j : ℕ) (d : Bor (List ℕ)) → i ≤ j → j < length (keys_of es)
      → is_lt (slice_cmp nat_cmp (get_or (keys_of es) j d).now (get_or (keys_of es) i d).now) ≡ false)
      → Rise text_of name items es
  names_rise [] later = tt
  names_rise (e ∷ es) later = (
    name_rises e es (λ j d inside. later zero (suc j) d (omega arith) (omega arith)),
    names_rise es (λ i j d before inside. later (suc i) (suc j) d (omega arith) (omega arith)),
  )

abbrev list_of : {N A : Type 0} → Vec N A → List N
list_of v = v.items

abbrev entry_list : {N A : Type 0} → Bor (List ℕ) × Vec N A → List N
entry_list e = e.1.items

abbrev found_in : {N A : Type 0} → List (Bor (List ℕ) × Vec N A) → List ℕ → List N
found_in es s = option_map_or list_of (lookup (λ (key : Bor (List ℕ)). bytes_eq s key.now) es) []

values_joined : {N A : Type 0} (es : List (Bor (List ℕ) × Vec N A))
    → flat_map (λ (v : Vec N A). v.items) (values_of es) ≡ flat_map entry_list es
values_joined [] = refl
values_joined (e ∷ es) = ap (λ l. e.1.items ++ l) (values_joined es)

module _ {N A : Type 0} (symbol_of : N → List ℕ) where
  found_listed : (es : List (Bor (List ℕ) × Vec N A)) (s : List ℕ)
      → found_in es s ≡ listed symbol_of name entry_list es s
  found_listed [] s = refl
  found_listed (e ∷ es) s = by (bytes_eq s e.0.now) (found_listed es s) where
    by : (b : Bool) → found_in es s ≡ listed symbol_of name entry_list es s
        → option_map_or list_of (cond b (Some e.1) (lookup (λ (key : Bor (List ℕ)). bytes_eq s key.now) es)) []
        ≡ cond b e.1.items (listed symbol_of name entry_list es s)
    by true rest = refl
    by false rest = rest

  -- the lists of a map's entries that are sorted, one after another
  pub lists_are_table : (places table : List N) (old new : List (Bor (List ℕ) × Vec N A))
      → AreGathered symbol_of places (found_in old)
      → ((key : Bor (List ℕ)) → lookup (key_eq key) new ≡ lookup (key_eq key) old)
      → IsSorted (λ (a b : Bor (List ℕ)). slice_cmp nat_cmp a.now b.now) (keys_of new)
      → IsDistinct key_eq (keys_of new) → table ≡ flat_map (λ (v : Vec N A). v.items) (values_of new)
      → IsTable (on symbol_of (slice_cmp nat_cmp)) places table
  lists_are_table places table old new gathered reordered rising unique joined =
      let here : (s : List ℕ) → found_in new s ≡ filter (λ n. bytes_eq (symbol_of n) s) places =
      λ s. ap (λ found. option_map_or list_of found []) (reordered (record { ref_ptr = (0, 0); now = s }))
      ∙ gathered s in
      subst (IsTable (on symbol_of (slice_cmp nat_cmp)) places) (sym (joined ∙ values_joined new))
      (joined_table symbol_of name entry_list new places
      (listed_groups symbol_of name entry_list new places (names_apart symbol_of entry_list new unique)
      (λ s. sym (found_listed new s) ∙ here s))
      (names_rise symbol_of entry_list new (λ i j d before inside.
      sorted_far (λ (a b : Bor (List ℕ)). is_lt (slice_cmp nat_cmp a.now b.now)) key_order (keys_of new) rising i j d
      before inside)))

-- nothing is gathered yet
pub none_gathered : {N A : Type 0} (symbol_of : N → List ℕ) (entries : List (Bor (List ℕ) × Vec N A))
    → entries ≡ [] → AreGathered symbol_of [] (found_in entries)
none_gathered symbol_of entries empty = λ symbol. ap (λ es. found_in es symbol) empty

-- one more place is listed at its symbol
pub listed_more : {N A S : Type 0} (old new : HashMap (Bor (List ℕ)) (Vec N A) S) (symbol : Bor (List ℕ))
    (now : Vec N A) (place : N) → Updates key_eq old new symbol (Some now)
    → now.items ≡ gathered_at old symbol.now ++ place ∷ [] → (other : List ℕ)
    → gathered_at new other
    ≡ cond (bytes_eq symbol.now other) (gathered_at old other ++ place ∷ []) (gathered_at old other)
listed_more {N} {A} old new symbol now place updates its other =
    ap (λ (found : Option (Vec N A)). option_map_or list_of found [])
    (hash_map_updates_str symbol.now old new (Some now) updates other) ∙ by (bytes_eq symbol.now other) refl
  where
    by : (b : Bool) → bytes_eq symbol.now other ≡ b
        → option_map_or list_of
        (cond b (Some now) (get_by (λ (key : Bor (List ℕ)). bytes_eq other key.now) old)) []
        ≡ cond b (gathered_at old other ++ place ∷ []) (gathered_at old other)
    by true e = its ∙ ap (λ s. gathered_at old s ++ place ∷ []) ((bytes_eq-Decides symbol.now other).0 e)
    by false e = refl

-- one more place is gathered
pub gathered_more : {N : Type 0} (symbol_of : N → List ℕ) (old new : List ℕ → List N) (all : List N) (i : ℕ) (d : N)
    (symbol : List ℕ) → i < length all → symbol ≡ symbol_of (get_or all i d)
    → AreGathered symbol_of (take i all) old
    → ((other : List ℕ) → new other ≡ cond (bytes_eq symbol other) (old other ++ get_or all i d ∷ []) (old other))
    → AreGathered symbol_of (take (i + 1) all) new
gathered_more {N} symbol_of old new all i d symbol inside named gathered more other =
    more other ∙ ap (λ l. cond (bytes_eq symbol other) (l ++ place ∷ []) l) (gathered other)
    ∙ by (bytes_eq (symbol_of place) other) (ap (λ s. bytes_eq s other) named) ∙ sym (filter_more p all i d inside)
  where
    p : N → Bool
    p n = bytes_eq (symbol_of n) other

    place : N
    place = get_or all i d

    by : (b : Bool) → bytes_eq symbol other ≡ b
        → cond (bytes_eq symbol other) (filter p (take i all) ++ place ∷ []) (filter p (take i all))
        ≡ filter p (take i all) ++ cond b (place ∷ []) []
    by true e = ap (λ b. cond b (filter p (take i all) ++ place ∷ []) (filter p (take i all))) e
    by false e =
        ap (λ b. cond b (filter p (take i all) ++ place ∷ []) (filter p (take i all))) e
        ∙ sym (append-nil (filter p (take i all)))

-- all places are gathered
pub gathered_all : {N : Type 0} (symbol_of : N → List ℕ) (gathered : List ℕ → List N) (all : List N) (i : ℕ)
    → length all ≤ i → AreGathered symbol_of (take i all) gathered → AreGathered symbol_of all gathered
gathered_all symbol_of gathered all i whole its =
    subst (λ places. AreGathered symbol_of places gathered) (take_all i all whole) its

-- one more list is appended
pub lists_more : {N A : Type 0} (front old new : List N) (all : List (Vec N A)) (i : ℕ) (list : Vec N A)
    → i < length all → list ≡ get_or all i list → old ≡ front ++ flat_map (λ (v : Vec N A). v.items) (take i all)
    → new ≡ old ++ list.items → new ≡ front ++ flat_map (λ (v : Vec N A). v.items) (take (i + 1) all)
lists_more {N} {A} front old new all i list inside is before more =
    let items : Vec N A → List N = λ v. v.items in
    more ∙ ap (λ l. l ++ list.items) before ∙ flat_map_more items front (take i all) list
    ∙ ap (λ l. front ++ flat_map items l) (sym (take_more all i list inside
    ∙ ap (λ d. take i all ++ d ∷ []) (sym is)))

-- lists that are appended to nothing
pub appended_to_none : {N A : Type 0} {table new old : List N} {lists all : List (Vec N A)} → table ≡ new
    → new ≡ old ++ flat_map (λ (v : Vec N A). v.items) lists → old ≡ [] → lists ≡ all
    → table ≡ flat_map (λ (v : Vec N A). v.items) all
appended_to_none {N} {A} {lists = lists} is joined none whole =
    is ∙ joined ∙ ap (λ l. l ++ flat_map (λ (v : Vec N A). v.items) lists) none
    ∙ ap (flat_map (λ (v : Vec N A). v.items)) whole

-- the same of an equal list
pub gathered_same : {N : Type 0} (symbol_of : N → List ℕ) {these those : List N} {gathered : List ℕ → List N}
    → these ≡ those → AreGathered symbol_of these gathered → AreGathered symbol_of those gathered
gathered_same symbol_of {gathered = gathered} is its =
    subst (λ places. AreGathered symbol_of places gathered) is its
