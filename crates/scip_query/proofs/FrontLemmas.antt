-- Fronts: sorted texts that begin as another does, narrowed by what is behind, and the first of them.
use Rattle.std.proofs.Common.{◌≡◌, ℕ, zero, suc, ◌+◌, ◌<◌, ◌≤◌, ◌==◌, Bool, true, false, not, ◌&&◌, List, [], ◌∷◌, length, take}
use Rattle.std.proofs.Common.{drop, map, get_or, refl, sym, ◌∙◌, ap, subst, arith, cond}
use Rattle.std.specs.Borrow.{Bor}
use Rattle.std.specs.Cmp.Lexicographic.{slice_cmp}
use Rattle.std.specs.List.{filter, list_any, All}
use Rattle.std.specs.List.Sorted.{IsSorted}
use Rattle.std.specs.Ordering.{nat_cmp, ordering_index, ordering_then, is_lt, is_eq}
use Rattle.std.specs.declared.cmp.Ordering.{Ordering}
use Rattle.std.specs.declared.cmp.Ordering.TheVariants.{Less, Equal, Greater}
use Rattle.std.specs.Str.{bytes_eq}
use Rattle.std.proofs.lemmas.Bool.Decides.{nat_tests}
use Rattle.std.proofs.lemmas.Cmp.{nat_list_cmp_total}
use Rattle.std.proofs.lemmas.List.{length-take-le, take-take, take_all}
use Rattle.std.proofs.lemmas.List.Elements.{filter_agree, filter_passes}
use Rattle.std.proofs.lemmas.List.Kept.{IsNonDecreasingBy-filter}
use Rattle.std.proofs.lemmas.Map.Text.{is_eq-slice_cmp}
use Rattle.std.proofs.lemmas.Slice.Eq.{bytes_eq-Decides}
use Rattle.scip_records.specs.declared.records.Document.{Document}
use Rattle.scip_query.specs.CommandViews.{text_of}
use Rattle.scip_query.specs.Outline.{is_defined}
use Rattle.scip_query.specs.Tables.Outlines.{AreDefinedIn, BeginIn, text_cmp, begins}
use Rattle.scip_query.specs.Tables.Runs.{Rises}
use Rattle.scip_query.proofs.RunLemmas.{all_fail, equal_first, equal_is, kept_order, sorted_rises}
use Rattle.scip_query.proofs.OutlineLemmas.{some_found}

-- ---- orders, a front at a time

then_assoc : (p q r : Ordering) → ordering_then p (ordering_then q r) ≡ ordering_then (ordering_then p q) r
then_assoc Less q r = refl
then_assoc Equal q r = refl
then_assoc Greater q r = refl

eq_then : (p q : Ordering) → is_eq (ordering_then p q) ≡ (is_eq p && is_eq q)
eq_then Less q = refl
eq_then Equal q = refl
eq_then Greater q = refl

-- two texts compare as their fronts do, then as what is behind
front_then : (n : ℕ) (a b : List ℕ) → slice_cmp nat_cmp a b
    ≡ ordering_then (slice_cmp nat_cmp (take n a) (take n b)) (slice_cmp nat_cmp (drop n a) (drop n b))
front_then zero a b = refl
front_then (suc n) [] [] = refl
front_then (suc n) [] (y ∷ b) = refl
front_then (suc n) (x ∷ a) [] = refl
front_then (suc n) (x ∷ a) (y ∷ b) =
    ap (ordering_then (nat_cmp x y)) (front_then n a b)
    ∙ then_assoc (nat_cmp x y) (slice_cmp nat_cmp (take n a) (take n b)) (slice_cmp nat_cmp (drop n a) (drop n b))

-- the fronts are in the order of the texts
front_keeps : (n : ℕ) (a b : List ℕ) → is_lt (slice_cmp nat_cmp a b) ≡ false
    → is_lt (slice_cmp nat_cmp (take n a) (take n b)) ≡ false
front_keeps n a b later = by (slice_cmp nat_cmp (take n a) (take n b)) refl where
  by : (r : Ordering) → slice_cmp nat_cmp (take n a) (take n b) ≡ r → is_lt r ≡ false
  by Less is =
      let less : slice_cmp nat_cmp a b ≡ Less =
      front_then n a b ∙ ap (λ r. ordering_then r (slice_cmp nat_cmp (drop n a) (drop n b))) is in
      let clash : true ≡ false = sym (ap is_lt less) ∙ later in
      absurd cc
  by Equal is = refl
  by Greater is = refl

-- what is between two bytes
abbrev pub between : (from end : ℕ) → List ℕ → List ℕ
between from end text = drop from (take end text)

longer_then : (from end : ℕ) (a b : List ℕ) → from ≤ end → slice_cmp nat_cmp (take end a) (take end b)
    ≡ ordering_then (slice_cmp nat_cmp (take from a) (take from b))
    (slice_cmp nat_cmp (between from end a) (between from end b))
longer_then from end a b up =
    front_then from (take end a) (take end b)
    ∙ ap (λ l. ordering_then (slice_cmp nat_cmp l (take from (take end b)))
    (slice_cmp nat_cmp (between from end a) (between from end b))) (take-take from end a up)
    ∙ ap (λ l. ordering_then (slice_cmp nat_cmp (take from a) l)
    (slice_cmp nat_cmp (between from end a) (between from end b))) (take-take from end b up)

-- a text isn't before its front
front_first : (n : ℕ) (a : List ℕ) → is_lt (slice_cmp nat_cmp a (take n a)) ≡ false
front_first zero [] = refl
front_first zero (x ∷ a) = refl
front_first (suc n) [] = refl
front_first (suc n) (x ∷ a) =
    ap (λ r. is_lt (ordering_then r (slice_cmp nat_cmp a (take n a)))) (same x) ∙ front_first n a where
      same : (y : ℕ) → nat_cmp y y ≡ Equal
      same y = grind (arith, nat_tests)

-- ---- filters

filter_twice : {X : Type 0} (p q r : X → Bool) → ((x : X) → r x ≡ (p x && q x)) → (xs : List X)
    → filter q (filter p xs) ≡ filter r xs
filter_twice p q r both [] = refl
filter_twice p q r both (x ∷ xs) = by (filter_twice p q r both xs) (p x) refl (q x) refl where
  by : filter q (filter p xs) ≡ filter r xs → (a : Bool) → p x ≡ a → (b : Bool) → q x ≡ b
      → filter q (filter p (x ∷ xs)) ≡ filter r (x ∷ xs)
  by rest true e true f = rw (both x, e, f) (ap (λ l. x ∷ l) rest)
  by rest true e false f = rw (both x, e, f) rest
  by rest false e b f = rw (both x, e) rest

-- ---- narrowing

module _ (symbol : List ℕ) (from end : ℕ) (up : from ≤ end) where
  abbrev piece_to : Bor (List ℕ) → Ordering
  piece_to b = slice_cmp nat_cmp (between from end b.now) (between from end symbol)

  begins_more : (b : Bor (List ℕ)) → begins symbol end b.now ≡ (begins symbol from b.now && is_eq (piece_to b))
  begins_more b =
      sym (is_eq-slice_cmp (take end b.now) (take end symbol))
      ∙ ap is_eq (longer_then from end b.now symbol up)
      ∙ eq_then (slice_cmp nat_cmp (take from b.now) (take from symbol)) (piece_to b)
      ∙ ap (λ t. t && is_eq (piece_to b)) (is_eq-slice_cmp (take from b.now) (take from symbol))

  pub begin_more : (table : List (Bor (List ℕ)))
      → filter (λ b. is_eq (piece_to b)) (filter (λ (b : Bor (List ℕ)). begins symbol from b.now) table)
      ≡ filter (λ (b : Bor (List ℕ)). begins symbol end b.now) table
  begin_more table =
      filter_twice (λ (b : Bor (List ℕ)). begins symbol from b.now) (λ b. is_eq (piece_to b))
      (λ (b : Bor (List ℕ)). begins symbol end b.now) begins_more table

  -- where the fronts are alike, what is behind compares as both do
  piece_is : (b : Bor (List ℕ)) → begins symbol from b.now ≡ true
      → slice_cmp nat_cmp (take end b.now) (take end symbol) ≡ piece_to b
  piece_is b same =
      longer_then from end b.now symbol up
      ∙ ap (λ r. ordering_then r (piece_to b))
      (equal_is (slice_cmp nat_cmp (take from b.now) (take from symbol))
      (is_eq-slice_cmp (take from b.now) (take from symbol) ∙ same))

  fronts_rise : (table : List (Bor (List ℕ))) → IsSorted text_cmp table
      → Rises (λ (b : Bor (List ℕ)). slice_cmp nat_cmp (take end b.now) (take end symbol)) table
  fronts_rise table sorted =
      sorted_rises nat_list_cmp_total (λ (b : Bor (List ℕ)). take end b.now) table
      (λ k d low high. front_keeps end (get_or table (k + 1) d).now (get_or table k d).now (sorted k d low high))
      (take end symbol)

  pub pieces_rise : (table run : List (Bor (List ℕ))) → IsSorted text_cmp table
      → run ≡ filter (λ (b : Bor (List ℕ)). begins symbol from b.now) table → Rises piece_to run
  pieces_rise table run sorted are i j d before inside =
      let p = λ (b : Bor (List ℕ)). begins symbol from b.now in
      let to = λ (b : Bor (List ℕ)). slice_cmp nat_cmp (take end b.now) (take end symbol) in
      let up : Rises to run =
      rw are (IsNonDecreasingBy-filter (λ b. ordering_index (to b)) p table (fronts_rise table sorted)) in
      let all : All (λ b. p b ≡ true) run = rw are (filter_passes p table) in
      rw (
        sym (piece_is (get_or run i d) (all i d (omega (arith, before, inside)))),
        sym (piece_is (get_or run j d) (all j d inside)),
      ) (up i j d before inside)

pub narrowed_is : (d : Document) (symbol : List ℕ) (from end : ℕ) (piece : List ℕ) (run narrow : List (Bor (List ℕ)))
    → from ≤ end → piece ≡ between from end symbol
    → (Rises (λ (b : Bor (List ℕ)). slice_cmp nat_cmp (between from end b.now) piece) run
    → narrow ≡ filter (λ (b : Bor (List ℕ)). is_eq (slice_cmp nat_cmp (between from end b.now) piece)) run)
    → BeginIn d symbol from run → BeginIn d symbol end narrow
narrowed_is d symbol from end piece run narrow up is found begun =
    let there = subst (λ l. Rises (λ (b : Bor (List ℕ)). slice_cmp nat_cmp (between from end b.now) l) run
    → narrow ≡ filter (λ (b : Bor (List ℕ)). is_eq (slice_cmp nat_cmp (between from end b.now) l)) run) is found in
    let piece_cmp = λ (b : Bor (List ℕ)). slice_cmp nat_cmp (between from end b.now) (between from end symbol) in
    record {
      table = begun.table;
      defined = begun.defined;
      are = there (pieces_rise symbol from end up begun.table run begun.defined.sorted.sorted begun.are)
          ∙ ap (filter (λ b. is_eq (piece_cmp b))) begun.are ∙ begin_more symbol from end up begun.table;
    }

-- all begin with nothing
pub all_begin : (d : Document) (symbol : List ℕ) (table : List (Bor (List ℕ))) → AreDefinedIn d table
    → BeginIn d symbol 0 table
all_begin d symbol table defined = record {
  table = table;
  defined = defined;
  are = all_kept table;
}
  where
    all_kept : (xs : List (Bor (List ℕ))) → xs ≡ filter (λ (b : Bor (List ℕ)). begins symbol 0 b.now) xs
    all_kept [] = refl
    all_kept (x ∷ xs) = ap (λ l. x ∷ l) (all_kept xs)

-- ---- the first

abbrev pub ends_first : ℕ → List (Bor (List ℕ)) → Bool
ends_first end [] = false
ends_first end (x ∷ run) = length x.now == end

pub ends_none : (end : ℕ) (run : List (Bor (List ℕ))) → length run ≤ 0 → ends_first end run ≡ false
ends_none end [] none = refl
ends_none end (x ∷ run) none = absurd (omega (arith, none))

pub ends_some : (end : ℕ) (run : List (Bor (List ℕ))) (d : Bor (List ℕ)) → 1 ≤ length run
    → ends_first end run ≡ (length (get_or run 0 d).now == end)
ends_some end [] d some = absurd (omega (arith, some))
ends_some end (x ∷ run) d some = refl

module _ (symbol : List ℕ) (end : ℕ) (inside : end ≤ length symbol) where
  abbrev is_front : Bor (List ℕ) → Bool
  is_front b = is_eq (slice_cmp nat_cmp b.now (take end symbol))

  front_begins : (b : Bor (List ℕ)) → is_front b ≡ (begins symbol end b.now && is_front b)
  front_begins b = by (is_front b) refl where
    by : (t : Bool) → is_front b ≡ t → t ≡ (begins symbol end b.now && t)
    by true is =
        let same : b.now ≡ take end symbol =
        (bytes_eq-Decides b.now (take end symbol)).0 (sym (is_eq-slice_cmp b.now (take end symbol)) ∙ is) in
        let front : take end b.now ≡ take end symbol =
        ap (take end) same ∙ take-take end end symbol (omega arith) in
        sym (ap (λ t. t && true) ((bytes_eq-Decides (take end b.now) (take end symbol)).1 front))
    by false is = by_begins (begins symbol end b.now) where
      by_begins : (t : Bool) → false ≡ (t && false)
      by_begins true = refl
      by_begins false = refl

  -- who begins with the front is the front where it ends there
  is_whole : (b : Bor (List ℕ)) → begins symbol end b.now ≡ true → (length b.now == end) ≡ is_front b
  is_whole b same = by (is_front b) refl (length b.now == end) refl where
    front : take end b.now ≡ take end symbol
    front = (bytes_eq-Decides (take end b.now) (take end symbol)).0 same

    by : (t : Bool) → is_front b ≡ t → (l : Bool) → (length b.now == end) ≡ l → l ≡ t
    by true is true len = refl
    by false is false len = refl
    by true is false len =
        let text : b.now ≡ take end symbol =
        (bytes_eq-Decides b.now (take end symbol)).0 (sym (is_eq-slice_cmp b.now (take end symbol)) ∙ is) in
        let long : length b.now ≡ end = ap length text ∙ length-take-le end symbol inside in
        let clash : true ≡ false = sym (rw long (grind (arith, nat_tests))) ∙ len in
        absurd cc
    by false is true len =
        let long : length b.now ≤ end = grind (arith, nat_tests, len) in
        let text : b.now ≡ take end symbol = sym (take_all end b.now long) ∙ front in
        let clash : true ≡ false =
        sym ((bytes_eq-Decides b.now (take end symbol)).1 text) ∙ sym (is_eq-slice_cmp b.now (take end symbol)) ∙ is in
        absurd cc

  -- none of those that rise is the front if the first isn't
  first_of_run : (run : List (Bor (List ℕ))) → Rises (λ (b : Bor (List ℕ)). slice_cmp nat_cmp b.now (take end symbol)) run
      → All (λ (b : Bor (List ℕ)). begins symbol end b.now ≡ true) run
      → ends_first end run ≡ not (length (filter is_front run) == 0)
  first_of_run [] rises all = refl
  first_of_run (x ∷ rest) rises all = is_whole x (all zero x (omega arith)) ∙ by (is_front x) refl where
    least : (k : ℕ) (d : Bor (List ℕ)) → k < length (x ∷ rest)
        → is_lt (slice_cmp nat_cmp (get_or (x ∷ rest) k d).now (take end symbol)) ≡ false
    least k d h =
        let b = get_or (x ∷ rest) k d in
        subst (λ l. is_lt (slice_cmp nat_cmp b.now l) ≡ false)
        ((bytes_eq-Decides (take end b.now) (take end symbol)).0 (all k d h)) (front_first end b.now)

    some : not (length (x ∷ filter is_front rest) == 0) ≡ true
    some = grind (arith, nat_tests)

    by : (t : Bool) → is_front x ≡ t → t ≡ not (length (cond t (x ∷ filter is_front rest) (filter is_front rest)) == 0)
    by true is = sym some
    by false is =
        let none : All (λ b. is_front b ≡ false) rest =
        λ k d h. other k d h (is_front (get_or rest k d)) refl in
        sym (ap (λ l. not (length l == 0)) (all_fail is_front rest none))
      where
        other : (k : ℕ) (d : Bor (List ℕ)) → k < length rest → (t : Bool) → is_front (get_or rest k d) ≡ t
            → is_front (get_or rest k d) ≡ false
        other k d h true e =
            let first : is_front x ≡ true =
            equal_first (λ (b : Bor (List ℕ)). slice_cmp nat_cmp b.now (take end symbol)) (x ∷ rest) rises zero
            (λ j c low high. least j c high) zero (suc k) d (omega arith) (omega arith) e in
            let clash : true ≡ false = sym first ∙ is in
            absurd cc
        other k d h false e = e

  pub first_is : (table run : List (Bor (List ℕ))) → IsSorted text_cmp table
      → run ≡ filter (λ (b : Bor (List ℕ)). begins symbol end b.now) table
      → ends_first end run ≡ not (length (filter is_front table) == 0)
  first_is table run sorted are =
      let p = λ (b : Bor (List ℕ)). begins symbol end b.now in
      let to = λ (b : Bor (List ℕ)). slice_cmp nat_cmp b.now (take end symbol) in
      let up : Rises to run =
      rw are (IsNonDecreasingBy-filter (λ b. ordering_index (to b)) p table
      (sorted_rises nat_list_cmp_total text_of table sorted (take end symbol))) in
      first_of_run run up (rw are (filter_passes p table))
      ∙ ap (λ l. not (length (filter is_front l) == 0)) are
      ∙ ap (λ l. not (length l == 0)) (filter_twice p is_front is_front front_begins table)

pub first_is_defined : (d : Document) (symbol : List ℕ) (end : ℕ) (run : List (Bor (List ℕ))) → BeginIn d symbol end run
    → end ≤ length symbol → ends_first end run ≡ is_defined d (take end symbol)
first_is_defined d symbol end run begun inside =
    let text = take end symbol in
    let table = begun.table in
    let sorted = begun.defined.sorted in
    first_is symbol end inside table run sorted.sorted begun.are
    ∙ some_found text begun.defined.all (filter (λ (b : Bor (List ℕ)). is_eq (slice_cmp nat_cmp b.now text)) table)
    (length (filter (λ (b : Bor (List ℕ)). is_eq (slice_cmp nat_cmp b.now text)) table) == 0)
    (kept_order nat_list_cmp_total text_of begun.defined.all table sorted.permutation sorted.stable text) refl
    ∙ ap (list_any (λ s. bytes_eq s text)) begun.defined.are
