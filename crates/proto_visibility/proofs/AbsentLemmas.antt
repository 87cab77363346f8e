-- The first import that isn't there.
use Rattle.std.proofs.Common.{◌≡◌, ◌↔◌, ◌⊎◌, inl, inr, ℕ, ◌+◌, ◌<◌, ◌≤◌, Bool, true, false, IsTrue, not, ◌||◌, ◌&&◌}
use Rattle.std.proofs.Common.{zero, suc, List, [], ◌∷◌, ◌++◌, if◌then◌else◌, length, get_or, map, take, Option, Some}
use Rattle.std.proofs.Common.{None, refl, ap, sym, ◌∙◌, subst, arith}
use Rattle.std.specs.List.{Contains, AllPairs, slice_get, flat_map}
use Rattle.std.specs.List.Sorted.{IsStrictlyIncreasing}
use Rattle.std.specs.Option.{is_none}
use Rattle.std.proofs.lemmas.Bool.{cases_lt, cases_Bool, false≢true, and_parts, or_cases}
use Rattle.std.proofs.lemmas.Option.{slice_get_within, slice_get-get_or}
use Rattle.std.proofs.lemmas.List.{get_or_default, take_all, flat_map_more}
use Rattle.std.proofs.lemmas.List.Elements.{Contains-get_or, Contains-append_left, Contains-append_right}
use Rattle.std.proofs.lemmas.List.Elements.{Contains-append_cases}
use Rattle.std.proofs.lemmas.Map.Keys.{sorted_from_strictly_increasing, below_from_sorted}
use Rattle.std.proofs.lemmas.Option.{same_Some}
use Rattle.basics.proofs.ListLemmas.{only}
use Rattle.proto_lex.specs.declared.span.Span.{Span}
use Rattle.proto_lex.specs.Lexed.{AreInOrder}
use Rattle.proto_decl.specs.Facts.{Facts, ImportsInOrder}
use Rattle.proto_decl.specs.declared.imports.Imported.{Imported}
use Rattle.proto_visibility.specs.declared.files.FilePlace.{FilePlace}
use Rattle.proto_visibility.specs.Files.{File, HasFacts, HasPath, IsPresent, is_public, HasPathAt}
use Rattle.proto_visibility.specs.Reaches.{IsReachable}
use Rattle.proto_visibility.specs.Reaches.IsReachable.{reached}
use Rattle.proto_visibility.specs.Reaches.Reaches.{sees}
use Rattle.proto_visibility.specs.Sees.SeesBy.{itself}
use Rattle.proto_visibility.specs.Clashes.{Before}
use Rattle.proto_visibility.specs.Absences.{IsNeeded, IsMissing, Absent, NoAbsent, AreMissing}
use Rattle.proto_visibility.specs.Absences.IsNeeded.{of_source, of_included}
use Rattle.proto_visibility.specs.Tables.ImportTables.{imports_in, imports_of, is_absent, absent_at, absents_of}
use Rattle.proto_visibility.specs.Tables.ImportTables.{absents_at, NoneIsAbsent, IsFirstAbsent}
use Rattle.proto_visibility.proofs.RowRisingLemmas.{not_falling}
use Rattle.basics.proofs.FirstLemmas.{contained, take_next, at_contained}

-- ---- imports in order

behind_place : (imports : List Imported) (place k : ℕ) (import : Imported)
    → AreInOrder place (map (λ imported. imported.span) imports) → slice_get imports k ≡ Some import
    → place ≤ import.span.start
behind_place [] place k import order stands = absurd (cc)
behind_place (one ∷ imports) place zero import order stands =
    let same : one ≡ import = same_Some one import stands in
    let start = ap (λ (i : Imported). i.span.start) same in omega (arith, order.0)
behind_place (one ∷ imports) place (suc k) import order stands =
    let rest = behind_place imports one.span.end k import order.2 stands in omega (arith, order.0, order.1)

starts_rise : (imports : List Imported) (place j k : ℕ) (a b : Imported)
    → AreInOrder place (map (λ imported. imported.span) imports) → slice_get imports j ≡ Some a
    → slice_get imports k ≡ Some b → j ≤ k → a.span.start ≤ b.span.start
starts_rise [] place j k a b order at there h = absurd (cc)
starts_rise (one ∷ imports) place zero zero a b order at there h =
    let same : a ≡ b = both a b (sym at ∙ there) in
    let start = ap (λ (i : Imported). i.span.start) same in omega arith
  where
    both : (x y : Imported) → Some x ≡ Some y → x ≡ y
    both x y e = cc
starts_rise (one ∷ imports) place zero (suc k) a b order at there h =
    let same : one ≡ a = both one a at in
    let start = ap (λ (i : Imported). i.span.start) same in
    let rest = behind_place imports one.span.end k b order.2 there in omega (arith, order.1)
  where
    both : (x y : Imported) → Some x ≡ Some y → x ≡ y
    both x y e = cc
starts_rise (one ∷ imports) place (suc j) zero a b order at there h = absurd (omega arith)
starts_rise (one ∷ imports) place (suc j) (suc k) a b order at there h =
    starts_rise imports one.span.end j k a b order.2 at there (omega arith)

-- ---- lists of lists

record IsGivenBy {X A : Type 0} (f : X → List A) (xs : List X) (y : A) : Type 0 where
  x : X
  index : ℕ
  stands : slice_get xs index ≡ Some x
  given : Contains (f x) y

given_by : {X A : Type 0} (f : X → List A) (xs : List X) (y : A) → Contains (flat_map f xs) y → IsGivenBy f xs y
given_by f [] y there = absurd (omega (arith, there.1))
given_by f (x ∷ xs) y there = elim (Contains-append_cases (f x) (flat_map f xs) y there) [
  | inl here ↦ record { x = x; index = zero; stands = refl; given = here }
  | inr later ↦ (let by = given_by f xs y later in
      record { x = by.x; index = suc by.index; stands = by.stands; given = by.given })
]

gives : {X A : Type 0} (f : X → List A) (xs : List X) (k : ℕ) (x : X) (y : A) → slice_get xs k ≡ Some x
    → Contains (f x) y → Contains (flat_map f xs) y
gives f [] k x y e given = absurd (cc)
gives f (z ∷ zs) zero x y e given =
    Contains-append_left (f z) (flat_map f zs) y (subst (λ w. Contains (f w) y) (sym (one z x e)) given)
  where
    one : {Z : Type 0} (a b : Z) → Some a ≡ Some b → a ≡ b
    one a b h = cc
gives f (z ∷ zs) (suc k) x y e given = Contains-append_right (f z) (flat_map f zs) y (gives f zs k x y e given)

-- what one more gives
pub given_next : {X A : Type 0} (f : X → List A) (xs : List X) (k : ℕ) (x : X) (old new : List A)
    → slice_get xs k ≡ Some x → old ≡ flat_map f (take k xs) → new ≡ old ++ f x → new ≡ flat_map f (take (k + 1) xs)
given_next f xs k x old new stands before now =
    now ∙ (ap (λ ys. ys ++ f x) before
    ∙ (flat_map_more f [] (take k xs) x ∙ ap (flat_map f) (sym (take_next xs k x stands))))

if_so : {X : Type 0} (b : Bool) (x y : X) → Contains (if b then x ∷ [] else []) y → (b ≡ true) × (x ≡ y)
if_so true x y there = (refl, only x y there)
if_so false x y there = absurd (omega (arith, there.1))

so : {X : Type 0} (b : Bool) (x y : X) → b ≡ true → x ≡ y → Contains (if b then x ∷ [] else []) y
so true x y e same = subst (Contains (x ∷ [])) same (contained (x ∷ []) 0 x refl)
so false x y e same = absurd (false≢true e)

-- ---- each before those behind it

pairs_more : {X : Type 0} (R : X → X → Type 0) (x : X) (xs : List X) → ((y : X) → Contains xs y → R x y)
    → AllPairs R xs → AllPairs R (x ∷ xs)
pairs_more R x xs first rest zero zero d less within = absurd (omega (arith, less))
pairs_more R x xs first rest zero (suc j) d less within =
    first (get_or xs j d) (Contains-get_or xs j d (omega (arith, within)))
pairs_more R x xs first rest (suc i) zero d less within = absurd (omega (arith, less))
pairs_more R x xs first rest (suc i) (suc j) d less within = rest i j d (omega (arith, less)) (omega (arith, within))

first_of_pairs : {X : Type 0} (R : X → X → Type 0) (x : X) (xs : List X) → AllPairs R (x ∷ xs)
    → (y : X) → Contains xs y → R x y
first_of_pairs R x xs pairs y there =
    subst (R x) there.2 (pairs zero (suc there.0) y (omega arith) (omega (arith, there.1)))

rest_of_pairs : {X : Type 0} (R : X → X → Type 0) (x : X) (xs : List X) → AllPairs R (x ∷ xs) → AllPairs R xs
rest_of_pairs R x xs pairs i j d less within = pairs (suc i) (suc j) d (omega (arith, less)) (omega (arith, within))

pairs_both : {X : Type 0} (R : X → X → Type 0) (xs ys : List X) → AllPairs R xs → AllPairs R ys
    → ((a b : X) → Contains xs a → Contains ys b → R a b) → AllPairs R (xs ++ ys)
pairs_both R [] ys first second across = second
pairs_both R (x ∷ xs) ys first second across =
    pairs_more R x (xs ++ ys)
    (λ y there. elim (Contains-append_cases xs ys y there) [
      | inl here ↦ first_of_pairs R x xs first y here
      | inr later ↦ across x y (zero, omega arith, refl) later
    ])
    (pairs_both R xs ys (rest_of_pairs R x xs first) second
    (λ a b here later. across a b (Contains-append_right (x ∷ []) xs a here) later))

pairs_if : {X : Type 0} (R : X → X → Type 0) (b : Bool) (x : X) → AllPairs R (if b then x ∷ [] else [])
pairs_if R true x i j d less within = absurd (omega (arith, less, within))
pairs_if R false x i j d less within = absurd (omega (arith, within))

pairs_of : (row : List ℕ) → IsStrictlyIncreasing row → AllPairs (λ a b. a < b) row
pairs_of row rises i j d less within =
    below_from_sorted row i j d (sorted_from_strictly_increasing row rises) less within

-- ---- what an import misses

-- in the first so many files of the row no import is absent
abbrev pub NoneUpTo : List File → (List ℕ → Option ℕ) → (row : List ℕ) → (count : ℕ) → Type 0
NoneUpTo files number row count = (k : ℕ) (file : File) → k < count → slice_get files (get_or row k 0) ≡ Some file
    → NoneIsAbsent number file.is_included (imports_of file)

-- ---- the absent imports are in order

-- the imports of each file are in order
abbrev pub AllInOrder : List File → Type 0
AllInOrder files = (k : ℕ) (file : File) → slice_get files k ≡ Some file → ImportsInOrder (imports_of file)

pub all_in_order : (files : List File)
    → ((k : ℕ) (facts : Facts) → HasFacts files k facts → ImportsInOrder facts.imports) → AllInOrder files
all_in_order files order k file stands = by file.facts refl
  where
    by : (of : Option Facts) → file.facts ≡ of → ImportsInOrder (imports_in of)
    by None is = tt
    by (Some facts) is = order k facts (record { file = file; numbered = stands; known = is })

module _ (files : List File) (number : List ℕ → Option ℕ) (order : AllInOrder files) where
  -- those of one file
  along_imports : (included : Bool) (k : ℕ) (imports : List Imported) (place : ℕ)
      → AreInOrder place (map (λ imported. imported.span) imports)
      → AllPairs Before (flat_map (absent_at number included k) imports)
  along_imports included k [] place rise = λ i j d less within. absurd (omega (arith, within))
  along_imports included k (one ∷ imports) place rise =
      pairs_both Before (absent_at number included k one) (flat_map (absent_at number included k) imports)
      (pairs_if Before (is_absent number included one) (record { file = k; span = one.span }))
      (along_imports included k imports one.span.end rise.2)
      (λ a b here later. before a b
      (if_so (is_absent number included one) (record { file = k; span = one.span }) a here).1
      (given_by (absent_at number included k) imports b later))
    where
      before : (a b : FilePlace) → record { file = k; span = one.span } ≡ a
          → IsGivenBy (absent_at number included k) imports b → Before a b
      before a b is by =
          let of = if_so (is_absent number included by.x) (record { file = k; span = by.x.span }) b by.given in
          let behind = behind_place imports one.span.end by.index by.x rise.2 by.stands in
          subst (λ p. Before p b) is (subst (Before (record { file = k; span = one.span })) of.1
          (inr (refl, omega (arith, rise.1, behind))))

  of_this_file : (k : ℕ) (of : Option File) (place : FilePlace) → Contains (absents_of number k of) place
      → place.file ≡ k
  of_this_file k None place there = absurd (omega (arith, there.1))
  of_this_file k (Some file) place there =
      let by = given_by (absent_at number file.is_included k) (imports_of file) place there in
      let is = if_so (is_absent number file.is_included by.x) (record { file = k; span = by.x.span }) place by.given in
      sym (ap (λ (p : FilePlace). p.file) is.1)

  of_one_file : (k : ℕ) (of : Option File) → slice_get files k ≡ of → AllPairs Before (absents_of number k of)
  of_one_file k None stands = λ i j d less within. absurd (omega (arith, within))
  of_one_file k (Some file) stands = along_imports file.is_included k (imports_of file) 0 (order k file stands)

  -- those of the files of a row
  pub along_row : (row : List ℕ) → AllPairs (λ a b. a < b) row → AllPairs Before (flat_map (absents_at files number) row)
  along_row [] rises = λ i j d less within. absurd (omega (arith, within))
  along_row (k ∷ row) rises =
      pairs_both Before (absents_at files number k) (flat_map (absents_at files number) row)
      (of_one_file k (slice_get files k) refl)
      (along_row row (rest_of_pairs (λ a b. a < b) k row rises))
      (λ a b here later.
      let by = given_by (absents_at files number) row b later in
      let less = first_of_pairs (λ m n. m < n) k row rises by.x (contained row by.index by.x by.stands) in
      let a_file = of_this_file k (slice_get files k) a here in
      let b_file = of_this_file by.x (slice_get files by.x) b by.given in
      inl (omega arith))

module _ (files : List File) (number : List ℕ → Option ℕ)
    (numbered : (path : List ℕ) (k : ℕ) → (number path ≡ Some k) ↔ (HasPathAt files path k × IsPresent files k)) where
  has_path : (path : List ℕ) → HasPath files path → is_none (number path) ≡ false
  has_path path there = ap is_none ((numbered path there.0).1 (there.1, there.2))

  no_path : (path : List ℕ) → is_none (number path) ≡ true → HasPath files path → ⊥
  no_path path absent there = false≢true (sym (has_path path there) ∙ absent)

  path_if : (path : List ℕ) → is_none (number path) ≡ false → HasPath files path
  path_if path some = elim (cases (number path)) [
    | inl absent ↦ absurd (false≢true (sym some ∙ ap is_none absent))
    | inr found ↦ (let there = (numbered path found.0).0 found.1 in (found.0, there.0, there.1))
  ]
    where
      cases : (o : Option ℕ) → (o ≡ None) ⊎ ((k : ℕ) × (o ≡ Some k))
      cases None = inl refl
      cases (Some k) = inr (k, refl)

  pub path_iff : (path : List ℕ) (found : Bool) → found ≡ not (is_none (number path)) → IsTrue found
      ↔ HasPath files path
  path_iff path found is = (
    λ t. path_if path (not_true (is_none (number path)) (sym is ∙ t)),
    λ there. is ∙ ap not (has_path path there),
  )
    where
      not_true : (b : Bool) → not b ≡ true → b ≡ false
      not_true true e = sym e
      not_true false e = refl

  -- the needed imports that miss a file are the absent ones of the reachable files
  needed_from : (file : File) (k : ℕ) (facts : Facts) (import : Imported) → IsReachable files k
      → slice_get files k ≡ Some file → file.facts ≡ Some facts → Contains facts.imports import
      → (not file.is_included || is_public import.kind) ≡ true → IsNeeded files k import
  needed_from file k facts import is_reachable stands known listed needed =
      elim (or_cases (not file.is_included) (is_public import.kind) needed) [
        | inl source ↦ of_source (record {
          file = file;
          numbered = stands;
          source = is_false file.is_included source;
          present = here_present is_reachable;
        }) (record { file = file; numbered = stands; known = known }) listed
        | inr public ↦ of_included is_reachable (record { file = file; numbered = stands; known = known }) listed public
      ]
    where
      is_false : (b : Bool) → not b ≡ true → b ≡ false
      is_false true e = sym e
      is_false false e = refl

      here_present : IsReachable files k → file.is_left_out ≡ false
      here_present (reached is reaches present) =
          ap (λ (f : File). f.is_left_out) (same_Some file present.file (sym stands ∙ present.numbered))
          ∙ present.present

  -- what a needed import says of the file that it stands in
  pub record Needs (k : ℕ) (import : Imported) : Type 0 where
    pub file : File
    pub stands : slice_get files k ≡ Some file
    pub is_reachable : IsReachable files k
    pub listed : Contains (imports_of file) import
    pub needed : (not file.is_included || is_public import.kind) ≡ true

  needs : (k : ℕ) (import : Imported) → IsNeeded files k import → Needs k import
  needs k import (of_source is known listed) =
      let same : is.file ≡ known.file = same_Some is.file known.file (sym is.numbered ∙ known.numbered) in
      record {
        file = is.file;
        stands = is.numbered;
        is_reachable = reached is (sees itself) (record { file = is.file; numbered = is.numbered; present = is.present });
        listed = subst (λ f. Contains (imports_in f) import)
            (sym (ap (λ (f : File). f.facts) same ∙ known.known)) listed;
        needed = subst (λ b. (not b || is_public import.kind) ≡ true) (sym is.source) refl;
      }
  needs k import (of_included is_reachable known listed public) = record {
    file = known.file;
    stands = known.numbered;
    is_reachable = is_reachable;
    listed = subst (λ f. Contains (imports_in f) import) (sym known.known) listed;
    needed = subst (λ b. (not known.file.is_included || b) ≡ true) (sym public) (last known.file.is_included);
  }
    where
      last : (b : Bool) → (not b || true) ≡ true
      last true = refl
      last false = refl

  -- a missing import is an absent one at some index of its file
  index_of : (place : FilePlace) (m : IsMissing files place)
      → (file : File) × (slice_get files place.file ≡ Some file) × IsReachable files place.file
      × ((index : ℕ) × (slice_get (imports_of file) index ≡ Some m.import)
      × (is_absent number file.is_included m.import ≡ true))
  index_of place m =
      let n = needs place.file m.import m.needed in (
        n.file,
        n.stands,
        n.is_reachable,
        (
          n.listed.0,
          slice_get-get_or (imports_of n.file) n.listed.0 m.import n.listed.1 ∙ ap Some n.listed.2,
          both (not n.file.is_included || is_public m.import.kind) (is_none (number m.import.path)) n.needed
              (none_if m),
        ),
      )
    where
      both : (x y : Bool) → x ≡ true → y ≡ true → (x && y) ≡ true
      both true y h e = e
      both false y h e = absurd (false≢true h)

      none_if : (n : IsMissing files place) → is_none (number n.import.path) ≡ true
      none_if n = elim (cases_Bool (is_none (number n.import.path)))
          [ inl t ↦ t | inr f ↦ absurd (n.missing (path_if n.import.path f)) ]

  facts_at : (f : File) (import : Imported) → Contains (imports_of f) import
      → (facts : Facts) × (f.facts ≡ Some facts) × Contains facts.imports import
  facts_at f import there = elim (cases f.facts) [
    | inl absent ↦ absurd (omega (arith, (subst (λ g. Contains (imports_in g) import) absent there).1))
    | inr some ↦ (some.0, some.1, subst (λ g. Contains (imports_in g) import) some.1 there)
  ]
    where
      cases : (o : Option Facts) → (o ≡ None) ⊎ ((x : Facts) × (o ≡ Some x))
      cases None = inl refl
      cases (Some x) = inr (x, refl)

  -- an import that is absent misses a file
  missing_at : (file : File) (k : ℕ) (import : Imported) → IsReachable files k → slice_get files k ≡ Some file
      → Contains (imports_of file) import → is_absent number file.is_included import ≡ true
      → IsMissing files (record { file = k; span = import.span })
  missing_at file k import is_reachable stands listed absent =
      let parts = and_parts (not file.is_included || is_public import.kind) (is_none (number import.path)) absent in
      let facts = facts_at file import listed in
      record {
        import = import;
        needed = needed_from file k facts.0 import is_reachable stands facts.1 facts.2 parts.0;
        stands = refl;
        missing = no_path import.path parts.1;
      }

  -- ---- the search along the row of those that count

  module _ (row : List ℕ) (reachable : (k : ℕ) → Contains row k ↔ IsReachable files k) where
    place_in_row : (k : ℕ) → IsReachable files k → (i : ℕ) × (i < length row) × (get_or row i 0 ≡ k)
    place_in_row k is_reachable = let there = (reachable k).1 is_reachable in
        (there.0, there.1, get_or_default row there.0 0 k there.1 ∙ there.2)

    not_in_front : (count : ℕ) (place : FilePlace) → NoneUpTo files number row count → (m : IsMissing files place)
        → (i : ℕ) → i < count → get_or row i 0 ≡ place.file → ⊥
    not_in_front count place none m i h is =
        let at = index_of place m in
        let absent = none i at.0 h (ap (slice_get files) is ∙ at.1) at.3.0 m.import
        (slice_get_within (imports_of at.0) at.3.0 m.import at.3.1) at.3.1 in
        false≢true (sym absent ∙ at.3.2)

    pub none_absent : (count : ℕ) → length row ≤ count → NoneUpTo files number row count → NoAbsent files
    none_absent count all none place m =
        let at = index_of place m in
        let i = place_in_row place.file at.2 in
        not_in_front count place none m i.0 (omega (arith, i.1)) i.2

    pub none_more : (count : ℕ) (file : File) (k : ℕ) → k ≡ get_or row count 0 → slice_get files k ≡ Some file
        → NoneIsAbsent number file.is_included (imports_of file) → NoneUpTo files number row count
        → NoneUpTo files number row (count + 1)
    none_more count file k is stands here none i other h at = elim (cases_lt i count) [
      | inl before ↦ none i other before at
      | inr last ↦ (
          let same : get_or row i 0 ≡ k = ap (λ n. get_or row n 0) (omega arith) ∙ sym is in
          let equal : file ≡ other = same_Some file other (sym stands ∙ (ap (slice_get files) (sym same) ∙ at)) in
          subst (λ f. NoneIsAbsent number f.is_included (imports_of f)) equal here)
    ]

    pub is_absent_place : (count : ℕ) (file : File) (k : ℕ) (span : Span) → IsStrictlyIncreasing row
        → count < length row → k ≡ get_or row count 0 → slice_get files k ≡ Some file
        → NoneUpTo files number row count → ImportsInOrder (imports_of file)
        → IsFirstAbsent number file.is_included (imports_of file) span → Absent files (record { file = k; span = span })
    is_absent_place count file k span rises within is stands none order first =
        let is_reachable : IsReachable files k =
        (reachable k).0 (subst (Contains row) (sym is) (Contains-get_or row count 0 within)) in
        let parts = and_parts (not file.is_included || is_public first.import.kind)
        (is_none (number first.import.path)) first.absent in
        let facts = facts_at file first.import (contained (imports_of file) first.index first.import first.stands) in
        record {
          missing = record {
            import = first.import;
            needed = needed_from file k facts.0 first.import is_reachable stands facts.1 facts.2 parts.0;
            stands = first.place;
            missing = no_path first.import.path parts.1;
          };
          least = λ other m before. least other m before;
        }
      where
        same_file : (other : FilePlace) → (m : IsMissing files other) → other.file ≡ k → other.span.start < span.start
            → ⊥
        same_file other m here less =
            let at = index_of other m in
            let equal : at.0 ≡ file = same_Some at.0 file (sym at.1 ∙ (ap (slice_get files) here ∙ stands)) in
            let stands_at : slice_get (imports_of file) at.3.0 ≡ Some m.import =
            subst (λ f. slice_get (imports_of f) at.3.0 ≡ Some m.import) equal at.3.1 in
            let absent_at : is_absent number file.is_included m.import ≡ true =
            subst (λ f. is_absent number f.is_included m.import ≡ true) equal at.3.2 in
            elim (cases_lt at.3.0 first.index) [
              | inl prefix ↦ false≢true (sym (first.first at.3.0 m.import prefix stands_at) ∙ absent_at)
              | inr behind ↦ (
                  let rise = starts_rise (imports_of file) 0 first.index at.3.0 first.import m.import order first.stands
                  stands_at behind in
                  let a = ap (λ (s : Span). s.start) first.place in
                  let b = ap (λ (s : Span). s.start) m.stands in
                  omega arith)
            ]

        least : (other : FilePlace) → IsMissing files other → Before other (record { file = k; span = span }) → ⊥
        least other m (inl lower) =
            let at = index_of other m in
            let i = place_in_row other.file at.2 in
            elim (cases_lt i.0 count) [
              | inl prefix ↦ not_in_front count other none m i.0 prefix i.2
              | inr behind ↦ (let rise = not_falling row rises count i.0 behind i.1 in omega (arith, i.2))
            ]
        least other m (inr same) = same_file other m same.0 same.1

    -- ---- all of them

    each_missing : (place : FilePlace) → Contains (flat_map (absents_at files number) row) place ↔ IsMissing files place
    each_missing place = (
      λ there. (
          let by = given_by (absents_at files number) row place there in
          of_file by.x ((reachable by.x).0 (contained row by.index by.x by.stands))
          (slice_get files by.x) refl by.given),
      λ m.
          let at = index_of place m in
          let in_row = (reachable place.file).1 at.2 in
          gives (absents_at files number) row in_row.0 place.file place (at_contained row place.file in_row)
          (subst (λ o. Contains (absents_of number place.file o) place) (sym at.1)
          (gives (absent_at number at.0.is_included place.file) (imports_of at.0) at.3.0 m.import place at.3.1
          (so (is_absent number at.0.is_included m.import)
          (record { file = place.file; span = m.import.span }) place at.3.2
          (λ i. record { file = place.file; span = m.stands i })))),
    )
      where
        of_file : (k : ℕ) → IsReachable files k → (of : Option File) → slice_get files k ≡ of
            → Contains (absents_of number k of) place → IsMissing files place
        of_file k is_reachable None stands there = absurd (omega (arith, there.1))
        of_file k is_reachable (Some file) stands there =
            let by = given_by (absent_at number file.is_included k) (imports_of file) place there in
            let is = if_so (is_absent number file.is_included by.x)
            (record { file = k; span = by.x.span }) place by.given in
            subst (IsMissing files) is.1
            (missing_at file k by.x is_reachable stands (contained (imports_of file) by.index by.x by.stands) is.0)

    pub all_missing : IsStrictlyIncreasing row → AllInOrder files → (count : ℕ) (places : List FilePlace)
        → length row ≤ count → places ≡ flat_map (absents_at files number) (take count row) → AreMissing files places
    all_missing rises order count places all is =
        subst (AreMissing files) (sym (is ∙ ap (flat_map (absents_at files number)) (take_all count row all)))
        (record { each = each_missing; in_order = along_row files number order row (pairs_of row rises) })
