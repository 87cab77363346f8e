-- Which files are reachable, by one search from all sources.
use Rattle.std.proofs.Common.{◌≡◌, ◌↔◌, ◌⊎◌, inl, inr, ℕ, ◌+◌, ◌<◌, ◌≤◌, Bool, true, false, List, [], ◌∷◌, ◌++◌, length}
use Rattle.std.proofs.Common.{Option, Some, None, not, ◌&&◌, cond, eqb, get_or, take, refl, ap, sym, ◌∙◌, subst, arith}
use Rattle.std.specs.List.{AllByRecursion, Contains, IsDistinct, filter, slice_get}
use Rattle.std.specs.List.Sorted.{IsStrictlyIncreasing}
use Rattle.std.proofs.lemmas.Bool.{and_parts, cases_lt, false≢true, not-true}
use Rattle.std.proofs.lemmas.Option.{slice_get_within, same_Some}
use Rattle.std.proofs.lemmas.List.{append-nil, get_or_default}
use Rattle.std.proofs.lemmas.List.Elements.{Contains-get_or}
use Rattle.std.proofs.lemmas.List.Elements.{filter_more}
use Rattle.basics.proofs.ElementLemmas.{contained, from_contained, from_filter, in_filter}
use Rattle.proto_visibility.specs.Files.{File, Imports, IsPresent, IsSource}
use Rattle.proto_visibility.specs.Sees.{LeadsTo, Sees}
use Rattle.proto_visibility.specs.Reaches.{IsReachable}
use Rattle.proto_visibility.specs.Sees.LeadsTo.{at_once, through}
use Rattle.proto_visibility.specs.Sees.SeesBy.{itself, import}
use Rattle.proto_visibility.specs.Reaches.IsReachable.{reached}
use Rattle.proto_visibility.specs.Absences.{IsUnread, Broken, NoneBroken}
use Rattle.proto_visibility.specs.declared.import_table.Steps.{Steps}
use Rattle.proto_visibility.specs.Tables.ImportTables.{IsBegun, IsBegunBy}
use Rattle.proto_visibility.specs.Tables.ImportTables.{is_present, is_present_at}
use Rattle.proto_visibility.proofs.RowRisingLemmas.{not_falling}

-- ---- what is seen is there

imported_within : {files : List File} {from to : ℕ} {publicly : Bool} → Imports files from publicly to
    → to < length files
imported_within {files} {from} {to} i = slice_get_within files to i.file i.numbered

leads_inside : {files : List File} {from to : ℕ} → LeadsTo (Imports files) from to → from < length files
    → to < length files
leads_inside at_once h = h
leads_inside (through step rest) h = leads_inside rest (imported_within step)

pub seen_within : {files : List File} {from to : ℕ} → Sees files from to → from < length files → to < length files
seen_within itself h = h
seen_within (import step rest) h = leads_inside rest (imported_within step)

pub reachable_within : (files : List File) (number : ℕ) → IsReachable files number → number < length files
reachable_within files number (reached is reaches present) = slice_get_within files number present.file present.numbered

-- a file of a row is one of the files
pub row_at : (files : List File) (row items : List ℕ) (k : ℕ)
    → ((number : ℕ) → Contains row number → number < length files) → items ≡ row → k < length items
    → get_or items k 0 < length files
row_at files row items k within are h =
    within (get_or items k 0) (subst (λ xs. Contains xs (get_or items k 0)) are (Contains-get_or items k 0 h))

pub reachable_at : (files : List File) (row items : List ℕ) (k : ℕ)
    → ((number : ℕ) → Contains row number → IsReachable files number) → items ≡ row → k < length items
    → get_or items k 0 < length files
reachable_at files row items k is_reachable are h =
    row_at files row items k (λ number there. reachable_within files number (is_reachable number there)) are h

-- ---- what isn't left out

pub present_at : (files : List File) (number : ℕ) → is_present_at files number ≡ true → IsPresent files number
present_at files number is = by (slice_get files number) refl is
  where
    by : (o : Option File) → slice_get files number ≡ o → is_present o ≡ true → IsPresent files number
    by None none is = absurd (false≢true is)
    by (Some file) some is = record { file = file; numbered = some; present = not-true file.is_left_out is }

pub at_present : (files : List File) (number : ℕ) → IsPresent files number → is_present_at files number ≡ true
at_present files number of = ap is_present of.numbered ∙ ap not of.present

pub present_of : {files : List File} {number : ℕ} → IsReachable files number → IsPresent files number
present_of (reached is reaches present) = present

-- ---- sources

-- a file that is neither included nor left out is a source
both_false : (file : File) → file.is_included ≡ false → file.is_left_out ≡ false
    → (not file.is_included && not file.is_left_out) ≡ true
both_false file source present = rw source (rw present refl)

pub source_from : (files : List File) (number : ℕ) (file : File) → slice_get files number ≡ Some file
    → (not file.is_included && not file.is_left_out) ≡ true → IsSource files number
source_from files number file stands flags =
    let parts = and_parts (not file.is_included) (not file.is_left_out) flags in
    record {
      file = file;
      numbered = stands;
      source = not-true file.is_included parts.0;
      present = not-true file.is_left_out parts.1;
    }

pub no_source_from : (files : List File) (number : ℕ) (file : File) → slice_get files number ≡ Some file
    → (not file.is_included && not file.is_left_out) ≡ false → IsSource files number → ⊥
no_source_from files number file stands flags is =
    let same : is.file ≡ file = same_Some is.file file (sym is.numbered ∙ stands) in
    false≢true (sym flags ∙ (ap (λ (f : File). not f.is_included && not f.is_left_out) (sym same)
    ∙ both_false is.file is.source is.present))

-- ---- one search from all files that begin it

-- what is found is what was found before, and where the search begins at the first so many files
abbrev pub HasBegun : (Begins : ℕ → Type 0) → List Steps → (count : ℕ) → (before found : List ℕ) → Type 0
HasBegun Begins table count before found = (number : ℕ) → Contains found number
    ↔ (Contains before number ⊎ IsBegunBy Begins table count number)

pub begun_none : (Begins : ℕ → Type 0) (table : List Steps) (found : List ℕ) → HasBegun Begins table 0 found found
begun_none Begins table found number = (
  λ there. inl there,
  λ is. elim is [ inl there ↦ there | inr begun ↦ absurd (omega (arith, begun.1)) ],
)

pub begun_skip : (Begins : ℕ → Type 0) (table : List Steps) (count : ℕ) (before found : List ℕ) → (Begins count → ⊥)
    → HasBegun Begins table count before found → HasBegun Begins table (count + 1) before found
begun_skip Begins table count before found isnt so_far number = (
  λ there. elim ((so_far number).0 there) [
    | inl old ↦ inl old
    | inr its ↦ inr (its.0, omega (arith, its.1), its.2, its.3)
  ],
  λ is. elim is [
    | inl old ↦ (so_far number).1 (inl old)
    | inr its ↦ elim (cases_lt its.0 count) [
      | inl earlier ↦ (so_far number).1 (inr (its.0, earlier, its.2, its.3))
      | inr last ↦ (let same : its.0 ≡ count = omega (arith, its.1, last) in absurd (isnt (subst Begins same its.2)))
    ]
  ],
)

pub begun_more : (Begins : ℕ → Type 0) (table : List Steps) (count : ℕ) (before found more : List ℕ) → Begins count
    → ((other : ℕ) → Contains more other ↔ (Contains found other ⊎ IsBegun table count other))
    → HasBegun Begins table count before found → HasBegun Begins table (count + 1) before more
begun_more Begins table count before found more begins adds so_far number = (
  λ there. elim ((adds number).0 there) [
    | inl old ↦ elim ((so_far number).0 old) [
      | inl first ↦ inl first
      | inr its ↦ inr (its.0, omega (arith, its.1), its.2, its.3)
    ]
    | inr here ↦ inr (count, omega arith, begins, here)
  ],
  λ is. elim is [
    | inl first ↦ (adds number).1 (inl ((so_far number).1 (inl first)))
    | inr its ↦ elim (cases_lt its.0 count) [
      | inl earlier ↦ (adds number).1 (inl ((so_far number).1 (inr (its.0, earlier, its.2, its.3))))
      | inr last ↦ (
          let same : its.0 ≡ count = omega (arith, its.1, last) in
          (adds number).1 (inr (subst (λ n. IsBegun table n number) same its.3)))
    ]
  ],
)

-- beyond the last file none begins
pub begun_all : (Begins : ℕ → Type 0) (files : List File) (table : List Steps) (count : ℕ) (before found : List ℕ)
    → ((number : ℕ) → Begins number → number < length files) → length files ≤ count
    → HasBegun Begins table count before found → HasBegun Begins table (length files) before found
begun_all Begins files table count before found within all so_far number = (
  λ there. elim ((so_far number).0 there) [
    | inl first ↦ inl first
    | inr its ↦ inr (its.0, within its.0 its.2, its.2, its.3)
  ],
  λ is. elim is [
    | inl first ↦ (so_far number).1 (inl first)
    | inr its ↦ (so_far number).1 (inr (its.0, omega (arith, its.1, all), its.2, its.3))
  ],
)

pub source_within : (files : List File) (number : ℕ) → IsSource files number → number < length files
source_within files number is = slice_get_within files number is.file is.numbered

-- ---- what is left of what is found

all_filter : {X : Type 0} (P : X → Type 0) (test : X → Bool) (xs : List X) → AllByRecursion P xs
    → AllByRecursion P (filter test xs)
all_filter P test [] all = tt
all_filter P test (x ∷ xs) all = by (test x) (all_filter P test xs all.1)
  where
    by : (b : Bool) → AllByRecursion P (filter test xs) → AllByRecursion P (cond b (x ∷ filter test xs) (filter test xs))
    by true others = (all.0, others)
    by false others = others

pub distinct_filter : (test : ℕ → Bool) (xs : List ℕ) → IsDistinct eqb xs → IsDistinct eqb (filter test xs)
unfolding IsDistinct
distinct_filter test [] distinct = distinct
distinct_filter test (x ∷ xs) distinct = by (test x) (distinct_filter test xs distinct.1)
  where
    by : (b : Bool) → IsDistinct eqb (filter test xs) → IsDistinct eqb (cond b (x ∷ filter test xs) (filter test xs))
    by true others = (all_filter (λ y. eqb x y ≡ false) test xs distinct.0, others)
    by false others = others

pub filtered : (test : ℕ → Bool) (numbers some : List ℕ) → some ≡ filter test numbers
    → (number : ℕ) → Contains some number ↔ (Contains numbers number × (test number ≡ true))
filtered test numbers some are number = (
  λ there. (
      let its = from_filter test number numbers
      (from_contained (filter test numbers) number (subst (λ xs. Contains xs number) are there)) in
      (contained numbers number its.0, its.1)),
  λ its. subst (λ xs. Contains xs number) (sym are)
      (contained (filter test numbers) number (in_filter test number its.1 numbers
      (from_contained numbers number its.0))),
)

pub filter_skip : (test : ℕ → Bool) (xs : List ℕ) (k : ℕ) (some : List ℕ) → k < length xs
    → test (get_or xs k 0) ≡ false → some ≡ filter test (take k xs) → some ≡ filter test (take (k + 1) xs)
filter_skip test xs k some within fails so_far =
    so_far ∙ sym (filter_more test xs k 0 within
    ∙ (ap (λ b. filter test (take k xs) ++ cond b (get_or xs k 0 ∷ []) []) fails
    ∙ append-nil (filter test (take k xs))))

pub filter_next : (test : ℕ → Bool) (xs : List ℕ) (k : ℕ) (some more : List ℕ) → k < length xs
    → test (get_or xs k 0) ≡ true → some ≡ filter test (take k xs) → more ≡ some ++ get_or xs k 0 ∷ []
    → more ≡ filter test (take (k + 1) xs)
filter_next test xs k some more within passes so_far is =
    is ∙ (ap (λ ys. ys ++ get_or xs k 0 ∷ []) so_far
    ∙ sym (filter_more test xs k 0 within
    ∙ ap (λ b. filter test (take k xs) ++ cond b (get_or xs k 0 ∷ []) []) passes))

-- ---- the least file without facts

-- none of the first so many files of the row is without facts
abbrev pub AreRead : List File → (row : List ℕ) → (count : ℕ) → Type 0
AreRead files row count = (k : ℕ) → k < count → IsUnread files (get_or row k 0) → ⊥

module _ (files : List File) (row : List ℕ) (reachable : (number : ℕ) → Contains row number
    ↔ IsReachable files number) where
  place_of : (number : ℕ) → IsUnread files number → (k : ℕ) × (k < length row) × (get_or row k 0 ≡ number)
  place_of number unread =
      let there = (reachable number).1 unread.counts in
      (there.0, there.1, get_or_default row there.0 0 number there.1 ∙ there.2)

  pub is_broken : (count : ℕ) (number : ℕ) (file : File) → IsStrictlyIncreasing row → count < length row
      → number ≡ get_or row count 0 → AreRead files row count
      → slice_get files number ≡ Some file → file.facts ≡ None → Broken files number
  is_broken count number file rises within is read stands unread =
      let there = Contains-get_or row count 0 within in
      let is_reachable = (reachable number).0 (subst (Contains row) (sym is) there) in
      record {
        unread = record { file = file; counts = is_reachable; numbered = stands; unread = unread };
        least = λ other its less.
            let at = place_of other its in
            elim (cases_lt at.0 count) [
              | inl before ↦ read at.0 before (subst (IsUnread files) (sym at.2) its)
              | inr behind ↦ (let order = not_falling row rises count at.0 behind at.1 in omega (arith, at.2))
            ];
      }

  pub none_broken : (count : ℕ) → length row ≤ count → AreRead files row count → NoneBroken files
  none_broken count all read number unread =
      let at = place_of number unread in
      read at.0 (omega (arith, at.1)) (subst (IsUnread files) (sym at.2) unread)

  pub read_more : (count : ℕ) (number : ℕ) (file : File) → AreRead files row count → number ≡ get_or row count 0
      → slice_get files number ≡ Some file → (file.facts ≡ None → ⊥) → AreRead files row (count + 1)
  read_more count number file read is stands known k h unread = elim (cases_lt k count) [
    | inl before ↦ read k before unread
    | inr last ↦ (
        let at : k ≡ count = omega arith in
        let same : get_or row k 0 ≡ number = ap (λ n. get_or row n 0) at ∙ sym is in
        let one : unread.file ≡ file =
        same_Some unread.file file (sym unread.numbered ∙ (ap (slice_get files) same ∙ stands)) in
        known (ap (λ (f : File). f.facts) (sym one) ∙ unread.unread))
  ]
