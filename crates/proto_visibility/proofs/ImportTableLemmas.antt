-- Steps by the numbers of paths are imports.
use Rattle.std.proofs.Common.{◌≡◌, ◌↔◌, ◌⊎◌, inl, inr, ℕ, ◌+◌, ◌<◌, ◌≤◌, Bool, true, false, zero, suc, List, [], ◌∷◌}
use Rattle.std.proofs.Common.{◌++◌, length, get_or, take, is_some, Option, Some, None, refl, ap, sym, ◌∙◌, subst, cond}
use Rattle.std.proofs.Common.{arith}
use Rattle.std.specs.List.{Contains, slice_get, filter_map, list_any}
use Rattle.std.specs.Str.{bytes_eq}
use Rattle.std.specs.HashMap.{HashMap}
use denote.Ref.{Bor}
use Rattle.std.proofs.lemmas.Bool.{cases_Bool, cases_lt, cond-true, cond-false, false≢true, or_parts}
use Rattle.std.proofs.lemmas.Option.{slice_get-get_or, slice_get_within, same_Some}
use Rattle.std.proofs.lemmas.Slice.Eq.{bytes_eq-Decides}
use Rattle.std.proofs.lemmas.List.Elements.{Contains-append_right, Contains-append_cases}
use Rattle.std.proofs.lemmas.List.Elements.{Contains-get_or}
use Rattle.std.proofs.lemmas.List.{take_more, length_push, get_or_push}
use Rattle.std.proofs.lemmas.List.Elements.{filter_map-append}
use Rattle.basics.proofs.ListLemmas.{in_front, only}
use Rattle.proto_visibility.proofs.SeeingLemmas.{slice_get_prefix}
use Rattle.proto_decl.specs.Facts.{Facts}
use Rattle.proto_decl.specs.declared.imports.Imported.{Imported}
use Rattle.proto_visibility.specs.declared.import_table.Steps.{Steps}
use Rattle.proto_visibility.specs.Files.{File, Imports, IsPresent, HaveOwnPaths, is_public, HasPathAt}
use Rattle.proto_visibility.specs.Tables.ImportTables.{targets, HasStep, AreWithin, IsTableOf, number_in, AreNumbered}
use Rattle.proto_visibility.specs.Tables.ImportTables.{ArePaths, imports_in, imports_of, target}

-- ---- what a filter keeps

cases_Option : {Y : Type 0} (o : Option Y) → (o ≡ None) ⊎ ((y : Y) × (o ≡ Some y))
cases_Option None = inl refl
cases_Option (Some y) = inr (y, refl)

filter_map_none : {X Y : Type 0} (h : X → Option Y) (x : X) (xs : List X) → h x ≡ None
    → filter_map h (x ∷ xs) ≡ filter_map h xs
filter_map_none h x xs e = rw e refl

filter_map_some : {X Y : Type 0} (h : X → Option Y) (x : X) (xs : List X) (y : Y) → h x ≡ Some y
    → filter_map h (x ∷ xs) ≡ y ∷ filter_map h xs
filter_map_some h x xs y e = rw e refl

pub kept_from : {X Y : Type 0} (h : X → Option Y) (xs : List X) (y : Y) → Contains (filter_map h xs) y
    → (x : X) × Contains xs x × (h x ≡ Some y)
kept_from h [] y there = absurd (omega (arith, there.1))
kept_from {X} h (x ∷ xs) y there = elim (cases_Option (h x)) [
  | inl absent ↦ later (kept_from h xs y (subst (λ zs. Contains zs y) (filter_map_none h x xs absent) there))
  | inr some ↦ elim (Contains-append_cases (some.0 ∷ []) (filter_map h xs) y
      (subst (λ zs. Contains zs y) (filter_map_some h x xs some.0 some.1) there)) [
        | inl one ↦ (x, in_front x xs, some.1 ∙ ap Some (only some.0 y one))
        | inr other ↦ later (kept_from h xs y other)
      ]
]
  where
    later : (z : X) × Contains xs z × (h z ≡ Some y) → (z : X) × Contains (x ∷ xs) z × (h z ≡ Some y)
    later found = (found.0, Contains-append_right (x ∷ []) xs found.0 found.1, found.2)

pub kept_if : {X Y : Type 0} (h : X → Option Y) (xs : List X) (x : X) (y : Y) → Contains xs x → h x ≡ Some y
    → Contains (filter_map h xs) y
kept_if h [] x y there e = absurd (omega (arith, there.1))
kept_if h (z ∷ zs) x y there e = elim (Contains-append_cases (z ∷ []) zs x there) [
  | inl one ↦ subst (λ ys. Contains ys y) (sym (filter_map_some h z zs y (ap h (only z x one) ∙ e)))
      (in_front y (filter_map h zs))
  | inr other ↦ elim (cases_Option (h z)) [
    | inl absent ↦ subst (λ ys. Contains ys y) (sym (filter_map_none h z zs absent)) (kept_if h zs x y other e)
    | inr some ↦ subst (λ ys. Contains ys y) (sym (filter_map_some h z zs some.0 some.1))
        (Contains-append_right (some.0 ∷ []) (filter_map h zs) y (kept_if h zs x y other e))
  ]
]

-- ---- targets

target_from : (number : List ℕ → Option ℕ) (publicly : Bool) (import : Imported) (to : ℕ)
    → target number publicly import ≡ Some to → (is_public import.kind ≡ publicly) × (number import.path ≡ Some to)
target_from number true import to e = elim (cases_Bool (is_public import.kind)) [
  | inl public ↦ (public, sym (cond-true (is_public import.kind) (number import.path) None public) ∙ e)
  | inr plain ↦ (let absent : None ≡ Some to =
      sym (cond-false (is_public import.kind) (number import.path) None plain) ∙ e in absurd (cc))
]
target_from number false import to e = elim (cases_Bool (is_public import.kind)) [
  | inl public ↦ (let absent : None ≡ Some to =
      sym (cond-true (is_public import.kind) None (number import.path) public) ∙ e in absurd (cc))
  | inr plain ↦ (plain, sym (cond-false (is_public import.kind) None (number import.path) plain) ∙ e)
]

target_if : (number : List ℕ → Option ℕ) (publicly : Bool) (import : Imported) (to : ℕ)
    → is_public import.kind ≡ publicly → number import.path ≡ Some to → target number publicly import ≡ Some to
target_if number true import to kind e = cond-true (is_public import.kind) (number import.path) None kind ∙ e
target_if number false import to kind e = cond-false (is_public import.kind) None (number import.path) kind ∙ e

-- ---- the table

-- the steps of one file
abbrev pub AreStepsOf : (List ℕ → Option ℕ) → File → Steps → Type 0
AreStepsOf number file steps = (publicly : Bool)
    → targets steps publicly ≡ filter_map (target number publicly) (imports_of file)

pub steps_by_kind : (number : List ℕ → Option ℕ) (file : File) (steps : Steps)
    → steps.public.items ≡ filter_map (target number true) (imports_of file)
    → steps.plain.items ≡ filter_map (target number false) (imports_of file) → AreStepsOf number file steps
steps_by_kind number file steps public plain true = public
steps_by_kind number file steps public plain false = plain

-- the steps of so many files
abbrev pub AreStepsUpTo : (List ℕ → Option ℕ) → List File → List Steps → ℕ → Type 0
AreStepsUpTo number files table count = (k : ℕ) (file : File) (steps : Steps) → k < count
    → slice_get files k ≡ Some file → slice_get table k ≡ Some steps → AreStepsOf number file steps

imports_at : (file : File) (import : Imported) → Contains (imports_of file) import
    → (facts : Facts) × (file.facts ≡ Some facts) × Contains facts.imports import
imports_at file import there = elim (cases_Option file.facts) [
  | inl absent ↦ absurd (omega (arith, (subst (λ f. Contains (imports_in f) import) absent there).1))
  | inr some ↦ (some.0, some.1, subst (λ f. Contains (imports_in f) import) some.1 there)
]

module _ (files : List File) (table : List Steps) (number : List ℕ → Option ℕ)
    (numbered : (path : List ℕ) (k : ℕ) → (number path ≡ Some k) ↔ HasPathAt files path k)
    (size : length table ≡ length files) (each : AreStepsUpTo number files table (length files)) where
  file_at : (k : ℕ) (steps : Steps) → slice_get table k ≡ Some steps → (file : File) × (slice_get files k ≡ Some file)
  file_at k steps stands = elim (cases_Option (slice_get files k)) [
    | inl absent ↦ absurd (missing absent)
    | inr some ↦ some
  ]
    where
      missing : slice_get files k ≡ None → ⊥
      missing absent =
          let within = slice_get_within table k steps stands in
          let inside : k < length files = omega arith in
          absurd (past files k inside absent)
        where
          past : {X : Type 0} (xs : List X) (i : ℕ) → i < length xs → slice_get xs i ≡ None → ⊥
          past [] i h e = omega arith
          past (x ∷ xs) zero h e = cc
          past (x ∷ xs) (suc i) h e = past xs i (omega arith) e

  step_from : (importing imported : ℕ) (publicly : Bool) → HasStep table importing publicly imported
      → Imports files importing publicly imported
  step_from importing imported publicly step =
      let file = file_at importing step.steps step.stands in
      let steps = each importing file.0 step.steps
      (slice_get_within files importing file.0 file.1) file.1 step.stands publicly in
      let kept = kept_from (target number publicly) (imports_of file.0) imported
      (subst (λ xs. Contains xs imported) steps step.listed) in
      let told = target_from number publicly kept.0 imported kept.2 in
      let facts = imports_at file.0 kept.0 kept.1 in
      let there = (numbered kept.0.path imported).0 told.1 in
      record {
        facts = facts.0;
        import = kept.0;
        file = there.0;
        known = record { file = file.0; numbered = file.1; known = facts.1 };
        listed = facts.2;
        kind = told.0;
        numbered = there.1;
        path = there.2;
      }

  step_to : (importing imported : ℕ) (publicly : Bool) → Imports files importing publicly imported
      → HasStep table importing publicly imported
  step_to importing imported publicly i =
      let within = slice_get_within files importing i.known.file i.known.numbered in
      let d : Steps = some_steps table importing (omega arith) in
      let stands : slice_get table importing ≡ Some (get_or table importing d) =
      slice_get-get_or table importing d (omega arith) in
      let steps = each importing i.known.file (get_or table importing d) within i.known.numbered stands publicly in
      let listed = subst (λ f. Contains (imports_in f) i.import) (sym i.known.known) i.listed in
      let to : number i.import.path ≡ Some imported =
      (numbered i.import.path imported).1 (i.file, i.numbered, i.path) in
      record {
        steps = get_or table importing d;
        stands = stands;
        listed = subst (λ xs. Contains xs imported) (sym steps)
            (kept_if (target number publicly) (imports_of i.known.file) i.import imported listed
            (target_if number publicly i.import imported i.kind to));
      }
    where
      some_steps : (xs : List Steps) (k : ℕ) → k < length xs → Steps
      some_steps [] k h = absurd (omega arith)
      some_steps (x ∷ xs) k h = x

  steps_are_within : AreWithin table
  steps_are_within k d h publicly j e i =
      let steps = get_or table k d in
      let stands : slice_get table k ≡ Some steps = slice_get-get_or table k d h in
      let step : HasStep table k publicly (get_or (targets steps publicly) j e) =
      record { steps = steps; stands = stands; listed = Contains-get_or (targets steps publicly) j e i } in
      let imported = step_from k (get_or (targets steps publicly) j e) publicly step in
      let within = slice_get_within files (get_or (targets steps publicly) j e) imported.file imported.numbered in
      omega arith

  pub is_table : IsTableOf files table
  is_table = record {
    one_each = size;
    within = steps_are_within;
    steps = λ importing imported publicly.
        (step_from importing imported publicly, step_to importing imported publicly);
  }

-- ---- the numbers of paths

-- the map has the numbers of the paths of so many files
abbrev pub AreNumberedUpTo : {S : Type 0} → List File → HashMap (Bor (List ℕ)) ℕ S → ℕ → Type 0
AreNumberedUpTo files numbers count = (path : List ℕ) (number : ℕ) → (number_in numbers path ≡ Some number)
    ↔ (HasPathAt files path number × (number < count))

pub numbered_more : {S : Type 0} (files : List File) (old new : HashMap (Bor (List ℕ)) ℕ S) (count : ℕ) (file : File)
    → ((k : ℕ) (x : File) → k < count + 1 → slice_get files k ≡ Some x → x.path ≡ file.path → k ≡ count)
    → slice_get files count ≡ Some file
    → ((path : List ℕ) → number_in new path ≡ cond (bytes_eq file.path path) (Some count) (number_in old path))
    → AreNumberedUpTo files old count → AreNumberedUpTo files new (count + 1)
numbered_more files old new count file own stands after so_far path number =
    elim (cases_Bool (bytes_eq file.path path)) [
      | inl same ↦ (
          let equal : file.path ≡ path = (bytes_eq-Decides file.path path).0 same in
          let now : number_in new path ≡ Some count =
          after path ∙ cond-true (bytes_eq file.path path) (Some count) (number_in old path) same in (
            λ found. (let is : count ≡ number = same_Some count number (sym now ∙ found) in
                (subst (HasPathAt files path) is (file, stands, equal), omega arith)),
            λ there. (let is : count ≡ number = sym (own number there.0.0 there.1 there.0.1 (there.0.2 ∙ sym equal)) in
                now ∙ ap Some is),
          ))
      | inr apart ↦ (
          let now : number_in new path ≡ number_in old path =
          after path ∙ cond-false (bytes_eq file.path path) (Some count) (number_in old path) apart in (
            λ found. (let before = (so_far path number).0 (sym now ∙ found) in (before.0, omega (arith, before.1))),
            λ there. elim (cases_lt number count) [
              | inl before ↦ now ∙ (so_far path number).1 (there.0, before)
              | inr last ↦ (
                  let is : number ≡ count = omega (arith, there.1) in
                  let one : there.0.0 ≡ file =
                  same_Some there.0.0 file (sym there.0.1 ∙ (ap (slice_get files) is ∙ stands)) in
                  let equal : file.path ≡ path = ap (λ (f : File). f.path) (sym one) ∙ there.0.2 in
                  absurd (false≢true (sym apart ∙ (bytes_eq-Decides file.path path).1 equal)))
            ],
          ))
    ]

pub numbered_all : {S : Type 0} (files : List File) (numbers : HashMap (Bor (List ℕ)) ℕ S) (count : ℕ)
    → length files ≤ count → AreNumberedUpTo files numbers count → AreNumbered files numbers
numbered_all files numbers count all so_far path number = (
  λ found. ((so_far path number).0 found).0,
  λ there. (so_far path number).1 (there, omega (arith, slice_get_within files number there.0 there.1)),
)

-- ---- the paths of files that aren't left out

-- the map has the numbers of those of so many files
abbrev pub ArePathsUpTo : {S : Type 0} → List File → HashMap (Bor (List ℕ)) ℕ S → ℕ → Type 0
ArePathsUpTo files paths count = (path : List ℕ) (number : ℕ) → (number_in paths path ≡ Some number)
    ↔ ((HasPathAt files path number × IsPresent files number) × (number < count))

pub paths_skip : {S : Type 0} (files : List File) (paths : HashMap (Bor (List ℕ)) ℕ S) (count : ℕ) (file : File)
    → slice_get files count ≡ Some file → file.is_left_out ≡ true
    → ArePathsUpTo files paths count → ArePathsUpTo files paths (count + 1)
paths_skip files paths count file stands out so_far path number = (
  λ found. (let before = (so_far path number).0 found in (before.0, omega (arith, before.1))),
  λ there. elim (cases_lt number count) [
    | inl before ↦ (so_far path number).1 (there.0, before)
    | inr last ↦ absurd (left there.0.1 (omega (arith, there.1, last)))
  ],
)
  where
    left : IsPresent files number → number ≡ count → ⊥
    left is here =
        let same : is.file ≡ file = same_Some is.file file (sym is.numbered ∙ (ap (slice_get files) here ∙ stands)) in
        false≢true (sym is.present ∙ (ap (λ (f : File). f.is_left_out) same ∙ out))

pub paths_more : {S : Type 0} (files : List File) (old new : HashMap (Bor (List ℕ)) ℕ S) (count : ℕ) (file : File)
    → HaveOwnPaths files → slice_get files count ≡ Some file → file.is_left_out ≡ false
    → ((path : List ℕ) → number_in new path ≡ cond (bytes_eq file.path path) (Some count) (number_in old path))
    → ArePathsUpTo files old count → ArePathsUpTo files new (count + 1)
paths_more files old new count file own stands here after so_far path number =
    elim (cases_Bool (bytes_eq file.path path)) [
      | inl same ↦ (
          let equal : file.path ≡ path = (bytes_eq-Decides file.path path).0 same in
          let now : number_in new path ≡ Some count =
          after path ∙ cond-true (bytes_eq file.path path) (Some count) (number_in old path) same in (
            λ found. (
                let is : count ≡ number = same_Some count number (sym now ∙ found) in (
                  (
                    subst (HasPathAt files path) is (file, stands, equal),
                    subst (IsPresent files) is (record { file = file; numbered = stands; present = here }),
                  ),
                  omega arith,
                )),
            λ there. (
                let at = there.0.0 in
                let is : number ≡ count = own number count at.0 file at.1 stands (at.2 ∙ sym equal) in
                now ∙ ap Some (sym is)),
          ))
      | inr apart ↦ (
          let now : number_in new path ≡ number_in old path =
          after path ∙ cond-false (bytes_eq file.path path) (Some count) (number_in old path) apart in (
            λ found. (let before = (so_far path number).0 (sym now ∙ found) in (before.0, omega (arith, before.1))),
            λ there. elim (cases_lt number count) [
              | inl before ↦ now ∙ (so_far path number).1 (there.0, before)
              | inr last ↦ (
                  let at = there.0.0 in
                  let is : number ≡ count = omega (arith, there.1) in
                  let one : at.0 ≡ file = same_Some at.0 file (sym at.1 ∙ (ap (slice_get files) is ∙ stands)) in
                  let equal : file.path ≡ path = ap (λ (f : File). f.path) (sym one) ∙ at.2 in
                  absurd (false≢true (sym apart ∙ (bytes_eq-Decides file.path path).1 equal)))
            ],
          ))
    ]

pub paths_all : {S : Type 0} (files : List File) (paths : HashMap (Bor (List ℕ)) ℕ S) (count : ℕ)
    → length files ≤ count → ArePathsUpTo files paths count → ArePaths files paths
paths_all files paths count all so_far path number = (
  λ found. ((so_far path number).0 found).0,
  λ there. (so_far path number).1 (
    there,
    (let within = slice_get_within files number there.0.0 there.0.1 in omega (arith, within, all)),
  ),
)

none_left_out : (files : List File) (k : ℕ) (file : File)
    → list_any (λ (f : File). f.is_left_out) files ≡ false → slice_get files k ≡ Some file → file.is_left_out ≡ false
none_left_out [] k file none at = absurd (cc)
none_left_out (f ∷ fs) zero file none at =
    ap (λ (x : File). x.is_left_out) (sym (same_Some f file at))
    ∙ (or_parts f.is_left_out (list_any (λ (x : File). x.is_left_out) fs) none).0
none_left_out (f ∷ fs) (suc k) file none at =
    none_left_out fs k file (or_parts f.is_left_out (list_any (λ (x : File). x.is_left_out) fs) none).1 at

-- where none is left out, those of all files
pub paths_of_all : {S : Type 0} (files : List File) (numbers : HashMap (Bor (List ℕ)) ℕ S)
    → list_any (λ (f : File). f.is_left_out) files ≡ false → AreNumbered files numbers → ArePaths files numbers
paths_of_all files numbers none numbered path number = (
  λ found. (
      let at = (numbered path number).0 found in
      (at, record { file = at.0; numbered = at.1; present = none_left_out files number at.0 none at.1 })),
  λ there. (numbered path number).1 there.0,
)

-- ---- what is made of the first imports

pub filter_map_step : {X Y : Type 0} (h : X → Option Y) (xs : List X) (i : ℕ) (x : X) (old new : List Y) → i < length xs
    → x ≡ get_or xs i x
    → old ≡ filter_map h (take i xs) → new ≡ old ++ filter_map h (x ∷ []) → new ≡ filter_map h (take (i + 1) xs)
filter_map_step h xs i x old new within is so_far after =
    let one : take (i + 1) xs ≡ take i xs ++ x ∷ [] =
    take_more xs i x within ∙ ap (λ y. take i xs ++ y ∷ []) (sym is) in
    after ∙ (ap (λ ys. ys ++ filter_map h (x ∷ [])) so_far
    ∙ sym (ap (filter_map h) one ∙ filter_map-append h (take i xs) (x ∷ [])))

pub steps_more : (number : List ℕ → Option ℕ) (files : List File) (table : List Steps) (count : ℕ) (file : File)
    (steps : Steps) → length table ≡ count → slice_get files count ≡ Some file
    → AreStepsOf number file steps → AreStepsUpTo number files table count
    → AreStepsUpTo number files (table ++ steps ∷ []) (count + 1)
steps_more number files table count file steps size stands here each k one its h at there = elim (cases_lt k count) [
  | inl before ↦ each k one its before at (sym (slice_get_prefix table (steps ∷ []) k (omega arith)) ∙ there)
  | inr last ↦ (
      let is : k ≡ count = omega arith in
      let same : one ≡ file = same_Some one file (sym at ∙ (ap (slice_get files) is ∙ stands)) in
      let last : slice_get (table ++ steps ∷ []) k ≡ Some steps =
      slice_get-get_or (table ++ steps ∷ []) k steps (omega (arith, length_push table steps))
      ∙ ap Some (get_or_push table steps steps k (size ∙ sym is)) in
      let its_is : its ≡ steps = same_Some its steps (sym there ∙ last) in
      subst (λ f. AreStepsOf number f its) (sym same) (subst (AreStepsOf number file) (sym its_is) here))
]

-- ---- whether paths are apart

-- no two of the first so many files have one path
abbrev pub OwnUpTo : List File → (count : ℕ) → Type 0
OwnUpTo files count = (i j : ℕ) (a b : File) → i < count → j < count → slice_get files i ≡ Some a
    → slice_get files j ≡ Some b → a.path ≡ b.path → i ≡ j

pub own_all : (files : List File) (count : ℕ) → length files ≤ count → OwnUpTo files count → HaveOwnPaths files
own_all files count all own i j a b at there same =
    let i_within = slice_get_within files i a at in
    let j_within = slice_get_within files j b there in
    own i j a b (omega arith) (omega arith) at there same

-- the path at hand has no number yet
pub own_more : {S : Type 0} (files : List File) (old : HashMap (Bor (List ℕ)) ℕ S) (count : ℕ) (file : File)
    → slice_get files count ≡ Some file → number_in old file.path ≡ None
    → AreNumberedUpTo files old count → OwnUpTo files count → OwnUpTo files (count + 1)
own_more files old count file stands new numbered own i j a b i_in j_in at there same = elim (cases_lt i count) [
  | inl i_front ↦ elim (cases_lt j count) [
    | inl j_front ↦ own i j a b i_front j_front at there same
    | inr j_last ↦ absurd (never i a i_front at (same ∙ path_of j b (omega arith) there))
  ]
  | inr i_last ↦ elim (cases_lt j count) [
    | inl j_front ↦ absurd (never j b j_front there (sym same ∙ path_of i a (omega arith) at))
    | inr j_last ↦ omega arith
  ]
]
  where
    path_of : (k : ℕ) (x : File) → k ≡ count → slice_get files k ≡ Some x → x.path ≡ file.path
    path_of k x is here = ap (λ (f : File). f.path) (same_Some x file (sym here ∙ (ap (slice_get files) is ∙ stands)))

    never : (k : ℕ) (x : File) → k < count → slice_get files k ≡ Some x → x.path ≡ file.path → ⊥
    never k x before here path =
        let some : number_in old file.path ≡ Some k = (numbered file.path k).1 ((x, here, path), before) in
        let wrong : None ≡ Some k = sym new ∙ some in
        absurd (cc)

-- the path at hand has a number, of a file before it
pub not_own : {S : Type 0} (files : List File) (old : HashMap (Bor (List ℕ)) ℕ S) (count : ℕ) (file : File)
    (first : Option ℕ) → slice_get files count ≡ Some file → first ≡ number_in old file.path
    → is_some first ≡ true
    → AreNumberedUpTo files old count → HaveOwnPaths files → ⊥
not_own files old count file None stands is some numbered own = false≢true some
not_own files old count file (Some k) stands is some numbered own =
    let there = (numbered file.path k).0 (sym is) in
    let same : k ≡ count = own k count there.0.0 file there.0.1 stands there.0.2 in
    omega (arith, there.1)

pub no_number : (o other : Option ℕ) → o ≡ other → is_some o ≡ false → other ≡ None
no_number None other is none = sym is
no_number (Some k) other is none = absurd (false≢true (sym none))
