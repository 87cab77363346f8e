-- The marked files are those that count: each the first of its path, and of a path that isn't taken.
use Rattle.std.proofs.Common.{◌≡◌, ◌⊎◌, inl, inr, ℕ, ◌+◌, ◌<◌, ◌≤◌, Bool, true, false, not, List, [], ◌∷◌, ◌++◌, length}
use Rattle.std.proofs.Common.{take, drop, get_or, refl, ap, sym, ◌∙◌, subst, cond, arith, append_assoc}
use Rattle.std.specs.Str.{bytes_eq}
use Rattle.std.specs.List.{All, AllByRecursion, Contains, IsDistinct}
use Rattle.std.proofs.lemmas.Bool.{cases_Bool, cond-true, cond-false, false_from_ne_true}
use Rattle.std.proofs.lemmas.List.{take_more, drop_more, drop_all, map-append, append-nil}
use Rattle.std.proofs.lemmas.Cmp.{nat_list_eq_equiv}
use Rattle.std.proofs.lemmas.Slice.Eq.{bytes_eq-Decides}
use Rattle.std.proofs.lemmas.Map.Views.{list_any-from_Contains, Contains-from_any}
use Rattle.std.proofs.lemmas.List.Elements.{All-cons, All-head, All-tail, Contains-append_left, Contains-append_cases}
use Rattle.std.proofs.lemmas.List.Elements.{Contains-push}
use Rattle.basics.proofs.ListLemmas.{only, in_front, behind_it, in_nothing}
use Rattle.source_tree.specs.Files.{SourceFile, paths_of, HasPath}
use Rattle.source_tree.specs.Trees.{IsFirstOfPath}
use Rattle.source_tree.specs.Marks.{is_taken, marks_of, marked}
use Rattle.basics.proofs.StrictOrderLemmas.{in_either}
use Rattle.source_tree.proofs.PathLemmas.{AreDistinct}

-- ---- taken paths

pub taken_from : (taken : List (List ℕ)) (path : List ℕ) → is_taken taken path ≡ true → Contains taken path
taken_from taken path e = Contains-from_any (λ x y. (bytes_eq-Decides x y).0) path taken e

pub taken_if : (taken : List (List ℕ)) (path : List ℕ) → Contains taken path → is_taken taken path ≡ true
taken_if taken path there = list_any-from_Contains nat_list_eq_equiv path taken there

free_from : (taken : List (List ℕ)) (path : List ℕ) → is_taken taken path ≡ false → Contains taken path → ⊥
free_from taken path e there = let holds = taken_if taken path there in absurd cc

free_if : (taken : List (List ℕ)) (path : List ℕ) → (Contains taken path → ⊥) → is_taken taken path ≡ false
free_if taken path apart = false_from_ne_true (is_taken taken path) (λ e. apart (taken_from taken path e))

-- ---- the first of its path, of a path that isn't taken

pub record IsFirstOf (taken : List (List ℕ)) (files : List SourceFile) (file : SourceFile) : Type 0 where
  pub before : List SourceFile
  pub behind : List SourceFile
  pub listed : files ≡ before ++ file ∷ behind
  pub first : HasPath before file.path → ⊥
  pub free : Contains taken file.path → ⊥

-- what is marked behind a file
abbrev rest_of : List (List ℕ) → SourceFile → List SourceFile → List SourceFile
rest_of taken x files = marked (marks_of (taken ++ x.path ∷ []) files) files

marks_free : (taken : List (List ℕ)) (x : SourceFile) (files : List SourceFile) → is_taken taken x.path ≡ false
    → marked (marks_of taken (x ∷ files)) (x ∷ files) ≡ x ∷ rest_of taken x files
marks_free taken x files e = rw e refl

marks_taken : (taken : List (List ℕ)) (x : SourceFile) (files : List SourceFile) → is_taken taken x.path ≡ true
    → marked (marks_of taken (x ∷ files)) (x ∷ files) ≡ rest_of taken x files
marks_taken taken x files e = rw e refl

-- a file is first behind another of another path
first_behind : (taken : List (List ℕ)) (x : SourceFile) (files : List SourceFile) (file : SourceFile)
    → IsFirstOf (taken ++ x.path ∷ []) files file → IsFirstOf taken (x ∷ files) file
first_behind taken x files file it = record {
  before = x ∷ it.before;
  behind = it.behind;
  listed = ap (λ rest. x ∷ rest) it.listed;
  first = λ there. elim (in_either x.path (paths_of it.before) file.path there) [
    | inl same ↦ it.free (subst (λ p. Contains (taken ++ x.path ∷ []) p) same (Contains-push taken x.path))
    | inr later ↦ it.first later
  ];
  free = λ there. it.free (Contains-append_left taken (x.path ∷ []) file.path there);
}

pub marked_found : (taken : List (List ℕ)) (files : List SourceFile) (file : SourceFile)
    → Contains (marked (marks_of taken files) files) file → IsFirstOf taken files file
marked_found taken [] file there = absurd (in_nothing file there)
marked_found taken (x ∷ files) file there = elim (cases_Bool (is_taken taken x.path)) [
  | inl holds ↦ first_behind taken x files file
      (marked_found (taken ++ x.path ∷ []) files file
      (subst (λ l. Contains l file) (marks_taken taken x files holds) there))
  | inr fails ↦ elim (in_either x (rest_of taken x files) file
      (subst (λ l. Contains l file) (marks_free taken x files fails) there)) [
        | inr later ↦ first_behind taken x files file (marked_found (taken ++ x.path ∷ []) files file later)
        | inl same ↦ record {
          before = [];
          behind = files;
          listed = ap (λ f. f ∷ files) same;
          first = λ none. in_nothing file.path none;
          free = λ there. free_from taken x.path fails
              (subst (λ (f : SourceFile). Contains taken f.path) (sym same) there);
        }
      ]
]

-- what is marked behind a file is marked
marked_behind : (taken : List (List ℕ)) (x : SourceFile) (files : List SourceFile) (file : SourceFile)
    → Contains (rest_of taken x files) file → Contains (marked (marks_of taken (x ∷ files)) (x ∷ files)) file
marked_behind taken x files file later = elim (cases_Bool (is_taken taken x.path)) [
  | inl holds ↦ subst (λ l. Contains l file) (sym (marks_taken taken x files holds)) later
  | inr fails ↦ subst (λ l. Contains l file) (sym (marks_free taken x files fails))
      (behind_it x (rest_of taken x files) file later)
]

marked_split : (before : List SourceFile) (taken : List (List ℕ)) (file : SourceFile) (behind : List SourceFile)
    → (HasPath before file.path → ⊥) → (Contains taken file.path → ⊥)
    → Contains (marked (marks_of taken (before ++ file ∷ behind)) (before ++ file ∷ behind)) file
marked_split [] taken file behind first free =
    subst (λ l. Contains l file) (sym (marks_free taken file behind (free_if taken file.path free)))
    (in_front file (rest_of taken file behind))
marked_split (x ∷ before) taken file behind first free =
    marked_behind taken x (before ++ file ∷ behind) file
    (marked_split before (taken ++ x.path ∷ []) file behind
    (λ there. first (behind_it x.path (paths_of before) file.path there))
    (λ there. elim (Contains-append_cases taken (x.path ∷ []) file.path there) [
      | inl old ↦ free old
      | inr new ↦ first (subst (λ p. Contains (x.path ∷ paths_of before) p) (only x.path file.path new)
          (in_front x.path (paths_of before)))
    ]))

-- ---- included files that count

pub counts_found : (sources included : List SourceFile) (file : SourceFile)
    → Contains (marked (marks_of (paths_of sources) included) included) file → IsFirstOfPath sources included file
counts_found sources included file there =
    let it = marked_found (paths_of sources) included file there in
    record { before = it.before; behind = it.behind; listed = it.listed; first = it.first; apart = it.free }

pub counts_marked : (sources included : List SourceFile) (file : SourceFile) → IsFirstOfPath sources included file
    → Contains (marked (marks_of (paths_of sources) included) included) file
counts_marked sources included file it =
    subst (λ l. Contains (marked (marks_of (paths_of sources) l) l) file) (sym it.listed)
    (marked_split it.before (paths_of sources) file it.behind it.first it.apart)

-- ---- what is kept of a list

pub length-marks : (taken : List (List ℕ)) (files : List SourceFile) → length (marks_of taken files) ≡ length files
length-marks taken [] = refl
length-marks taken (x ∷ files) = omega (arith, length-marks (taken ++ x.path ∷ []) files)

pub length-marked : (marks : List Bool) (files : List SourceFile) → length (marked marks files) ≤ length files
length-marked [] files = omega arith
length-marked (mark ∷ marks) [] = omega arith
length-marked (true ∷ marks) (x ∷ files) = omega (arith, length-marked marks files)
length-marked (false ∷ marks) (x ∷ files) = omega (arith, length-marked marks files)

pub All-marked : (P : SourceFile → Type 0) (marks : List Bool) (files : List SourceFile) → All P files
    → All P (marked marks files)
All-marked P [] files each = λ k d h. absurd (omega arith)
All-marked P (mark ∷ marks) [] each = λ k d h. absurd (omega arith)
All-marked P (true ∷ marks) (x ∷ files) each =
    All-cons P x (marked marks files) (All-head P x files each) (All-marked P marks files (All-tail P x files each))
All-marked P (false ∷ marks) (x ∷ files) each = All-marked P marks files (All-tail P x files each)

free_either : (taken : List (List ℕ)) (path : List ℕ) (x : SourceFile) (files : List SourceFile) → Contains taken path
    → AllByRecursion (λ other. bytes_eq path other ≡ false) (paths_of (rest_of taken x files))
    → AllByRecursion (λ other. bytes_eq path other ≡ false) (paths_of (marked (marks_of taken (x ∷ files)) (x ∷ files)))
free_either taken path x files there later = elim (cases_Bool (is_taken taken x.path)) [
  | inl holds ↦ subst (λ l. AllByRecursion (λ other. bytes_eq path other ≡ false) (paths_of l))
      (sym (marks_taken taken x files holds)) later
  | inr fails ↦ subst (λ l. AllByRecursion (λ other. bytes_eq path other ≡ false) (paths_of l))
      (sym (marks_free taken x files fails)) (differ fails, later)
]
  where
    differ : is_taken taken x.path ≡ false → bytes_eq path x.path ≡ false
    differ fails = false_from_ne_true (bytes_eq path x.path)
        (λ e. free_from taken x.path fails (subst (λ p. Contains taken p) ((bytes_eq-Decides path x.path).0 e) there))

-- no path that is taken is that of a marked file
free_marked : (taken : List (List ℕ)) (path : List ℕ) (files : List SourceFile) → Contains taken path
    → AllByRecursion (λ other. bytes_eq path other ≡ false) (paths_of (marked (marks_of taken files) files))
free_marked taken path [] there = tt
free_marked taken path (x ∷ files) there =
    free_either taken path x files there
    (free_marked (taken ++ x.path ∷ []) path files (Contains-append_left taken (x.path ∷ []) path there))

-- no two marked files have one path
pub distinct_marked : (taken : List (List ℕ)) (files : List SourceFile)
    → AreDistinct (marked (marks_of taken files) files)
unfolding IsDistinct
distinct_marked taken [] = tt
distinct_marked taken (x ∷ files) = elim (cases_Bool (is_taken taken x.path)) [
  | inl holds ↦ subst (λ l. AreDistinct l) (sym (marks_taken taken x files holds))
      (distinct_marked (taken ++ x.path ∷ []) files)
  | inr fails ↦ subst (λ l. AreDistinct l) (sym (marks_free taken x files fails)) (
    free_marked (taken ++ x.path ∷ []) x.path files (Contains-push taken x.path),
    distinct_marked (taken ++ x.path ∷ []) files,
  )
]

-- ---- loops

-- one path more is taken
pub taken_more : (taken : List (List ℕ)) (new path : List ℕ)
    → is_taken (taken ++ new ∷ []) path ≡ cond (bytes_eq new path) true (is_taken taken path)
taken_more taken new path = elim (cases_Bool (bytes_eq new path)) [
  | inl holds ↦ taken_if (taken ++ new ∷ []) path
      (subst (λ p. Contains (taken ++ new ∷ []) p) ((bytes_eq-Decides new path).0 holds) (Contains-push taken new))
      ∙ sym (cond-true (bytes_eq new path) true (is_taken taken path) holds)
  | inr fails ↦ by fails (is_taken taken path) refl
      ∙ sym (cond-false (bytes_eq new path) true (is_taken taken path) fails)
]
  where
    by : bytes_eq new path ≡ false → (b : Bool) → is_taken taken path ≡ b
        → is_taken (taken ++ new ∷ []) path ≡ is_taken taken path
    by fails true e = taken_if (taken ++ new ∷ []) path
        (Contains-append_left taken (new ∷ []) path (taken_from taken path e)) ∙ sym e
    by fails false e = free_if (taken ++ new ∷ []) path
        (λ there. elim (Contains-append_cases taken (new ∷ []) path there) [
          | inl old ↦ free_from taken path e old
          | inr one ↦ (let same : new ≡ path = only new path one in
              let holds : bytes_eq new path ≡ true = (bytes_eq-Decides new path).1 same in absurd cc)
        ]) ∙ sym e

-- the paths of one file more
pub paths_more : (files : List SourceFile) (count : ℕ) (file : SourceFile) → count < length files
    → file ≡ get_or files count file
    → paths_of (take (count + 1) files) ≡ paths_of (take count files) ++ file.path ∷ []
paths_more files count file within is =
    ap paths_of (take_more files count file within ∙ ap (λ (f : SourceFile). take count files ++ f ∷ []) (sym is))
    ∙ map-append (λ (f : SourceFile). f.path) (take count files) (file ∷ [])

-- what is left of the files begins with the next one
pub left_at : (files : List SourceFile) (count : ℕ) (file : SourceFile) → count < length files
    → file ≡ get_or files count file → drop count files ≡ file ∷ drop (count + 1) files
left_at files count file within is =
    drop_more files count file within ∙ ap (λ (f : SourceFile). f ∷ drop (count + 1) files) (sym is)

taken_with : (taken : List (List ℕ)) (files : List SourceFile) (count : ℕ) (file : SourceFile) → count < length files
    → file ≡ get_or files count file
    → taken ++ paths_of (take (count + 1) files) ≡ (taken ++ paths_of (take count files)) ++ file.path ∷ []
taken_with taken files count file within is =
    ap (λ l. taken ++ l) (paths_more files count file within is)
    ∙ sym (append_assoc taken (paths_of (take count files)) (file.path ∷ []))

-- the mark of one file more
pub marks_more : (taken : List (List ℕ)) (marks : List Bool) (files : List SourceFile) (count : ℕ) (file : SourceFile)
    (mark : Bool) → count < length files → file ≡ get_or files count file
    → mark ≡ not (is_taken (taken ++ paths_of (take count files)) file.path)
    → marks ++ marks_of (taken ++ paths_of (take count files)) (drop count files) ≡ marks_of taken files
    → (marks ++ mark ∷ []) ++ marks_of (taken ++ paths_of (take (count + 1) files)) (drop (count + 1) files)
    ≡ marks_of taken files
marks_more taken marks files count file mark within is due whole =
    let before = taken ++ paths_of (take count files) in
    let rest = drop (count + 1) files in
    append_assoc marks (mark ∷ []) (marks_of (taken ++ paths_of (take (count + 1) files)) rest)
    ∙ ap (λ l. marks ++ l) (ap (λ m. m ∷ marks_of (taken ++ paths_of (take (count + 1) files)) rest) due
    ∙ ap (λ t. not (is_taken before file.path) ∷ marks_of t rest) (taken_with taken files count file within is)
    ∙ sym (ap (marks_of before) (left_at files count file within is)))
    ∙ whole

-- the taken paths with those of one file more
pub taken_step : (taken : List (List ℕ)) (files : List SourceFile) (count : ℕ) (file : SourceFile) (path : List ℕ)
    → count < length files → file ≡ get_or files count file
    → is_taken (taken ++ paths_of (take (count + 1) files)) path
    ≡ cond (bytes_eq file.path path) true (is_taken (taken ++ paths_of (take count files)) path)
taken_step taken files count file path within is =
    ap (λ l. is_taken l path) (taken_with taken files count file within is)
    ∙ taken_more (taken ++ paths_of (take count files)) file.path path

-- where the files have ended, all marks are there
pub marks_end : (marks : List Bool) (taken : List (List ℕ)) (files : List SourceFile) (count : ℕ) (all : List Bool)
    → length files ≤ count → marks ++ marks_of taken (drop count files) ≡ all → marks ≡ all
marks_end marks taken files count all past whole =
    sym (append-nil marks) ∙ ap (λ l. marks ++ marks_of taken l) (sym (drop_all count files past)) ∙ whole

-- where the files or the marks have ended, all marked files are there
pub counted_end : (counted : List SourceFile) (marks : List Bool) (files : List SourceFile) (all : List SourceFile)
    → (length files ≡ 0) ⊎ (length marks ≡ 0) → counted ++ marked marks files ≡ all → counted ≡ all
counted_end counted marks files all ended whole =
    sym (append-nil counted) ∙ ap (λ l. counted ++ l) (sym (none marks files ended)) ∙ whole
  where
    none : (marks : List Bool) (files : List SourceFile) → (length files ≡ 0) ⊎ (length marks ≡ 0)
        → marked marks files ≡ []
    none [] files ended = refl
    none (mark ∷ marks) [] ended = refl
    none (mark ∷ marks) (file ∷ files) (inl e) = absurd (omega arith)
    none (mark ∷ marks) (file ∷ files) (inr e) = absurd (omega arith)
