-- An order of files, and rows of places in it.
use Rattle.std.proofs.Common.{◌≡◌, ◌↔◌, ◌⊎◌, inl, inr, ℕ, ◌+◌, ◌<◌, ◌≤◌, zero, suc, List, [], ◌∷◌, ◌++◌, length, get_or}
use Rattle.std.proofs.Common.{set, take, eqb, Option, Some, None, refl, ap, sym, ◌∙◌, subst, arith}
use Rattle.std.specs.List.{Contains, IsDistinct, slice_get}
use Rattle.std.proofs.lemmas.Bool.{cases_lt, eq-eqb, false≢true}
use Rattle.std.proofs.lemmas.Option.{slice_get_within, slice_get-get_or, get_or_from_slice_get, same_Some}
use Rattle.std.proofs.lemmas.List.{length-set, get_or-set_same, get_or-set_other, take_more}
use Rattle.std.proofs.lemmas.List.Elements.{All-append, All-cons, All-nil, Contains-append_cases, Contains-append_left}
use Rattle.std.proofs.lemmas.List.Elements.{Contains-append_right, Contains-push, filter_map-append}
use Rattle.std.proofs.lemmas.Map.Keys.{apart_from_distinct}
use Rattle.proto_visibility.specs.declared.rows.Run.{Run}
use Rattle.proto_visibility.specs.Tables.Rows.{numbers_in, IsIn, files_at, AreRanks, AreWhole, IsWith}
use Rattle.proto_visibility.proofs.ImportTableLemmas.{kept_from, kept_if}
use Rattle.proto_visibility.specs.Tables.Visits.{visit}
use Rattle.proto_visibility.proofs.SeeingLemmas.{visits_keep}
use Rattle.proto_visibility.proofs.RowRunLemmas.{in_one, in_runs_from, in_runs_if, numbers_append}

-- ---- a walk that finds all files

pub visit_keeps : (found : List ℕ) (number other : ℕ) → Contains found other → Contains (visit found number) other
visit_keeps found number other there = visits_keep found (number ∷ []) other there

pub found_more : (old new : List ℕ) (file : ℕ) → ((number : ℕ) → Contains old number → Contains new number)
    → Contains new file → ((number : ℕ) → number < file → Contains old number)
    → (number : ℕ) → number < file + 1 → Contains new number
found_more old new file kept found so_far number few = elim (cases_lt number file) [
  | inl before ↦ kept number (so_far number before)
  | inr last ↦ (let at : number ≡ file = omega (arith, few, last) in subst (Contains new) (sym at) found)
]

-- ---- the place of each file

-- the first so many files have their places
abbrev pub AreRanked : (files ranks : List ℕ) → (count : ℕ) → Type 0
AreRanked files ranks count = (k number : ℕ) → k < count → slice_get files k ≡ Some number
    → slice_get ranks number ≡ Some k

stands_at : (xs : List ℕ) (k x : ℕ) → k < length xs → get_or xs k 0 ≡ x → slice_get xs k ≡ Some x
stands_at xs k x within is = slice_get-get_or xs k 0 within ∙ ap Some is

-- two places have two files
pub apart : (files : List ℕ) (j k : ℕ) → IsDistinct eqb files → j < k → k < length files
    → get_or files j 0 ≡ get_or files k 0 → ⊥
apart files j k distinct less within same =
    false≢true (sym (apart_from_distinct eqb files j k 0 distinct less within)
    ∙ eq-eqb (get_or files j 0) (get_or files k 0) same)

pub ranked_more : (files ranks : List ℕ) (rank number : ℕ) → IsDistinct eqb files → rank < length files
    → number ≡ get_or files rank 0 → number < length ranks → AreRanked files ranks rank
    → AreRanked files (set ranks number rank) (rank + 1)
ranked_more files ranks rank number distinct within is inside so_far k other few stands =
    let size = length-set ranks number rank in
    let there = get_or_from_slice_get files k other 0 stands in
    elim (cases_lt k rank) [
      | inl before ↦ (
          let old = so_far k other before stands in
          let held = slice_get_within ranks other k old in
          let differs : other ≡ number → ⊥ =
          λ same. apart files k rank distinct before within (there ∙ (same ∙ is)) in
          stands_at (set ranks number rank) other k (omega (arith, held, size))
          (get_or-set_other ranks number other rank 0 differs ∙ get_or_from_slice_get ranks other k 0 old))
      | inr last ↦ (
          let at : k ≡ rank = omega (arith, few, last) in
          let same : other ≡ number = sym there ∙ (ap (λ n. get_or files n 0) at ∙ sym is) in
          subst (λ n. slice_get (set ranks number rank) n ≡ Some k) (sym same)
          (stands_at (set ranks number rank) number k (omega (arith, inside, size))
          (get_or-set_same ranks number rank 0 inside ∙ sym at)))
    ]

pub ranked_all : (files ranks : List ℕ) (count upto : ℕ) → length ranks ≡ count → length files ≤ upto
    → ((number : ℕ) → number < count → Contains files number) → AreRanked files ranks upto → AreRanks files ranks
ranked_all files ranks count upto size all each ranked number rank = (
  λ stands. (let within = slice_get_within files rank number stands in
      ranked rank number (omega (arith, within, all)) stands),
  λ stands. (
      let within = slice_get_within ranks number rank stands in
      let there = each number (omega (arith, within, size)) in
      let is : slice_get files there.0 ≡ Some number =
      slice_get-get_or files there.0 number there.1 ∙ ap Some there.2 in
      let held = ranked there.0 number (omega (arith, there.1, all)) is in
      let same : there.0 ≡ rank = same_Some there.0 rank (sym held ∙ stands) in
      subst (λ k. slice_get files k ≡ Some number) same is
      ),
)

-- ---- files at places

pub files_same : (order places others : List ℕ) → ((place : ℕ) → Contains places place ↔ Contains others place)
    → (number : ℕ) → Contains (files_at order places) number ↔ Contains (files_at order others) number
files_same order places others same number = (
  λ there. (let at = kept_from (slice_get order) places number there in
      kept_if (slice_get order) others at.0 number ((same at.0).0 at.1) at.2),
  λ there. (let at = kept_from (slice_get order) others number there in
      kept_if (slice_get order) places at.0 number ((same at.0).1 at.1) at.2),
)

-- ---- runs with more files

pub files_appended : (order : List ℕ) (runs more : List Run) (file : ℕ)
    → Contains (files_at order (numbers_in (runs ++ more))) file
    ↔ (Contains (files_at order (numbers_in runs)) file ⊎ Contains (files_at order (numbers_in more)) file)
files_appended order runs more file =
    let parts : files_at order (numbers_in (runs ++ more))
    ≡ files_at order (numbers_in runs) ++ files_at order (numbers_in more) =
    ap (files_at order) (numbers_append runs more)
    ∙ filter_map-append (slice_get order) (numbers_in runs) (numbers_in more) in (
      λ there. Contains-append_cases (files_at order (numbers_in runs)) (files_at order (numbers_in more)) file
          (subst (λ (xs : List ℕ). Contains xs file) parts there),
      λ there. subst (λ (xs : List ℕ). Contains xs file) (sym parts) (elim there [
        | inl old ↦ Contains-append_left (files_at order (numbers_in runs)) (files_at order (numbers_in more)) file old
        | inr new ↦ Contains-append_right (files_at order (numbers_in runs)) (files_at order (numbers_in more)) file new
      ]),
    )

-- runs with others, which have just these files
pub with_runs : (order : List ℕ) (old more new : List Run) (More : ℕ → Type 0) → new ≡ old ++ more → AreWhole more
    → ((file : ℕ) → Contains (files_at order (numbers_in more)) file ↔ More file) → IsWith order old new More
with_runs order old more new More is whole are =
    subst (λ (runs : List Run). IsWith order old runs More) (sym is) (record {
      has = λ file. (
        λ there. elim ((files_appended order old more file).0 there) [
          | inl before ↦ inl before
          | inr here ↦ inr ((are file).0 here)
        ],
        λ there. (files_appended order old more file).1 (elim there [
          | inl before ↦ inl before
          | inr here ↦ inr ((are file).1 here)
        ]),
      );
      whole = λ before. All-append (λ (run : Run). run.first ≤ run.last) old more before whole;
    })

-- runs with the place of one file
pub with_one : (order : List ℕ) (old new : List Run) (place number : ℕ) → slice_get order place ≡ Some number
    → new ≡ old ++ (record { first = place; last = place }) ∷ [] → IsWith order old new (λ file. file ≡ number)
with_one order old new place number stands is =
    with_runs order old (one ∷ []) new (λ file. file ≡ number) is
    (All-cons (λ (run : Run). run.first ≤ run.last) one [] (omega arith)
    (All-nil (λ (run : Run). run.first ≤ run.last)))
    (λ file. (
      λ there. (
          let at = kept_from (slice_get order) (numbers_in (one ∷ [])) file there in
          let here = in_one one at.0 at.1 in
          let same : at.0 ≡ place = omega (arith, here.0, here.1) in
          same_Some file number (sym at.2 ∙ (ap (slice_get order) same ∙ stands))
          ),
      λ same. kept_if (slice_get order) (numbers_in (one ∷ [])) place file
          (in_runs_if (one ∷ []) 0 one place refl (omega arith, omega arith)) (stands ∙ ap Some (sym same)),
    ))
  where
    one : Run
    one = record { first = place; last = place }

pub with_none : (order : List ℕ) (runs : List Run) (More : ℕ → Type 0) → ((file : ℕ) → More file → ⊥)
    → IsWith order runs runs More
with_none order runs More none = record {
  has = λ file. (
    λ there. inl there,
    λ there. elim there [
      | inl old ↦ old
      | inr new ↦ absurd (none file new)
    ],
  );
  whole = λ before. before;
}

-- first some files more, and then others
pub with_both : (order : List ℕ) (first second third : List Run) (More Others Both : ℕ → Type 0)
    → IsWith order first second More → IsWith order second third Others
    → ((file : ℕ) → Both file ↔ (More file ⊎ Others file)) → IsWith order first third Both
with_both order first second third More Others Both a b are = record {
  has = λ file. (
    λ there. elim ((b.has file).0 there) [
      | inl old ↦ elim ((a.has file).0 old) [
        | inl before ↦ inl before
        | inr more ↦ inr ((are file).1 (inl more))
      ]
      | inr other ↦ inr ((are file).1 (inr other))
    ],
    λ there. elim there [
      | inl before ↦ (b.has file).1 (inl ((a.has file).1 (inl before)))
      | inr both ↦ elim ((are file).0 both) [
        | inl more ↦ (b.has file).1 (inl ((a.has file).1 (inr more)))
        | inr other ↦ (b.has file).1 (inr other)
      ]
    ],
  );
  whole = λ before. b.whole (a.whole before);
}

-- none, and then these
pub with_all : (order : List ℕ) (none runs : List Run) (row : List ℕ) (These : ℕ → Type 0) → none ≡ []
    → IsWith order none runs These → ((number : ℕ) → Contains row number ↔ Contains (numbers_in runs) number)
    → (file : ℕ) → Contains (files_at order row) file ↔ These file
with_all order none runs row These empty are same file = (
  λ there. elim ((are.has file).0 ((files_same order row (numbers_in runs) same file).0 there)) [
    | inl old ↦ absurd (nothing (subst (λ (rs : List Run). Contains (files_at order (numbers_in rs)) file) empty old))
    | inr is ↦ is
  ],
  λ is. (files_same order row (numbers_in runs) same file).1 ((are.has file).1 (inr is)),
)
  where
    nothing : Contains (files_at order (numbers_in [])) file → ⊥
    nothing there = omega (arith, there.1)

pub all_whole : (order : List ℕ) (none runs : List Run) (These : ℕ → Type 0) → none ≡ [] → IsWith order none runs These
    → AreWhole runs
all_whole order none runs These empty are =
    are.whole (subst AreWhole (sym empty) (All-nil (λ (run : Run). run.first ≤ run.last)))

-- one of the first so many, and the next one
pub first_and_next : (numbers : List ℕ) (index next file : ℕ) → index < length numbers → next ≡ get_or numbers index 0
    → Contains (take (index + 1) numbers) file ↔ (Contains (take index numbers) file ⊎ (file ≡ next))
first_and_next numbers index next file within is =
    let more : take (index + 1) numbers ≡ take index numbers ++ next ∷ [] =
    take_more numbers index 0 within ∙ ap (λ n. take index numbers ++ n ∷ []) (sym is) in (
      λ there. elim (Contains-append_cases (take index numbers) (next ∷ []) file
          (subst (λ (xs : List ℕ). Contains xs file) more there)) [
            | inl old ↦ inl old
            | inr last ↦ inr (sym (only next file last))
          ],
      λ there. subst (λ (xs : List ℕ). Contains xs file) (sym more) (elim there [
        | inl old ↦ Contains-append_left (take index numbers) (next ∷ []) file old
        | inr same ↦ subst (Contains (take index numbers ++ next ∷ [])) (sym same)
            (Contains-push (take index numbers) next)
      ]),
    )
  where
    only : (x y : ℕ) → Contains (x ∷ []) y → x ≡ y
    only x y (zero, h, e) = e
    only x y (suc k, h, e) = absurd (omega arith)

-- ---- a file in a row

module _ (order places : List ℕ) (number : ℕ) (rank : Option ℕ)
    (ranked : (place : ℕ) → (slice_get order place ≡ Some number) ↔ (rank ≡ Some place)) where
  pub has_by_place : (place : ℕ) → rank ≡ Some place → Contains places place ↔ Contains (files_at order places) number
  has_by_place place is = (
    λ there. kept_if (slice_get order) places place number there ((ranked place).1 is),
    λ there. (
        let at = kept_from (slice_get order) places number there in
        let same : at.0 ≡ place = same_Some at.0 place (sym ((ranked at.0).0 at.2) ∙ is) in
        subst (Contains places) same at.1
        ),
  )

  pub has_no_place : rank ≡ None → Contains (files_at order places) number → ⊥
  has_no_place none there =
      let at = kept_from (slice_get order) places number there in
      let some = (ranked at.0).0 at.2 in
      cc

-- ---- files of runs that are among numbers

-- no file at a place of the run is among the numbers
abbrev pub NoneOfRun : (order : List ℕ) → Run → (numbers : List ℕ) → Type 0
NoneOfRun order run numbers = (place number : ℕ) → IsIn run place → slice_get order place ≡ Some number
    → Contains numbers number → ⊥

-- no file at one of its places before this one is
abbrev pub NoneOfRunUpTo : (order : List ℕ) → Run → (numbers : List ℕ) → (upto : ℕ) → Type 0
NoneOfRunUpTo order run numbers upto = (place number : ℕ) → run.first ≤ place → place < upto
    → slice_get order place ≡ Some number → Contains numbers number → ⊥

pub none_of_run_more : (order numbers : List ℕ) (run : Run) (upto : ℕ)
    → ((number : ℕ) → slice_get order upto ≡ Some number → Contains numbers number → ⊥)
    → NoneOfRunUpTo order run numbers upto → NoneOfRunUpTo order run numbers (upto + 1)
none_of_run_more order numbers run upto not so_far place number low high stands there = elim (cases_lt place upto) [
  | inl before ↦ so_far place number low before stands there
  | inr last ↦ (let at : place ≡ upto = omega (arith, high, last) in
      not number (subst (λ n. slice_get order n ≡ Some number) at stands) there)
]

pub none_of_run : (order numbers : List ℕ) (run : Run) (upto : ℕ) → run.last < upto
    → NoneOfRunUpTo order run numbers upto → NoneOfRun order run numbers
none_of_run order numbers run upto all so_far place number is stands there =
    so_far place number is.0 (omega (arith, is.1, all)) stands there

-- no file of the first so many runs is
abbrev pub NoneOfRunsUpTo : (order : List ℕ) → List Run → (numbers : List ℕ) → (count : ℕ) → Type 0
NoneOfRunsUpTo order runs numbers count = (k : ℕ) (run : Run) → k < count → slice_get runs k ≡ Some run
    → NoneOfRun order run numbers

pub none_of_runs_more : (order : List ℕ) (runs : List Run) (numbers : List ℕ) (count : ℕ) (run : Run)
    → slice_get runs count ≡ Some run → NoneOfRun order run numbers → NoneOfRunsUpTo order runs numbers count
    → NoneOfRunsUpTo order runs numbers (count + 1)
none_of_runs_more order runs numbers count run stands none so_far k other few at = elim (cases_lt k count) [
  | inl before ↦ so_far k other before at
  | inr last ↦ (
      let here : k ≡ count = omega (arith, few, last) in
      let same : other ≡ run = same_Some other run (sym at ∙ (ap (slice_get runs) here ∙ stands)) in
      subst (λ (r : Run). NoneOfRun order r numbers) (sym same) none)
]

pub none_of_runs : (order : List ℕ) (runs : List Run) (numbers places row : List ℕ) (count : ℕ)
    → numbers_in runs ≡ places → files_at order places ≡ row → length runs ≤ count
    → NoneOfRunsUpTo order runs numbers count
    → (number : ℕ) → Contains numbers number → Contains row number → ⊥
none_of_runs order runs numbers places row count are seen all so_far number among there =
    let at = kept_from (slice_get order) places number (subst (λ xs. Contains xs number) (sym seen) there) in
    let run = in_runs_from runs at.0 (subst (λ xs. Contains xs at.0) (sym are) at.1) in
    let within = slice_get_within runs run.0 run.1 run.2 in
    so_far run.0 run.1 (omega (arith, within, all)) run.2 at.0 number run.3 at.2 among

pub seen_by_run : (order : List ℕ) (runs : List Run) (places row : List ℕ) (k : ℕ) (run : Run) (number : ℕ)
    → numbers_in runs ≡ places → files_at order places ≡ row → slice_get runs k ≡ Some run
    → (place : ℕ) → IsIn run place → slice_get order place ≡ Some number → Contains row number
seen_by_run order runs places row k run number are seen stands place is at =
    subst (λ xs. Contains xs number) seen
    (kept_if (slice_get order) places place number
    (subst (λ xs. Contains xs place) are (in_runs_if runs k run place stands is)) at)
