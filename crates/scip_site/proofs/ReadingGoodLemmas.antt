-- Documents that have pages.
use Rattle.std.proofs.Common.{◌≡◌, ◌∙◌, sym, refl, ap, subst, ℕ, zero, suc, ◌+◌, ◌<◌, Bool, true, false, cond}
use Rattle.std.proofs.Common.{List, [], ◌∷◌, ◌++◌, length, get_or, arith, inl, inr, Err}
use Rattle.std.specs.Prelude.{◌⊎◌, Option, None, Some}
use Rattle.std.specs.List.{AllByRecursion, flat_map, slice_get}
use Rattle.std.specs.Option.{unwrap_or}
use Rattle.std.specs.Str.{is_utf8}
use Rattle.std.proofs.lemmas.List.{length-map, map-append}
use Rattle.std.proofs.lemmas.List.Folds.{list_any_at}
use Rattle.std.proofs.lemmas.List.FromFn.{length-range_with_len, get_or-range_with_len}
use Rattle.std.proofs.lemmas.Slice.Eq.{bytes_eq-Decides}
use Rattle.scip_records.specs.declared.records.Index.{Index}
use Rattle.scip_records.specs.declared.records.Document.{Document}
use Rattle.source_files.specs.Made.{MadeFile}
use Rattle.scip_query.specs.Tables.{numbers, path_listed, path_or_none}
use Rattle.scip_pages.specs.declared.columns.ColumnUnit.{ColumnUnit}
use Rattle.scip_pages.specs.declared.columns.ColumnUnit.TheVariants.{Utf8}
use Rattle.scip_pages.specs.Columns.{unit_of}
use Rattle.scip_pages.specs.Paths.{is_path_below}
use Rattle.scip_pages.specs.Snapshot.{lines_of, misfit}
use Rattle.scip_site.specs.declared.no_page.NoPage.TheVariants.{NotText}
use Rattle.scip_pages.specs.Ids.{unit_in}
use Rattle.scip_site.specs.Repeats.{has_path, is_repeated}
use Rattle.scip_pages.specs.Site.{Sources}
use Rattle.scip_pages.proofs.TagLemmas.{all_append}
use Rattle.scip_site.specs.Reading.{Outcome, fit_or_misfit, in_unit, of_source, IsRead, is_below, Read, AreRead, none}
use Rattle.scip_site.specs.Reading.{next, source_or_none, sources_of}
use Rattle.scip_site.specs.Making.{page_or_none, source_at, page_file, page_file_at, pages, shared}
use Rattle.scip_site.specs.Making.{script_text, paths_in}
use Rattle.scip_site.specs.Tree.{first_page}
use Rattle.scip_site.specs.FolderLaws.{IsGood, AllAreGood, ReadsAreGood, GoodSourcesFit, FilesStayBelow}
use Rattle.scip_site.specs.FolderLaws.{PagesAreMadeOnce}
use Rattle.scip_site.proofs.LawPagePathLemmas.{has_a_good_path, has_its_own_path}

-- ---- a document that has a page

abbrev Fits : Document → List ℕ → Type 0
Fits d source = misfit (unit_in d) (lines_of source) d.occurrences ≡ None

fits_by : (bytes source : List ℕ) (found : Option ℕ) → source_or_none (fit_or_misfit bytes found) ≡ Some source
    → (bytes ≡ source) × (found ≡ None)
fits_by bytes source None e = (cc, refl)
fits_by bytes source (Some number) e = absurd cc

fits_in : (d : Document) (bytes source : List ℕ) (unit : Option ColumnUnit) → unit_of d.position_encoding ≡ unit
    → source_or_none (in_unit unit d.occurrences bytes) ≡ Some source → Fits d source
fits_in d bytes source None is e = absurd cc
fits_in d bytes source (Some unit) is e =
    let by = fits_by bytes source (misfit unit (lines_of bytes) d.occurrences) e in
    ap (λ (u : Option ColumnUnit). misfit (unwrap_or u Utf8) (lines_of source) d.occurrences) is
    ∙ ap (λ (s : List ℕ). misfit unit (lines_of s) d.occurrences) (sym by.0) ∙ by.1

fits_of : (d : Document) (read : Option (List ℕ)) (source : List ℕ) → source_or_none (of_source d read) ≡ Some source
    → Fits d source
fits_of d None source e = absurd cc
fits_of d (Some bytes) source e = by (is_utf8 bytes) e
  where
    by : (b : Bool)
        → source_or_none (cond b (in_unit (unit_of d.position_encoding) d.occurrences bytes) (Err NotText))
        ≡ Some source
        → Fits d source
    by true e = fits_in d bytes source (unit_of d.position_encoding) refl e
    by false e = absurd cc

module _ (gives : List ℕ → Option (List ℕ) → Type 0) (root : List ℕ) where
  good_by : (d : Document) (below repeated : Bool) (outcome : Outcome) (source : List ℕ)
      → IsRead gives root d below repeated outcome → source_or_none outcome ≡ Some source
      → (below ≡ true) × (repeated ≡ false) × Fits d source
  good_by d false repeated outcome source is e =
      let clash : None ≡ Some source = sym (ap source_or_none is) ∙ e in absurd cc
  good_by d true true outcome source is e =
      let clash : None ≡ Some source = sym (ap source_or_none is) ∙ e in absurd cc
  good_by d true false outcome source is e =
      (refl, refl, fits_of d is.0 source (sym (ap source_or_none is.2) ∙ e))

  good_so : (documents : List Document) (number : ℕ) (d : Document) (outcome : Outcome) (source : List ℕ)
      → IsRead gives root d (is_below d) (is_repeated documents number) outcome
      → source_or_none outcome ≡ Some source → IsGood documents number d source
  good_so documents number d outcome source is e =
      let by = good_by d (is_below d) (is_repeated documents number) outcome source is e in
      record { path = by.0; own = by.1; fits = by.2 }

  -- one of a list, or the one behind it
  get_push : {X : Type 0} (xs : List X) (x y : X) (k : ℕ) → slice_get (xs ++ x ∷ []) k ≡ Some y
      → (slice_get xs k ≡ Some y) ⊎ ((k ≡ length xs) × (x ≡ y))
  get_push [] x y zero e = inr (refl, cc)
  get_push [] x y (suc k) e = absurd cc
  get_push (z ∷ xs) x y zero e = inl e
  get_push (z ∷ xs) x y (suc k) e = next_one (get_push xs x y k e)
    where
      next_one : (slice_get xs k ≡ Some y) ⊎ ((k ≡ length xs) × (x ≡ y))
          → (slice_get (z ∷ xs) (suc k) ≡ Some y) ⊎ ((suc k ≡ length (z ∷ xs)) × (x ≡ y))
      next_one (inl there) = inl there
      next_one (inr last) = inr (ap suc last.0, last.1)

  read_is_good : (documents : List Document) (reads : List Read) → AreRead gives root documents reads
      → AllAreGood documents (sources_of reads)
  read_is_good documents reads none number d source stands has = absurd cc
  read_is_good documents reads (next before e outcome are listed is) number d source stands has =
      let item : Read = record { document = e; outcome = outcome } in
      let sources : sources_of (before ++ item ∷ []) ≡ sources_of before ++ source_or_none outcome ∷ [] =
      map-append (λ (r : Read). source_or_none r.outcome) before (item ∷ []) in
      by (get_push (sources_of before) (source_or_none outcome) (Some source) number
      (sym (ap (λ (l : Sources). slice_get l number) sources) ∙ has))
      (λ there. read_is_good documents before are number d source stands there)
    where
      by : (slice_get (sources_of before) number ≡ Some (Some source))
          ⊎ ((number ≡ length (sources_of before)) × (source_or_none outcome ≡ Some source))
          → (slice_get (sources_of before) number ≡ Some (Some source) → IsGood documents number d source)
          → IsGood documents number d source
      by (inl there) before_it = before_it there
      by (inr last) before_it =
          let at : length before ≡ number =
          sym (last.0 ∙ length-map before (λ (r : Read). source_or_none r.outcome)) in
          let same : Some e ≡ Some d = sym listed ∙ ap (slice_get documents) at ∙ stands in
          let document : e ≡ d = cc in
          subst (λ (n : ℕ). IsGood documents n d source) at
          (subst (λ (f : Document). IsGood documents (length before) f source) document
          (good_so documents (length before) e outcome source is last.1))

pub reads_are_good : (gives : List ℕ → Option (List ℕ) → Type 0) → ReadsAreGood gives
reads_are_good gives root documents reads are = read_is_good gives root documents reads are

pub good_sources_fit : GoodSourcesFit
good_sources_fit index sources good number d source stands has = (good number d source stands has).fits

-- ---- files

abbrev StaysIn : MadeFile → Type 0
StaysIn made = is_path_below made.path ≡ true

pub each_of : {X : Type 0} (P : X → Type 0) (f : ℕ → List X) (ns : List ℕ) → ((n : ℕ) → AllByRecursion P (f n))
    → AllByRecursion P (flat_map f ns)
each_of P f [] all = tt
each_of P f (n ∷ ns) all = all_append P (f n) (flat_map f ns) (all n) (each_of P f ns all)

has_some : {X : Type 0} (o : Option (Option X)) (x : X) → unwrap_or o None ≡ Some x → o ≡ Some (Some x)
has_some None x e = absurd cc
has_some (Some o) x e = ap (λ p. Some p) e

page_stays : (index : Index) (sources : Sources) → AllAreGood index.documents sources → (number : ℕ)
    → AllByRecursion StaysIn (page_file_at index sources number)
page_stays index sources good number =
    by (slice_get index.documents number) refl (source_at sources number) refl
  where
    by : (d : Option Document) → slice_get index.documents number ≡ d → (source : Option (List ℕ))
        → source_at sources number ≡ source
        → AllByRecursion StaysIn (page_file (path_or_none d) (page_or_none index sources number d source))
    by None is source has = tt
    by (Some d) is None has = tt
    by (Some d) is (Some source) has = (
      has_a_good_path d.relative_path
          (good number d source is (has_some (slice_get sources number) source has)).path,
      tt,
    )

pub files_stay_below : FilesStayBelow
files_stay_below index sources order good =
    let script : List ℕ = script_text index sources in
    let first : List ℕ = first_page (paths_in index.documents sources order) in
    all_append StaysIn (pages index sources (numbers (length index.documents))) (shared script first)
    (each_of StaysIn (page_file_at index sources) (numbers (length index.documents)) (page_stays index sources good))
    (refl, (refl, (refl, (refl, tt))))

-- ---- no page is made twice

same_path : (documents : List Document) (number : ℕ) (d : Document) → slice_get documents number ≡ Some d
    → path_listed documents number ≡ d.relative_path
same_path documents number d is = ap path_or_none is

-- one before it has its path
repeats : (documents : List Document) (number other : ℕ) → number < other
    → path_listed documents number ≡ path_listed documents other → is_repeated documents other ≡ true
repeats documents number other before same =
    let test : ℕ → Bool = has_path documents (path_listed documents other) in
    let at : get_or (numbers other) number 0 ≡ number = get_or-range_with_len 0 other number 0 before ∙ omega arith in
    let inside : number < length (numbers other) = omega (arith, before, length-range_with_len 0 other) in
    list_any_at test (numbers other) number 0 inside
    (ap test at ∙ (bytes_eq-Decides (path_listed documents number) (path_listed documents other)).1 same)

not_before : (documents : List Document) (sources : Sources) → AllAreGood documents sources
    → (number other : ℕ) (d e : Document) (source : List ℕ)
    → slice_get documents number ≡ Some d → slice_get documents other ≡ Some e
    → slice_get sources other ≡ Some (Some source) → d.relative_path ≡ e.relative_path → number < other → ⊥
not_before documents sources good number other d e source is there has same before =
    let clash : true ≡ false =
    sym (repeats documents number other before
    (same_path documents number d is ∙ same ∙ sym (same_path documents other e there)))
    ∙ (good other e source there has).own in
    absurd cc

pub pages_are_made_once : PagesAreMadeOnce
pages_are_made_once documents sources good number other d e source other_source is has there has_other same =
    let path : d.relative_path ≡ e.relative_path = has_its_own_path d.relative_path e.relative_path same in
    let not_less : number < other → ⊥ =
    not_before documents sources good number other d e other_source is there has_other path in
    let not_more : other < number → ⊥ =
    not_before documents sources good other number e d source there is has (sym path) in
    neither number other not_less not_more
  where
    neither : (a b : ℕ) → (a < b → ⊥) → (b < a → ⊥) → a ≡ b
    neither zero zero less more = refl
    neither zero (suc b) less more = absurd (less (omega arith))
    neither (suc a) zero less more = absurd (more (omega arith))
    neither (suc a) (suc b) less more =
        ap suc (neither a b (λ h. less (omega (arith, h))) (λ h. more (omega (arith, h))))
