-- Sources that are read one after another.
use Rattle.std.proofs.Common.{◌≡◌, ◌∙◌, sym, refl, ap, subst, ℕ, ◌+◌, ◌<◌, Bool, true, false, cond, List, [], ◌∷◌, ◌++◌}
use Rattle.std.proofs.Common.{length, map, get_or, append-nil, arith, Some, Ok, Err}
use Rattle.std.specs.Prelude.{Result, Option, None}
use Rattle.std.specs.List.{slice_get}
use Rattle.std.specs.Option.{unwrap_or}
use Rattle.std.specs.Str.{IsUtf8, is_utf8}
use Rattle.std.proofs.lemmas.Grind.{flat_map-append}
use Rattle.std.proofs.lemmas.List.{length_push, map-append}
use Rattle.std.proofs.lemmas.List.FromFn.{get_or-map-range_with_len}
use Rattle.std.proofs.lemmas.Option.{unwrap_or-slice_get}
use Rattle.std.proofs.lemmas.Str.{IsUtf8-from_is_utf8, is_utf8-from_IsUtf8}
use Rattle.streams.specs.Writers.{AreSaid, AreTold, SinkOf, Writer, silent, writing}
use Rattle.scip_records.specs.declared.records.Document.{Document}
use Rattle.scip_query.specs.Tables.{numbers}
use Rattle.scip_pages.specs.Columns.{unit_of}
use Rattle.scip_site.specs.declared.show_fault.ShowFault.{ShowFault}
use Rattle.scip_site.specs.declared.show_fault.ShowFault.TheVariants.{Write, Memory}
use Rattle.scip_site.specs.LeftOuts.{line_with}
use Rattle.scip_site.specs.Showing.{SaysLine}
use Rattle.scip_site.proofs.SnapshotShowLemmas.{said_more}
use Rattle.scip_site.specs.declared.no_page.NoPage.{NoPage}
use Rattle.scip_site.specs.declared.no_page.NoPage.TheVariants.{NotText}
use Rattle.scip_site.specs.Repeats.{is_repeated}
use Rattle.scip_pages.specs.Site.{Sources}
use Rattle.scip_site.specs.Reading.{Outcome, in_unit, of_source, IsRead, IsOutcome, is_below, Read, none, next}
use Rattle.scip_site.specs.Reading.{source_or_none, name_of, told_by, told, Keeps, IsReadBy, ReadsOne}
use Rattle.scip_site.specs.Reading.{AreKept, ReadsAll, ReadsInto}

-- ---- one document

-- its bytes are a text
pub in_text : (d : Document) (bytes source : List ℕ) → source ≡ bytes → IsUtf8 bytes
    → in_unit (unit_of d.position_encoding) d.occurrences source ≡ of_source d (Some bytes)
in_text d bytes source same utf8 =
    ap (in_unit (unit_of d.position_encoding) d.occurrences) same
    ∙ sym (ap (λ (b : Bool). cond b (in_unit (unit_of d.position_encoding) d.occurrences bytes) (Err NotText))
    (is_utf8-from_IsUtf8 bytes utf8))

-- or none
pub no_text : (d : Document) (bytes : List ℕ) → (IsUtf8 bytes → ⊥) → Err NotText ≡ of_source d (Some bytes)
no_text d bytes refused = by (is_utf8 bytes) refl
  where
    by : (b : Bool) → is_utf8 bytes ≡ b
        → Err NotText ≡ cond b (in_unit (unit_of d.position_encoding) d.occurrences bytes) (Err NotText)
    by true e = absurd (refused (IsUtf8-from_is_utf8 bytes e))
    by false e = refl

-- it is told, where it has no page
pub told_so : {M : Type 0} (heard : SinkOf M) (path : List ℕ) (outcome : Outcome)
    (why : NoPage) (old new : Sources) (here after : M) → outcome ≡ Err why → new ≡ old ++ None ∷ []
    → (done : Result (Unit {0}) ShowFault)
    → SaysLine (line_with path (name_of why)) (writing heard here after) done
    → Keeps path outcome old new (writing heard here after) done
told_so heard path outcome why old new here after is kept done says =
    subst (λ (o : Outcome). Keeps path o old new (writing heard here after) done) (sym is) (by done says)
  where
    by : (d : Result (Unit {0}) ShowFault)
        → SaysLine (line_with path (name_of why)) (writing heard here after) d
        → Keeps path (Err why) old new (writing heard here after) d
    by (Ok done) told = record { kept = kept; told_is = told }
    by (Err Write) told = absurd told
    by (Err Memory) told = told

-- what is kept of it
pub read_so : {M : Type 0} (heard : SinkOf M) (gives : List ℕ → Option (List ℕ) → Type 0)
    (root : List ℕ) (repeated : Bool) (d : Document) (old new : Sources) (here after : M) (outcome : Outcome)
    → IsRead gives root d (is_below d) repeated outcome → (done : Result (Unit {0}) ShowFault)
    → Keeps d.relative_path outcome old new (writing heard here after) done
    → ReadsOne gives root repeated d old new (writing heard here after) done
read_so heard gives root repeated d old new here after outcome is (Ok done) kept =
    record { outcome = outcome; is = is; kept = kept }
read_so heard gives root repeated d old new here after outcome is (Err Write) kept = absurd kept
read_so heard gives root repeated d old new here after outcome is (Err Memory) kept = kept

-- ---- several documents

-- whether a document before one has its path
pub flag_is : (documents : List Document) (flags : List Bool) (number : ℕ) → number < length documents
    → flags ≡ map (is_repeated documents) (numbers (length documents))
    → unwrap_or (slice_get flags number) false ≡ is_repeated documents number
flag_is documents flags number within are =
    unwrap_or-slice_get flags number false ∙ ap (λ (l : List Bool). get_or l number false) are
    ∙ get_or-map-range_with_len (is_repeated documents) 0 (length documents) number number false within (omega arith)

module _ {M : Type 0} (heard : SinkOf M) (gives : List ℕ → Option (List ℕ) → Type 0)
    (root : List ℕ) (documents : List Document) where
  -- before the first
  pub none_kept : (start : M) (sources : Sources) → sources ≡ []
      → AreKept gives root documents 0 sources (writing heard start start)
  none_kept start sources none_yet = record {
    by = record { reads = []; are = none; told_are = silent };
    many_are = refl;
    sources_are = none_yet;
  }

  module _ (start here after : M) (many : ℕ) (d : Document) (repeated : Bool) (old new : Sources)
      (before : AreKept gives root documents many old (writing heard start here)) where
    -- one more is kept
    pub kept_more : slice_get documents many ≡ Some d → repeated ≡ is_repeated documents many
        → IsReadBy gives root repeated d old new (writing heard here after)
        → AreKept gives root documents (many + 1) new (writing heard start after)
    kept_more stands same one =
        let reads : List Read = before.by.reads in
        let outcome : Outcome = one.outcome in
        let item : Read = record { document = d; outcome = outcome } in
        let lines : AreSaid heard (told (item ∷ [])) here after =
        subst (λ (ls : List (List ℕ)). AreSaid heard ls here after)
        (sym (append-nil (told_by d.relative_path outcome))) one.kept.told_is in
        record {
          by = record {
            reads = reads ++ item ∷ [];
            are = next reads d outcome before.by.are
                (subst (λ (n : ℕ). slice_get documents n ≡ Some d) (sym before.many_are) stands)
                (subst (λ (n : ℕ). IsOutcome gives root documents n d outcome) (sym before.many_are)
                (subst (λ (r : Bool). IsRead gives root d (is_below d) r outcome) same one.is));
            told_are = subst (λ (ls : List (List ℕ)). AreSaid heard ls start after)
                (sym (flat_map-append (λ (r : Read). told_by r.document.relative_path r.outcome) reads (item ∷ [])))
                (said_more heard (told (item ∷ [])) after before.by.told_are lines);
          };
          many_are = length_push reads item ∙ ap (λ (n : ℕ). n + 1) before.many_are;
          sources_are =
              one.kept.kept ∙ ap (λ (l : Sources). l ++ source_or_none outcome ∷ []) before.sources_are
              ∙ sym (map-append (λ (r : Read). source_or_none r.outcome) reads (item ∷ []));
        }

    -- or memory runs out
    pub keeps_no_more : (sources : Sources) (fault : ShowFault)
        → ReadsOne gives root repeated d old new (writing heard here after) (Err fault)
        → ReadsAll gives root documents sources (writing heard start after) (Err fault)
    keeps_no_more sources Write one = absurd one
    keeps_no_more sources Memory one = record {
      reads = before.by.reads;
      are = before.by.are;
      told_are =
          subst (λ (m : M). AreTold (writing heard start m) (told before.by.reads)) (sym one) before.by.told_are;
    }

-- where memory ran out no vector is given
pub reads_none : {M : Type 0} (gives : List ℕ → Option (List ℕ) → Type 0) (root : List ℕ)
    (documents : List Document) (sources : Sources) (messages : Writer M) (fault : ShowFault)
    → ReadsAll gives root documents sources messages (Err fault)
    → ReadsInto gives root documents messages (Err fault)
reads_none gives root documents sources messages Write reads = absurd reads
reads_none gives root documents sources messages Memory reads = reads
