-- Documents that are shown one after another.
use Rattle.std.proofs.Common.{◌≡◌, ◌+◌, ◌<◌, ◌≤◌, ℕ, suc, List, [], ◌∷◌, ◌++◌, length, take, get_or, refl, sym, ap}
use Rattle.std.proofs.Common.{subst, ◌∙◌, arith, append-nil, append_assoc, Bool, true, false}
use Rattle.std.specs.Prelude.{Option, None, Some, Result, Ok, Err, OnOk, IfErr, codes}
use Rattle.std.proofs.lemmas.Grind.{flat_map-append}
use Rattle.std.proofs.lemmas.List.{take_all, take_more, take-append-le, length-append, length-take-le}
use Rattle.streams.specs.Writers.{AreSaid, AreTold, IsCutOff, IsSaid, IsWritten, SinkOf, cut_short, entire, said}
use Rattle.streams.specs.Writers.{silent, writing}
use Rattle.source_files.specs.Makers.{MakeFilesOf, making}
use Rattle.streams.proofs.WholeWriteLemmas.{IsWritten-trans, IsCutOff-after}
use Rattle.streams.specs.Streams.{one_more}
use Rattle.streams.specs.declared.whole_writes.CutOff.{CutOff}
use Rattle.source_files.specs.Made.{Adds, Made, MadeFile, Makes, MakesAll, StopsBehind}
use Rattle.scip_records.specs.declared.records.Index.{Index}
use Rattle.scip_records.specs.declared.records.Document.{Document}
use Rattle.scip_site.specs.declared.show_fault.ShowFault.{ShowFault}
use Rattle.scip_site.specs.declared.show_fault.ShowFault.TheVariants.{Write, Memory}
use Rattle.scip_site.specs.Snapshots.{Shown, Outcome, IsOutcome, AreShown, none, next, told_by, printed_by}
use Rattle.scip_site.specs.Snapshots.{filed_by, printed, filed, told}
use Rattle.scip_site.specs.Showing.{ArePrinted, AreCutOff, AreFiled, AreFiledButOne, Goes, IsShownBy, SaysLine}
use Rattle.scip_site.specs.Showing.{ShowsOne, AreShownBy, Shows}
use Rattle.scip_site.specs.LeftOuts.{line_of}
use Rattle.scip_site.specs.declared.left_out.LeftOut.{LeftOut}

-- ---- lists of documents and of lines

none_before : (number : ℕ) → number + 0 ≡ number
none_before number = omega arith

one_before : (number many : ℕ) → number + suc many ≡ number + 1 + many
one_before number many = omega arith

module _ (gives : List ℕ → Option (List ℕ) → Type 0) (root : List ℕ) (index : Index) where
  -- one document more
  pub shown_more : {number : ℕ} {documents : List Document} {shown : List Shown} (document : Document)
      (outcome : Outcome)
      → AreShown gives root index number documents shown
      → IsOutcome gives root index (number + length documents) document.relative_path outcome
      → AreShown gives root index number (documents ++ document ∷ [])
      (shown ++ record { path = document.relative_path; outcome = outcome } ∷ [])
  shown_more document outcome (none {number = number}) is =
      next (subst (λ n. IsOutcome gives root index n document.relative_path outcome) (none_before number) is) none
  shown_more document outcome (next {number = number} {documents = documents} first others) is =
      next first (shown_more document outcome others
      (subst (λ n. IsOutcome gives root index n document.relative_path outcome)
      (one_before number (length documents)) is))

-- ---- what is said

module _ {M : Type 0} (sink : SinkOf M) (line : List ℕ) where
  -- a line, behind which its end is written, or isn't
  pub ended_so : (before now after : M) (done : Result (Unit {0}) CutOff) → IsWritten (writing sink before now) line
      → OnOk done (IsWritten (writing sink now after) (codes "\n"))
      → IfErr done (λ (e : CutOff). IsCutOff (writing sink now after) (codes "\n") e.written)
      → IsSaid (writing sink before after) line
  ended_so before now after (Ok done) all ok err =
      entire (IsWritten-trans sink before now after line (codes "\n") all ok)
  ended_so before now after (Err e) all ok err =
      cut_short (IsCutOff-after sink before now after line (codes "\n") e.written all err)

  -- or a part of it
  pub cut_so : (before after : M) (count : ℕ) → IsCutOff (writing sink before after) line count
      → IsSaid (writing sink before after) line
  cut_so before after count cut =
      let within : count ≤ length line = omega (arith, cut.short) in
      cut_short {count = count} (record {
        short = omega (arith, length-append line (codes "\n"), cut.short);
        written = rw (take-append-le count line (codes "\n") within) cut.written;
        failed = cut.failed;
      })

-- lines behind others
pub said_more : {M : Type 0} (sink : SinkOf M) {lines : List (List ℕ)} {before now : M}
    (more : List (List ℕ)) (after : M)
    → AreSaid sink lines before now → AreSaid sink more now after
    → AreSaid sink (lines ++ more) before after
said_more sink more after silent behind = behind
said_more sink more after (said first others) behind =
    said first (said_more sink more after others behind)

-- ---- where they go

-- the last of one document
last_of_one : (others : List Shown) (item last : Shown) → item ∷ [] ≡ others ++ last ∷ []
    → (others ≡ []) × (item ≡ last)
last_of_one [] item last same = (refl, cc)
last_of_one (other ∷ others) item last same =
    let short : 1 ≡ suc (length (others ++ last ∷ [])) = ap length same in
    let long : length (others ++ last ∷ []) ≡ suc (length others) = length_one others last in
    absurd (omega (arith, short, long))
  where
    length_one : (others : List Shown) (last : Shown) → length (others ++ last ∷ []) ≡ suc (length others)
    length_one [] last = refl
    length_one (other ∷ others) last = ap suc (length_one others last)

module _ {W : Type 0} (sink : SinkOf W) (first now after : W) (shown : List Shown)
    (item : Shown) where
  printed_behind : printed (shown ++ item ∷ []) ≡ printed shown ++ printed (item ∷ [])
  printed_behind = flat_map-append (λ (s : Shown). printed_by s.path s.outcome) shown (item ∷ [])

  -- one more is printed
  pub printed_more : IsWritten (writing sink first now) (printed shown)
      → IsWritten (writing sink now after) (printed (item ∷ []))
      → IsWritten (writing sink first after) (printed (shown ++ item ∷ []))
  printed_more before one = subst (IsWritten (writing sink first after)) (sym printed_behind)
      (IsWritten-trans sink first now after (printed shown) (printed (item ∷ [])) before one)

  -- or cut off
  pub cut_off_more : ArePrinted (writing sink first now) shown
      → AreCutOff (writing sink now after) (item ∷ [])
      → AreCutOff (writing sink first after) (shown ++ item ∷ [])
  cut_off_more before one =
      let alone = last_of_one one.others item (record { path = one.path; outcome = Ok one.text }) one.shown_are in
      let count : ℕ = length (printed shown) + one.count in record {
        others = shown;
        path = one.path;
        text = one.text;
        shown_are = ap (λ (s : Shown). shown ++ s ∷ []) alone.1;
        count = count;
        past_others = omega arith;
        cut_off = subst (λ (text : List ℕ). IsCutOff (writing sink first after) text count) (sym printed_behind)
            (IsCutOff-after sink first now after (printed shown) (printed (item ∷ [])) one.count before
            one.cut_off);
      }

adds_both : (first now after : Option (List MadeFile)) (files more : List MadeFile) → Adds first now files
    → Adds now after more → Adds first after (files ++ more)
adds_both None now after files more before behind = tt
adds_both (Some made) None after files more before behind = absurd before
adds_both (Some made) (Some all) None files more before behind = absurd behind
adds_both (Some made) (Some all) (Some every) files more before behind =
    behind ∙ ap (λ l. l ++ more) before ∙ append_assoc made files more

adds_none : (first : Option (List MadeFile)) → Adds first first []
adds_none None = tt
adds_none (Some made) = sym (append-nil made)

module _ (first now after : Made) (files more : List MadeFile) (before : MakesAll first now files) where
  pub makes_both : MakesAll now after more → MakesAll first after (files ++ more)
  makes_both behind = record {
    added = adds_both first.files now.files after.files files more before.added behind.added;
    unrefused = behind.unrefused ∙ before.unrefused;
  }

  pub stops_behind_both : StopsBehind now after more → StopsBehind first after (files ++ more)
  stops_behind_both behind = record {
    added = adds_both first.files now.files after.files files more before.added behind.added;
    refused = behind.refused ∙ ap one_more before.unrefused;
  }

pub makes_none : (first : Made) → MakesAll first first []
makes_none first = record { added = adds_none first.files; unrefused = refl }

-- one is refused
pub makes_false : (E : Type 0) (first now : Made) (path bytes : List ℕ) (is_made : Bool)
    → is_made ≡ false → Makes {E = E} first now path bytes (Ok is_made) → StopsBehind first now []
makes_false E first now path bytes true same makes = absurd cc
makes_false E first now path bytes false same makes = makes

module _ {O : Type 0} (files : MakeFilesOf O) (folder : List ℕ) (first now after : O) (shown : List Shown) where
  filed_behind : (item : Shown) → filed folder (shown ++ item ∷ []) ≡ filed folder shown ++ filed folder (item ∷ [])
  filed_behind item = flat_map-append (λ (s : Shown). filed_by folder s.path s.outcome) shown (item ∷ [])

  -- one more goes to a file
  pub filed_more : (item : Shown) → AreFiled (making files first now) folder shown
      → AreFiled (making files now after) folder (item ∷ [])
      → AreFiled (making files first after) folder (shown ++ item ∷ [])
  filed_more item before one = subst (MakesAll (files.made first) (files.made after)) (sym (filed_behind item))
      (makes_both (files.made first) (files.made now) (files.made after) (filed folder shown)
      (filed folder (item ∷ [])) before one)

  -- or none does
  pub filed_still : AreFiled (making files first now) folder shown → AreFiled (making files now after) folder []
      → AreFiled (making files first after) folder shown
  filed_still before one = subst (MakesAll (files.made first) (files.made after)) (append-nil (filed folder shown))
      (makes_both (files.made first) (files.made now) (files.made after) (filed folder shown) [] before one)

pub filed_but_one : {O : Type 0} (files : MakeFilesOf O) (folder : List ℕ) (first now after : O)
    (shown : List Shown) (item : Shown)
    → AreFiled (making files first now) folder shown → AreFiledButOne (making files now after) folder (item ∷ [])
    → AreFiledButOne (making files first after) folder (shown ++ item ∷ [])
filed_but_one files folder first now after shown item before one =
    let alone = last_of_one one.others item (record { path = one.path; outcome = Ok one.text }) one.shown_are in
    record {
      others = shown;
      path = one.path;
      text = one.text;
      shown_are = ap (λ (s : Shown). shown ++ s ∷ []) alone.1;
      stops = subst (StopsBehind (files.made first) (files.made after)) (append-nil (filed folder shown))
          (stops_behind_both (files.made first) (files.made now) (files.made after) (filed folder shown) [] before
          (subst (λ (others : List Shown). StopsBehind (files.made now) (files.made after) (filed folder others))
          alone.0
          one.stops));
    }

-- ---- the next of the documents of an index

-- those before it are shown
abbrev pub Stands : {M : Type 0} → (heard : SinkOf M)
    → (List ℕ → Option (List ℕ) → Type 0) → (root : List ℕ) → Index → (start here : M) → (List Shown → Type 0) → ℕ
    → Type 0
Stands heard gives root index start here goes many =
    AreShownBy gives root index (take many index.documents) goes (writing heard start here)

-- before the first
pub none_yet : {M : Type 0} (heard : SinkOf M)
    (gives : List ℕ → Option (List ℕ) → Type 0) (root : List ℕ) (index : Index) (start : M) (goes : List Shown → Type 0)
    → goes [] → Stands heard gives root index start start goes 0
none_yet heard gives root index start goes gone =
    record { shown = []; are = none; gone = gone; told_are = silent }

module _ {M : Type 0} (heard : SinkOf M) (gives : List ℕ → Option (List ℕ) → Type 0)
    (root : List ℕ) (index : Index) (start here end : M) (many : ℕ) (none_there : Document) (path : List ℕ)
    (within : many < length index.documents) (is : path ≡ (get_or index.documents many none_there).relative_path)
    (goes : List Shown → Type 0) (before : Stands heard gives root index start here goes many) where
  become : (one_goes more_go : List Shown → Type 0)
      → ((item : Shown) → one_goes (item ∷ []) → more_go (before.shown ++ item ∷ []))
      → IsShownBy gives root index many path one_goes (writing heard here end)
      → Stands heard gives root index start end more_go (many + 1)
  become one_goes more_go behind one =
      let document : Document = get_or index.documents many none_there in
      let outcome : Outcome = one.outcome in
      let item : Shown = record { path = document.relative_path; outcome = outcome } in
      let size : 0 + length (take many index.documents) ≡ many =
      omega (arith, length-take-le many index.documents (omega (arith, within))) in
      let due : IsOutcome gives root index (0 + length (take many index.documents)) document.relative_path outcome =
      subst (λ (n : ℕ). IsOutcome gives root index n document.relative_path outcome) (sym size)
      (subst (λ (p : List ℕ). IsOutcome gives root index many p outcome) is one.is) in
      let lines : AreSaid heard (told (item ∷ [])) here end =
      subst (λ (ls : List (List ℕ)). AreSaid heard ls here end)
      (sym (append-nil (told_by document.relative_path outcome)))
      (subst (λ (p : List ℕ). AreSaid heard (told_by p outcome) here end) is one.told_is) in
      record {
        shown = before.shown ++ item ∷ [];
        are = subst (λ (ds : List Document). AreShown gives root index 0 ds (before.shown ++ item ∷ []))
            (sym (take_more index.documents many none_there within))
            (shown_more gives root index document outcome before.are due);
        gone = behind item
            (subst (λ (p : List ℕ). one_goes (record { path = p; outcome = outcome } ∷ [])) is one.gone);
        told_are = subst (λ (ls : List (List ℕ)). AreSaid heard ls start end)
            (sym (flat_map-append (λ (s : Shown). told_by s.path s.outcome) before.shown (item ∷ [])))
            (said_more heard (told (item ∷ [])) end before.told_are lines);
      }

  module _ (whole cut one_whole one_cut : List Shown → Type 0) (one_untouched : Type 0)
      (whole_more : (item : Shown) → one_whole (item ∷ []) → whole (before.shown ++ item ∷ []))
      (cut_more : (item : Shown) → one_cut (item ∷ []) → cut (before.shown ++ item ∷ []))
      (whole_still : one_untouched → whole before.shown) where
    -- it is shown too
    pub goes_on : IsShownBy gives root index many path one_whole (writing heard here end)
        → Stands heard gives root index start end whole (many + 1)
    goes_on one = become one_whole whole whole_more one

    -- or memory ran out
    stays : one_untouched → end ≡ here → Stands heard gives root index start end whole many
    stays untouched same = record {
      shown = before.shown;
      are = before.are;
      gone = whole_still untouched;
      told_are =
          subst (λ (m : M). AreTold (writing heard start m) (told before.shown)) (sym same) before.told_are;
    }

    -- so why it isn't shown is why the documents aren't
    pub stops : (fault : ShowFault)
        → ShowsOne gives root index many path one_whole one_cut one_untouched (writing heard here end)
        (Err fault)
        → Shows gives root index whole cut (writing heard start end) (Err fault)
    stops Write one = (many + 1, become one_cut cut cut_more one)
    stops Memory one = (many, within, stays one.0 one.1)

-- all of them are shown
pub all_are : {M : Type 0} (heard : SinkOf M) (gives : List ℕ → Option (List ℕ) → Type 0)
    (root : List ℕ) (index : Index) (start end : M) (many : ℕ) → length index.documents ≤ many
    → (goes : List Shown → Type 0) → Stands heard gives root index start end goes many
    → AreShownBy gives root index index.documents goes (writing heard start end)
all_are heard gives root index start end many past goes shown =
    subst (λ (ds : List Document). AreShownBy gives root index ds goes (writing heard start end))
    (take_all many index.documents past) shown

-- ---- one document

module _ {M : Type 0} (heard : SinkOf M) (gives : List ℕ → Option (List ℕ) → Type 0)
    (root : List ℕ) (index : Index) (number : ℕ) (path : List ℕ) (whole cut : List Shown → Type 0) (untouched : Type 0)
    (here : M) where
  -- its snapshot goes somewhere, and nothing is said
  pub shown_so : (text : List ℕ) → IsOutcome gives root index number path (Ok text)
      → (done : Result (Unit {0}) ShowFault) → Goes whole cut untouched path text done
      → ShowsOne gives root index number path whole cut untouched (writing heard here here) done
  shown_so text is (Ok done) gone = record { outcome = Ok text; is = is; gone = gone; told_is = silent }
  shown_so text is (Err Write) gone = record { outcome = Ok text; is = is; gone = gone; told_is = silent }
  shown_so text is (Err Memory) gone = (gone, refl)

  -- or it has none, and that is said
  pub left_out_so : (left : LeftOut) → IsOutcome gives root index number path (Err left)
      → whole (record { path = path; outcome = Err left } ∷ []) → untouched → (after : M)
      → (done : Result (Unit {0}) ShowFault)
      → SaysLine (line_of path left) (writing heard here after) done
      → ShowsOne gives root index number path whole cut untouched (writing heard here after) done
  left_out_so left is gone unused after (Ok done) says =
      record { outcome = Err left; is = is; gone = gone; told_is = says }
  left_out_so left is gone unused after (Err Write) says = absurd says
  left_out_so left is gone unused after (Err Memory) says = (unused, says)
