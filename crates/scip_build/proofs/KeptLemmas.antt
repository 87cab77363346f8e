-- What is kept of documents, in a form.
use Rattle.std.proofs.Common.{◌≡◌, ◌∙◌, ◌↔◌, ℕ, ◌+◌, zero, suc, List, [], ◌∷◌, length, map, Option, Some, refl, ap, sym}
use Rattle.std.proofs.Common.{Result, Ok, Err, subst, arith}
use Rattle.std.specs.Prelude.{MatchResult}
use Rattle.std.specs.List.{AllZip, Contains, slice_get, each_same}
use Rattle.std.proofs.lemmas.Option.{same_Some, none-some}
use Rattle.basics.proofs.ListLemmas.{in_nothing}
use Rattle.option_link.specs.declared.facts.OptionFacts.{OptionFacts}
use Rattle.proto_link.specs.declared.uncertain_use.UncertainUse.{UncertainUse}
use Rattle.scip_model.specs.Options.{HasGapIf, HasUncertainIf}
use Rattle.scip_model.specs.declared.option_told.UncertainPlace.{UncertainPlace}
use Rattle.proto_lex.specs.declared.span.Span.{Span}
use Rattle.proto_visibility.specs.declared.files.FilePlace.{FilePlace}
use Rattle.proto_visibility.specs.Files.{File, IsSource}
use Rattle.proto_visibility.specs.Linked.{HaveClearNames}
use Rattle.index_pool.specs.Phase.{AnswersEach, IsLeastFault}
use Rattle.scip_records.specs.declared.records.Document.{Document}
use Rattle.scip_records.specs.declared.records.Index.{Index}
use Rattle.scip_model.specs.Chosen.{Chosen}
use Rattle.scip_model.specs.Conditions.{AllResolve}
use Rattle.scip_model.specs.Packages.{Packages, naming}
use Rattle.scip_model.specs.Repeated.{AreRepeated, HasRepeated, Naming}
use Rattle.scip_model.specs.Indexes.{metadata_of, AreExternalsWith}
use Rattle.scip_model.specs.Laws.{OneDocument}
use Rattle.scip_model.specs.declared.source_document.PlannedWithOptions.{PlannedWithOptions}
use Rattle.scip_build.specs.declared.faulty.Faulty.TheVariants.{Refuse}
use Rattle.scip_build.specs.declared.source_document.NoDocument.{NoDocument}
use Rattle.scip_build.specs.declared.made.MadeDocument.{MadeDocument}
use Rattle.scip_build.specs.declared.made.Made.{Made}
use Rattle.scip_build.specs.declared.parts.Parts.{Parts}
use Rattle.scip_build.specs.declared.settings.Settings.{Settings}
use Rattle.scip_build.specs.Files.{ReadFile}
use Rattle.scip_build.specs.Documents.{AreReady, IsDocumentAt, GivesDocument, AllAreDecided, IsUnresolvedAt}
use Rattle.scip_build.specs.Documents.{asked_in, fault_of_source, texts_of, HaveNoGaps, IsFirstPlace, IsGapAt}
use Rattle.scip_build.specs.Documents.{IsLeastGap, IsUncertainNameAt}
use Rattle.scip_build.specs.Documents.{MayRefuseDocuments, MayRefuseLinked}
use Rattle.scip_build.specs.Documents.MayRefuseLinked.{least_is_gap}
use Rattle.scip_build.specs.declared.fault.BuildFault.{BuildFault}
use Rattle.scip_build.specs.declared.fault.BuildFault.TheVariants as build
use Rattle.scip_build.specs.Linking.{linked_files, choices_of}
use Rattle.scip_build.specs.Making.{IsMade}
use Rattle.scip_build.specs.Forms.{index_of, ArePartsOf, GivesKept, AreMade, IsMadeInForm, IsMadeOf}
use Rattle.scip_build.specs.Made.{gaps_from, name_in, names_from, place_in, unresolved_from}
use Rattle.scip_build.specs.Repeating.{with_packages}
use Rattle.scip_build.proofs.DocumentLemmas.{document_in, made_at, is_source_at, list_of, each_of, resolves, refused_of}
use Rattle.scip_build.proofs.UnresolvedUseLemmas.{use_decided, unresolved_at, unresolved_listed, told_at, listed_from}
use Rattle.scip_build.proofs.UnresolvedUseLemmas.{none_from}
use Rattle.scip_build.proofs.OptionGapLemmas.{one_text}

-- ---- where something is kept of what stands in each place, it is kept of a list

module _ {A Out : Type 0} (Is : A → Out → Type 0) where
  -- of this, which is so at its place, this is kept
  record IsOf (At : A → Type 0) (out : Out) : Type 0 where
    pub item : A
    pub at : At item
    pub kept : Is item out

  record AreOf (At : ℕ → A → Type 0) (outs : List Out) : Type 0 where
    pub items : List A
    pub count : length items ≡ length outs
    pub each : (k : ℕ) (item : A) → slice_get items k ≡ Some item → At k item
    pub kept : AllZip Is items outs

  one_more : (At : ℕ → A → Type 0) (x : A) (xs : List A) → At 0 x
      → ((k : ℕ) (item : A) → slice_get xs k ≡ Some item → At (suc k) item)
      → (k : ℕ) (item : A) → slice_get (x ∷ xs) k ≡ Some item → At k item
  one_more At x xs here more zero item at = subst (At 0) (same_Some x item at) here
  one_more At x xs here more (suc k) item at = more k item at

  kept_of_list : (At : ℕ → A → Type 0) (outs : List Out)
      → ((k : ℕ) (out : Out) → slice_get outs k ≡ Some out → IsOf (At k) out) → AreOf At outs
  kept_of_list At [] of = record { items = []; count = refl; each = λ k item at. absurd (none-some item at); kept = tt }
  kept_of_list At (out ∷ outs) of =
      let here = of 0 out refl in
      let more = kept_of_list (λ k. At (suc k)) outs (λ k o at. of (suc k) o at) in
      record {
        items = here.item ∷ more.items;
        count = ap suc more.count;
        each = one_more At here.item more.items here.at more.each;
        kept = (here.kept, more.kept);
      }

-- ---- what the second phase answers

module _ {Out : Type 0} (Is : Document → Out → Type 0) where
  -- a document of which this is kept, with its uses that name no type, and the gaps and uncertain names of its options
  record IsMadeFrom (document : PlannedWithOptions) (out : MadeDocument Out) : Type 0 where
    pub kept : Is document.planned.document out.kept
    pub unresolved_uses : out.unresolved ≡ document.planned.unresolved
    pub option_gaps : out.option_gaps ≡ document.option_gaps
    pub uncertain_names : out.uncertain_names ≡ document.uncertain_names

  abbrev uses_in : MadeDocument Out → List Span
  uses_in out = out.unresolved

  abbrev gaps_in : MadeDocument Out → List Span
  gaps_in out = out.option_gaps

  abbrev names_in : MadeDocument Out → List UncertainPlace
  names_in out = out.uncertain_names

  abbrev kept_in : MadeDocument Out → Out
  kept_in out = out.kept

  each_kept : (made : List PlannedWithOptions) (outs : List (MadeDocument Out)) → AllZip IsMadeFrom made outs
      → AllZip Is (map document_in made) (map kept_in outs)
  each_kept [] [] all = tt
  each_kept [] (out ∷ outs) all = absurd all
  each_kept (m ∷ made) [] all = absurd all
  each_kept (m ∷ made) (out ∷ outs) all = (all.0.kept, each_kept made outs all.1)

  -- what an out has beside it
  from_zip : (made : List PlannedWithOptions) (outs : List (MadeDocument Out)) → AllZip IsMadeFrom made outs
      → (k : ℕ) (out : MadeDocument Out) → slice_get outs k ≡ Some out
      → (m : PlannedWithOptions) × (slice_get made k ≡ Some m) × IsMadeFrom m out
  from_zip [] [] all k out at = absurd (none-some out at)
  from_zip [] (o ∷ outs) all k out at = absurd all
  from_zip (m ∷ made) [] all k out at = absurd all
  from_zip (m ∷ made) (o ∷ outs) all zero out at = (m, refl, subst (IsMadeFrom m) (same_Some o out at) all.0)
  from_zip (m ∷ made) (o ∷ outs) all (suc k) out at = from_zip made outs all.1 k out at

  to_zip : (made : List PlannedWithOptions) (outs : List (MadeDocument Out)) → AllZip IsMadeFrom made outs
      → (k : ℕ) (m : PlannedWithOptions) → slice_get made k ≡ Some m
      → (out : MadeDocument Out) × (slice_get outs k ≡ Some out) × IsMadeFrom m out
  to_zip [] [] all k m at = absurd (none-some m at)
  to_zip [] (o ∷ outs) all k m at = absurd all
  to_zip (x ∷ made) [] all k m at = absurd all
  to_zip (x ∷ made) (o ∷ outs) all zero m at =
      (o, refl, subst (λ (y : PlannedWithOptions). IsMadeFrom y o) (same_Some x m at) all.0)
  to_zip (x ∷ made) (o ∷ outs) all (suc k) m at = to_zip made outs all.1 k m at

module _ {Out : Type 0} (Is : Document → Out → Type 0) (parsed : List ReadFile) (files : List File)
    (chosen : Chosen) (settings : Settings) (count : ℕ) (ready : AreReady parsed files chosen count) where
  abbrev At : ℕ → PlannedWithOptions → Type 0
  At = IsDocumentAt parsed files chosen settings

  module _ (made : List PlannedWithOptions) (outs : List (MadeDocument Out)) (zip : AllZip (IsMadeFrom Is) made outs)
      (sourced : (number : ℕ) (m : PlannedWithOptions) → slice_get made number ≡ Some m → IsSource files number)
      (each : (number : ℕ) (m : PlannedWithOptions) → slice_get made number ≡ Some m → At number m)
      (made_at : (number : ℕ) → IsSource files number
      → (m : PlannedWithOptions) × (slice_get made number ≡ Some m) × At number m) where
    decide : AllAreDecided files
    decide source facts type_use is known listed =
        let there = made_at source is in
        use_decided files source there.0.planned.unresolved there.2.unresolved_uses facts type_use known listed

    unresolved_there : (place : FilePlace) → Contains (unresolved_from 0 outs) place → IsUnresolvedAt files place
    unresolved_there place there =
        let of = told_at place_in (uses_in Is) 0 outs place there in
        let m = from_zip Is made outs zip of.number of.document of.numbered in
        let listed : Contains m.0.planned.unresolved of.item =
        subst (λ (spans : List Span). Contains spans of.item) m.2.unresolved_uses of.listed in
        let is = unresolved_at files of.number m.0.planned.unresolved (each of.number m.0 m.1).unresolved_uses
        (sourced of.number m.0 m.1) of.item listed in
        let number : of.number ≡ 0 + of.number = omega arith in
        let same : place_in of.number of.item ≡ place = ap (λ n. place_in n of.item) number ∙ of.is in
        subst (IsUnresolvedAt files) same is

    unresolved_back : (place : FilePlace) → IsUnresolvedAt files place → Contains (unresolved_from 0 outs) place
    unresolved_back place is =
        let there = made_at place.file is.source in
        let out = to_zip Is made outs zip place.file there.0 there.1 in
        let listed : Contains there.0.planned.unresolved place.span =
        subst (Contains there.0.planned.unresolved) is.stands
        (unresolved_listed files place.file there.0.planned.unresolved there.2.unresolved_uses is.facts is.type_use
        is.known is.listed
        is.unresolved) in
        let kept : Contains out.0.unresolved place.span =
        subst (λ (spans : List Span). Contains spans place.span) (sym out.2.unresolved_uses) listed in
        let file : 0 + place.file ≡ place.file = omega arith in
        let same : place_in (0 + place.file) place.span ≡ place = ap (λ n. place_in n place.span) file in
        subst (Contains (unresolved_from 0 outs)) same
        (listed_from place_in (uses_in Is) 0 outs place.file out.0 out.1 place.span kept)

    none_refused : settings.faulty ≡ Refuse → AllResolve files × (unresolved_from 0 outs ≡ [])
    none_refused refuse = (
      λ source facts type_use is known listed.
          let there = made_at source is in
          resolves parsed files chosen settings count ready source there.0 there.2 refuse facts type_use
          known listed,
      none_from place_in (uses_in Is) 0 outs (λ number out at.
          let m = from_zip Is made outs zip number out at in
          m.2.unresolved_uses ∙ (each number m.0 m.1).refused refuse),
    )

    gap_there : (place : FilePlace) → Contains (gaps_from 0 outs) place
        → IsGapAt (asked_in settings parsed) parsed files place
    gap_there place there =
        let of = told_at place_in (gaps_in Is) 0 outs place there in
        let m = from_zip Is made outs zip of.number of.document of.numbered in
        let at = each of.number m.0 m.1 in
        let listed : Contains m.0.option_gaps of.item =
        subst (λ (spans : List Span). Contains spans of.item) m.2.option_gaps of.listed in
        let is : IsGapAt (asked_in settings parsed) parsed files (place_in of.number of.item) = record {
          source = sourced of.number m.0 m.1;
          text = at.text;
          has_text = at.has_text;
          gap = (at.option_gaps of.item).0 listed;
        } in
        let number : of.number ≡ 0 + of.number = omega arith in
        let same : place_in of.number of.item ≡ place = ap (λ n. place_in n of.item) number ∙ of.is in
        subst (IsGapAt (asked_in settings parsed) parsed files) same is

    gap_back : (place : FilePlace) → IsGapAt (asked_in settings parsed) parsed files place
        → Contains (gaps_from 0 outs) place
    gap_back place is =
        let there = made_at place.file is.source in
        let out = to_zip Is made outs zip place.file there.0 there.1 in
        let text : is.text ≡ there.2.text = one_text parsed place.file is.text there.2.text is.has_text there.2.has_text
        in
        let gap = subst (λ t. HasGapIf (asked_in settings parsed) files place.file t place.span) text is.gap in
        let kept : Contains out.0.option_gaps place.span =
        subst (λ (spans : List Span). Contains spans place.span) (sym out.2.option_gaps)
        ((there.2.option_gaps place.span).1 gap) in
        let file : 0 + place.file ≡ place.file = omega arith in
        let same : place_in (0 + place.file) place.span ≡ place = ap (λ n. place_in n place.span) file in
        subst (Contains (gaps_from 0 outs)) same
        (listed_from place_in (gaps_in Is) 0 outs place.file out.0 out.1 place.span kept)

    name_there : (name : UncertainUse) → Contains (names_from 0 outs) name
        → IsUncertainNameAt (asked_in settings parsed) parsed files name
    name_there name there =
        let of = told_at name_in (names_in Is) 0 outs name there in
        let m = from_zip Is made outs zip of.number of.document of.numbered in
        let at = each of.number m.0 m.1 in
        let listed : Contains m.0.uncertain_names of.item =
        subst (λ (names : List UncertainPlace). Contains names of.item) m.2.uncertain_names of.listed in
        let is : IsUncertainNameAt (asked_in settings parsed) parsed files (name_in of.number of.item) = record {
          source = sourced of.number m.0 m.1;
          text = at.text;
          has_text = at.has_text;
          uncertain = (at.uncertain_names of.item).0 listed;
        } in
        let number : of.number ≡ 0 + of.number = omega arith in
        let same : name_in of.number of.item ≡ name = ap (λ n. name_in n of.item) number ∙ of.is in
        subst (IsUncertainNameAt (asked_in settings parsed) parsed files) same is

    name_back : (name : UncertainUse) → IsUncertainNameAt (asked_in settings parsed) parsed files name
        → Contains (names_from 0 outs) name
    name_back name is =
        let file = name.place.file in
        let there = made_at file is.source in
        let out = to_zip Is made outs zip file there.0 there.1 in
        let text : is.text ≡ there.2.text = one_text parsed file is.text there.2.text is.has_text there.2.has_text in
        let at : UncertainPlace = record { span = name.place.span; behind = name.behind } in
        let uncertain = subst (λ t. HasUncertainIf (asked_in settings parsed) files file t at) text is.uncertain in
        let kept : Contains out.0.uncertain_names at =
        subst (λ (names : List UncertainPlace). Contains names at) (sym out.2.uncertain_names)
        ((there.2.uncertain_names at).1 uncertain) in
        let number : 0 + file ≡ file = omega arith in
        let same : name_in (0 + file) at ≡ name = ap (λ n. name_in n at) number in
        subst (Contains (names_from 0 outs)) same
        (listed_from name_in (names_in Is) 0 outs file out.0 out.1 at kept)

  pub kept_of : OneDocument → (outs : List (MadeDocument Out))
      → AnswersEach (GivesKept Is parsed files chosen settings) count outs
      → AreMade Is parsed files chosen settings outs
  kept_of one outs answers =
      let of = kept_of_list (IsMadeFrom Is) At outs
      (λ k out at. let kept = answers.1 k out at in
      record {
        item = kept.document;
        at = kept.made;
        kept = record {
          kept = kept.kept;
          unresolved_uses = kept.unresolved_uses;
          option_gaps = kept.option_gaps;
          uncertain_names = kept.uncertain_names;
        };
      }) in
      let made : AnswersEach (GivesDocument parsed files chosen settings) count of.items =
      (of.count ∙ answers.0, of.each) in
      let sourced = is_source_at parsed files chosen settings count ready one of.items made in
      let made_there = made_at parsed files chosen settings count ready one of.items made in
      record {
        documents = map document_in of.items;
        made = record {
          decided = decide of.items outs of.kept sourced of.each made_there;
          unresolved = λ place. (
            unresolved_there of.items outs of.kept sourced of.each made_there place,
            unresolved_back of.items outs of.kept sourced of.each made_there place,
          );
          gaps = λ place. (
            gap_there of.items outs of.kept sourced of.each made_there place,
            gap_back of.items outs of.kept sourced of.each made_there place,
          );
          names = λ name. (
            name_there of.items outs of.kept sourced of.each made_there name,
            name_back of.items outs of.kept sourced of.each made_there name,
          );
          refused = none_refused of.items outs of.kept sourced of.each made_there;
          list = list_of parsed files chosen settings count ready one of.items made;
          each = each_of parsed files chosen settings count ready one of.items made;
        };
        kept = each_kept Is of.items outs of.kept;
      }

  pub not_kept_of : (workers number : ℕ) (fault : NoDocument)
      → IsLeastFault (GivesKept Is parsed files chosen settings) count number fault
      → MayRefuseDocuments settings.faulty files workers (fault_of_source number fault)
  not_kept_of workers number fault least =
      let made : IsLeastFault (GivesDocument parsed files chosen settings) count number fault =
      (least.0, least.1, λ lesser less. let of = least.2 lesser less in (of.1.document, of.1.made)) in
      refused_of parsed files chosen settings count ready workers number fault made

-- ---- the parts of an index

pub parts_of : {Out : Type 0} (Is : Document → Out → Type 0) (parsed : List ReadFile) (files : List File)
    (chosen : Chosen) (settings : Settings) (outs : List (MadeDocument Out)) (parts : Parts Out)
    (unresolved_uses option_gaps : List FilePlace) (uncertain_names : List UncertainUse)
    → AreMade Is parsed files chosen settings outs
    → length (texts_of parsed) ≡ length files → parts.metadata ≡ Some (metadata_of settings.project_root)
    → parts.documents ≡ map (λ (out : MadeDocument Out). out.kept) outs
    → AreExternalsWith (asked_in settings parsed) files (texts_of parsed) chosen settings.package parts.external_symbols
    → unresolved_uses ≡ unresolved_from 0 outs → option_gaps ≡ gaps_from 0 outs → uncertain_names ≡ names_from 0 outs
    → IsMadeInForm Is parsed files chosen settings parts unresolved_uses option_gaps uncertain_names
parts_of {Out} Is parsed files chosen settings outs parts unresolved_uses option_gaps uncertain_names are texts metadata
    documents externals places gaps names =
    let index : Index = record {
      metadata = Some (metadata_of settings.project_root);
      documents = are.documents;
      external_symbols = parts.external_symbols;
    } in
    let Makes : List FilePlace → List FilePlace → List UncertainUse → Type 0 =
    IsMade parsed files chosen settings index in
    let made : Makes (unresolved_from 0 outs) (gaps_from 0 outs) (names_from 0 outs) = record {
      decided = are.made.decided;
      unresolved = are.made.unresolved;
      gaps = are.made.gaps;
      names = are.made.names;
      refused = are.made.refused;
      is = record {
        metadata_is = refl;
        one_text_each = texts;
        documents = are.made.list;
        each = are.made.each;
        externals = externals;
      };
    } in
    let Kept : List Out → Type 0 = λ kept. AllZip Is are.documents kept in
    record {
      index = index;
      made = subst (λ ps. Makes ps option_gaps uncertain_names) (sym places)
          (subst (λ gs. Makes (unresolved_from 0 outs) gs uncertain_names) (sym gaps)
          (subst (Makes (unresolved_from 0 outs) (gaps_from 0 outs)) (sym names) made));
      are = record {
        metadata = metadata;
        documents = subst Kept (sym documents) are.kept;
        external_symbols = refl;
      };
    }

-- the first of all gaps, where faults are refused and there is one, is that for which nothing is made
pub least_of : {Out : Type 0} (Is : Document → Out → Type 0) (parsed : List ReadFile) (files : List File)
    (chosen : Chosen) (settings : Settings) (parts : Parts Out) (unresolved_uses option_gaps : List FilePlace)
    (uncertain_names : List UncertainUse)
    → IsMadeInForm Is parsed files chosen settings parts unresolved_uses option_gaps uncertain_names
    → settings.faulty ≡ Refuse → (place : FilePlace) → IsFirstPlace (Contains option_gaps) place
    → IsLeastGap (asked_in settings parsed) parsed files place
least_of Is parsed files chosen settings parts unresolved_uses option_gaps uncertain_names is refuse place
    first = record {
      resolved = (is.made.refused refuse).0;
      least = record {
        holds = (is.made.gaps place).0 first.holds;
        first = λ other gap. first.first other ((is.made.gaps other).1 gap);
      };
    }

-- where there is none, none has a gap
pub filled_of : (asked : Option (List OptionFacts)) (parsed : List ReadFile) (files : List File)
    (option_gaps : List FilePlace)
    → ((place : FilePlace) → Contains option_gaps place ↔ IsGapAt asked parsed files place) → option_gaps ≡ []
    → HaveNoGaps asked parsed files
filled_of asked parsed files option_gaps are none place gap =
    in_nothing place (subst (λ (ps : List FilePlace). Contains ps place) none ((are place).1 gap))

-- of files that were linked, by the packages that their symbols were made from
pub in_form_of : {Out : Type 0} (Is : Document → Out → Type 0) (parsed : List ReadFile) (named : Naming)
    (settings : Settings) (made : Made Out) → named.files ≡ linked_files parsed
    → named.ids ≡ naming settings.package named.ids.repeated → HasRepeated named
    → HaveClearNames settings.duplicates (linked_files parsed) → made.choices ≡ map choices_of parsed
    → (settings.faulty ≡ Refuse → made.option_gaps ≡ [])
    → IsMadeInForm Is parsed named.files made.choices (with_packages settings named.ids) made.parts made.unresolved_uses
    made.option_gaps made.uncertain_names → IsMadeOf Is parsed settings made
in_form_of Is parsed named settings made linked ids has clear choices filled is =
    let In : List File → Packages → Type 0 = λ fs ps. IsMadeInForm Is parsed fs made.choices (with_packages settings ps)
    made.parts made.unresolved_uses made.option_gaps made.uncertain_names in
    let named_so = subst (In named.files) ids is in
    record {
      clear = clear;
      choices = choices;
      repeated = named.ids.repeated;
      are_repeated = subst (λ fs. AreRepeated fs named.ids.repeated) linked has;
      in_form = subst (λ fs. In fs (naming settings.package named.ids.repeated)) linked named_so;
      filled = filled;
    }

-- the same, unless faults are refused and an option has a gap
pub checked_of : {Out : Type 0} (Is : Document → Out → Type 0) (parsed : List ReadFile) (named : Naming)
    (settings : Settings) (workers : ℕ) (made : Made Out) → named.files ≡ linked_files parsed
    → named.ids ≡ naming settings.package named.ids.repeated → HasRepeated named
    → HaveClearNames settings.duplicates (linked_files parsed) → made.choices ≡ map choices_of parsed
    → IsMadeInForm Is parsed named.files made.choices (with_packages settings named.ids) made.parts made.unresolved_uses
    made.option_gaps made.uncertain_names → (result : Result (Made Out) BuildFault)
    → MatchResult result (λ same. (same ≡ made) × (settings.faulty ≡ Refuse → made.option_gaps ≡ []))
    (λ fault. (settings.faulty ≡ Refuse) × (place : FilePlace) × (fault ≡ build.OptionGap place)
    × IsFirstPlace (Contains made.option_gaps) place)
    → MatchResult result (IsMadeOf Is parsed settings)
    (MayRefuseLinked settings.faulty (asked_in settings parsed) parsed (linked_files parsed) workers)
checked_of Is parsed named settings workers made linked ids has clear choices is (Ok same) ok =
    subst (IsMadeOf Is parsed settings) (sym ok.0)
    (in_form_of Is parsed named settings made linked ids has clear choices ok.1 is)
checked_of Is parsed named settings workers made linked ids has clear choices is (Err fault) (
  refuse,
  place,
  is_gap,
  first,
) =
    let least = least_of Is parsed named.files made.choices (with_packages settings named.ids) made.parts
    made.unresolved_uses made.option_gaps made.uncertain_names is refuse place first in
    let there = subst (λ fs. IsLeastGap (asked_in settings parsed) parsed fs place) linked least in
    subst (MayRefuseLinked settings.faulty (asked_in settings parsed) parsed (linked_files parsed) workers)
    (sym is_gap) (least_is_gap refuse there)

-- ---- where the documents are kept as they are, the parts are the index

pub whole : (index : Index) (parts : Parts Document) → ArePartsOf (λ document kept. kept ≡ document) index parts
    → index_of parts ≡ index
whole index parts are =
    let documents : parts.documents ≡ index.documents = each_same index.documents parts.documents are.documents in
    λ i. record { metadata = are.metadata i; documents = documents i; external_symbols = are.external_symbols i }
