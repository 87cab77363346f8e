-- What the second phase answers.
use Rattle.std.proofs.Common.{◌≡◌, ◌∙◌, ℕ, ◌<◌, List, length, map, Option, Some, None, refl, ap, sym, subst}
use Rattle.std.specs.List.{Contains, slice_get}
use Rattle.std.specs.Option.{option_map}
use Rattle.std.specs.declared.cmp.Ordering.TheVariants.{Less}
use Rattle.std.proofs.lemmas.Option.{same_Some, slice_get-map, slice_get_within}
use Rattle.basics.proofs.ListLemmas.{item_at}
use Rattle.proto_visibility.specs.Files.{File, IsSource}
use Rattle.basics.proofs.FirstLemmas.{contained, at_contained}
use Rattle.index_pool.specs.Phase.{AnswersEach, IsLeastFault}
use Rattle.option_link.specs.declared.facts.OptionFacts.{OptionFacts}
use Rattle.scip_records.specs.declared.records.Document.{Document}
use Rattle.scip_model.specs.Chosen.{Chosen}
use Rattle.scip_model.specs.Conditions.{UsesResolve}
use Rattle.scip_model.specs.Indexes.{IsAscendingListOf, IsDocumentWith, HasDocumentWith, HaveDocumentsWith}
use Rattle.scip_model.specs.Indexes.{document_cmp}
use Rattle.scip_model.specs.declared.source_document.PlannedWithOptions.{PlannedWithOptions}
use Rattle.scip_model.proofs.ConditionUnresolvedLemmas.{all_resolve}
use Rattle.scip_model.specs.Laws.{OneDocument}
use Rattle.scip_build.specs.declared.faulty.Faulty.TheVariants.{Refuse}
use Rattle.scip_build.specs.declared.settings.Settings.{Settings}
use Rattle.scip_build.specs.declared.source_document.NoDocument.{NoDocument}
use Rattle.scip_build.specs.declared.source_document.NoDocument.TheVariants as lacking
use Rattle.scip_build.specs.Files.{ReadFile}
use Rattle.scip_build.specs.Documents.{text_in, text_of, texts_of, HasReadText, AreReady, IsDocumentAt, GivesDocument}
use Rattle.scip_build.specs.Documents.{asked_in, fault_of_source, MayRefuseDocuments}
use Rattle.scip_build.specs.Documents.MayRefuseDocuments.{documents_lack_memory, first_is_unresolved}
use Rattle.scip_build.proofs.LinkingLemmas.{mapped_at}
use Rattle.basics.proofs.PlaceLemmas.{rising_from_places}

-- the documents of what was made
abbrev pub document_in : PlannedWithOptions → Document
document_in made = made.planned.document

module _ (parsed : List ReadFile) (files : List File) (chosen : Chosen) (settings : Settings) (count : ℕ)
    (ready : AreReady parsed files chosen count) where
  abbrev asked : Option (List OptionFacts)
  asked = asked_in settings parsed

  text_listed : (number : ℕ) (text : List ℕ) → HasReadText parsed number text
      → slice_get (texts_of parsed) number ≡ Some text
  text_listed number text has =
      slice_get-map text_of parsed number
      ∙ (ap (option_map text_of) has.numbered ∙ (ap (λ c. Some (text_in c)) has.read ∙ ap Some has.text_is))

  module _ (one : OneDocument) (made : List PlannedWithOptions)
      (answers : AnswersEach (GivesDocument parsed files chosen settings) count made) where
    -- what was made of a source
    pub made_at : (number : ℕ) → IsSource files number
        → (document : PlannedWithOptions) × (slice_get made number ≡ Some document)
        × IsDocumentAt parsed files chosen settings number document
    made_at number is =
        let below = (ready.sources number).1 is in
        let within : number < length made = rw answers.0 below in
        let there = item_at made number within in
        (there.0, there.1, answers.1 number there.0 there.1)

    pub is_source_at : (number : ℕ) (document : PlannedWithOptions) → slice_get made number ≡ Some document
        → IsSource files number
    is_source_at number document at =
        let below : number < count = rw (sym answers.0) (slice_get_within made number document at) in
        (ready.sources number).0 below

    abbrev pub documents : List Document
    documents = map document_in made

    found : (document : Document) → Contains documents document
        → HasDocumentWith asked files (texts_of parsed) chosen settings.package settings.encoding document
    found document listed =
        let of = mapped_at document_in made listed.0 document (at_contained documents document listed) in
        let is = answers.1 listed.0 of.0 of.1 in
        let Is : Document → Type 0 =
        IsDocumentWith asked files chosen settings.package settings.encoding listed.0 is.text in
        record {
          source = listed.0;
          text = is.text;
          text_is = text_listed listed.0 is.text is.has_text;
          is = subst Is (sym of.2) is.is;
        }

    listed_at : (number : ℕ) (of : PlannedWithOptions) → slice_get made number ≡ Some of
        → slice_get documents number ≡ Some of.planned.document
    listed_at number of at = slice_get-map document_in made number ∙ ap (option_map document_in) at

    only : (document : Document)
        → HasDocumentWith asked files (texts_of parsed) chosen settings.package settings.encoding document
        → Contains documents document
    only document has =
        let source : IsSource files has.source =
        record { file = has.is.file; numbered = has.is.numbered; source = has.is.is_source; present = has.is.present } in
        let here = made_at has.source source in
        let of = here.2 in
        let text : of.text ≡ has.text =
        same_Some of.text has.text (sym (text_listed has.source of.text of.has_text) ∙ has.text_is) in
        let Of : List ℕ → Type 0 =
        λ t. IsDocumentWith asked files chosen settings.package settings.encoding has.source t
        here.0.planned.document in
        let same : here.0.planned.document ≡ document =
        one asked files chosen settings.package settings.encoding has.source has.text here.0.planned.document document
        (subst Of text of.is) has.is in
        contained documents has.source document (listed_at has.source here.0 here.1 ∙ ap Some same)

    ascending : (i j : ℕ) (a b : Document) → i < j → slice_get documents i ≡ Some a → slice_get documents j ≡ Some b
        → document_cmp a b ≡ Less
    ascending i j a b less at and =
        let x = mapped_at document_in made i a at in
        let y = mapped_at document_in made j b and in
        let first = answers.1 i x.0 x.1 in
        let second = answers.1 j y.0 y.1 in
        let below : j < count = rw (sym answers.0) (slice_get_within made j y.0 y.1) in
        let rises = ready.rising i j first.is.file second.is.file less below first.is.numbered second.is.numbered in
        rw (x.2, y.2, first.is.relative_path, second.is.relative_path) rises

    pub list_of : IsAscendingListOf document_cmp
        (HasDocumentWith asked files (texts_of parsed) chosen settings.package settings.encoding) documents
    list_of = record {
      exact = λ document. (found document, only document);
      ascends = rising_from_places document_cmp documents ascending;
    }

    pub each_of : HaveDocumentsWith asked files (texts_of parsed) chosen settings.package settings.encoding documents
    each_of source is =
        let here = made_at source is in
        let of = here.2 in (
          here.0.planned.document,
          contained documents source here.0.planned.document (listed_at source here.0 here.1),
          record { source = source; text = of.text; text_is = text_listed source of.text of.has_text; is = of.is },
          refl,
        )

  -- a source without a use that is refused has none that names no type
  pub resolves : (number : ℕ) (made : PlannedWithOptions)
      → IsDocumentAt parsed files chosen settings number made
      → settings.faulty ≡ Refuse → UsesResolve files number
  resolves number made is refuse =
      let none : slice_get made.planned.unresolved 0 ≡ None = rw (is.refused refuse) refl in
      all_resolve files number made.planned.unresolved is.unresolved_uses none

  -- why a source has no document, the first of those that have none, is why there are no documents
  pub refused_of : (workers number : ℕ) (fault : NoDocument)
      → IsLeastFault (GivesDocument parsed files chosen settings) count number fault
      → MayRefuseDocuments settings.faulty files workers (fault_of_source number fault)
  refused_of workers number lacking.Memory least = documents_lack_memory
  refused_of workers number (lacking.Unresolved span) least =
      let (refuse, is_first) = least.1 in
      first_is_unresolved refuse (record {
        source = (ready.sources number).0 least.0;
        first = is_first;
        before = λ lesser less is. let of = least.2 lesser less in resolves lesser of.0 of.1 refuse;
      })
