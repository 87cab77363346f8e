-- What names in options make of a part of files is what they make of the whole; so a part has the documents and
-- external entries of the whole.
use Rattle.std.proofs.Common.{◌≡◌, ◌∙◌, ◌⊎◌, inl, inr, ap, sym, refl, subst, ℕ, ◌<◌, Option, Some, None, List, length}
use Rattle.std.proofs.Common.{map}
use Rattle.std.specs.List.{Contains, slice_get}
use Rattle.std.specs.Option.{option_map}
use Rattle.std.proofs.lemmas.Option.{same_Some, slice_get-map, slice_get_within}
use Rattle.proto_lex.specs.declared.position.Encoding.{Encoding}
use Rattle.proto_lex.specs.declared.span.Span.{Span}
use Rattle.proto_decl.specs.declared.declaration.Declaration.{Declaration}
use Rattle.proto_visibility.specs.declared.lookup.Entity.{Entity}
use Rattle.proto_visibility.specs.declared.lookup.Entity.TheVariants as link
use Rattle.proto_visibility.specs.Files.{File, HaveOwnPaths, IsPresent, IsSource}
use Rattle.proto_visibility.specs.Parts.{HasAllReached, HasAllSeen, IsPart, entity_at}
use Rattle.proto_visibility.proofs.KeptAmongLemmas.{from_mapped}
use Rattle.proto_visibility.proofs.PartLinkedLemmas.{source_to}
use Rattle.proto_visibility.proofs.PartReachLemmas.{all_seen}
use Rattle.proto_options.specs.declared.names.OptionName.{OptionName}
use Rattle.option_link.specs.declared.facts.OptionFacts.{OptionFacts}
use Rattle.option_link.specs.declared.target.OptionTarget.{OptionTarget}
use Rattle.option_link.specs.Parts.{AreKnownAlike, option_target_at}
use Rattle.option_link.proofs.PartLemmas.{entity_of_part}
use Rattle.option_link.proofs.PartTargetLemmas.{parts_name_alike}
use Rattle.scip_symbol.specs.Entities as symbols
use Rattle.scip_records.specs.declared.records.Document.{Document}
use Rattle.scip_records.specs.declared.records.Occurrence.{Occurrence}
use Rattle.scip_records.specs.declared.records.SymbolInformation.{SymbolInformation}
use Rattle.scip_model.specs.Chosen.{Chosen}
use Rattle.scip_model.specs.Packages.{Packages, package_of_part}
use Rattle.scip_model.specs.Named.{IsNamedAs}
use Rattle.scip_model.specs.Occurs.{IsShown, Occurs, no_role, occurrence_over}
use Rattle.scip_model.specs.Entries.{HasExternal, IsKeptEntry}
use Rattle.scip_model.specs.Options.{AllLinkOptions, HasExternalOfOption, HasExternalWith, NamesInOption}
use Rattle.scip_model.specs.Options.{OccursInOptions, OccursWith}
use Rattle.scip_model.specs.Options.OccursInOptions.{of_option}
use Rattle.scip_model.specs.Indexes.{IsDocumentWith}
use Rattle.scip_model.specs.Parts.{AreAskedAlike, AreChosenAlike, AreNamedAlike, ComesOfSource, Indexed, IsDefinedIn}
use Rattle.scip_model.specs.Parts.{IsPartOf, IsWholePart, PartsDocumentAlike}
use Rattle.scip_model.proofs.PartLemmas.{IsDefined, IsThere, by_file, document_where, external_back, external_to}
use Rattle.scip_model.proofs.PartLemmas.{kept_entry_back, kept_entry_to, named_back, named_to, occurs_back, occurs_to}
use Rattle.scip_model.proofs.PartLemmas.{part_id, shown_back, shown_to, still_included, there_named, there_of}

module _ (part whole : List File) (at : ℕ → ℕ) (own_paths : HaveOwnPaths part) (are : IsPart part whole at)
    (all : HasAllReached part whole at) (known theirs : List OptionFacts) (links : AllLinkOptions part)
    (alike : AreKnownAlike part at known theirs) (ids other_ids : Packages)
    (named : AreNamedAlike part whole at ids other_ids) where
  -- ---- what components of names in options name

  names_to : (k : ℕ) → IsSource part k → (text : List ℕ) (span : Span) (one : Entity) (entity : symbols.Entity)
      → NamesInOption part known ids k text span one entity
      → NamesInOption whole theirs other_ids (at k) text span (entity_at at one) entity
  names_to k source text span one entity is =
      let its = alike k source.file source.numbered in
      let own : is.beside ≡ its.own = same_Some is.beside its.own (sym is.its ∙ its.of_own) in
      let there = parts_name_alike.never_invented part whole at known theirs own_paths are all alike k source
      (links k source) text is.option is.target is.is_target in
      record {
        beside = its.other;
        its = its.of_other;
        option = is.option;
        listed = subst (λ options. Contains options is.option)
            (ap (λ (f : OptionFacts). f.options) own ∙ its.options source.source) is.listed;
        target = option_target_at at is.target;
        is_target = there.its;
        index = is.index;
        component_is = ap (λ (n : OptionName). slice_get n.name.components is.index) (sym there.one.name) ∙
            is.component_is;
        part_is = slice_get-map (entity_at at) is.target.parts is.index ∙ ap (option_map (entity_at at)) is.part_is;
        entity_is = subst (λ (d : Declaration). IsNamedAs whole other_ids d.full_name (entity_at at one) entity)
            there.one.declaration
            (named_to part whole at own_paths are ids other_ids named is.is_target.parts.declaration.full_name one
            entity
            is.entity_is);
      }

  abbrev IsHere : Entity → Type 0
  IsHere = IsThere part whole at own_paths are ids other_ids named

  record NamesBack (k : ℕ) (text : List ℕ) (span : Span) (one : Entity) (entity : symbols.Entity) : Type 0 where
    own : Entity
    is_there : IsHere own
    same : entity_at at own ≡ one
    names : NamesInOption part known ids k text span own entity

  names_back : (k : ℕ) → IsSource part k → (text : List ℕ) (span : Span) (one : Entity) (entity : symbols.Entity)
      → NamesInOption whole theirs other_ids (at k) text span one entity → NamesBack k text span one entity
  names_back k source text span one entity is =
      let its = alike k source.file source.numbered in
      let other : is.beside ≡ its.other = same_Some is.beside its.other (sym is.its ∙ its.of_other) in
      let here = parts_name_alike.never_lost part whole at known theirs own_paths are all alike k source
      (links k source) text is.option is.target is.is_target in
      let parts : map (entity_at at) here.own.parts ≡ is.target.parts = ap (λ (t : OptionTarget). t.parts) here.same in
      let from = from_mapped (entity_at at) here.own.parts is.index one
      (ap (λ ps. slice_get ps is.index) parts ∙ is.part_is) in
      let is_there = there_of part whole at own_paths are ids other_ids named from.0
      (entity_of_part part here.its.parts is.index from.0 from.1).2 here.its.parts.known in
      record {
        own = from.0;
        is_there = is_there;
        same = from.2;
        names = record {
          beside = its.own;
          its = its.of_own;
          option = is.option;
          listed = subst (λ options. Contains options is.option)
              (ap (λ (f : OptionFacts). f.options) other ∙ sym (its.options source.source)) is.listed;
          target = here.own;
          is_target = here.its;
          index = is.index;
          component_is = ap (λ (n : OptionName). slice_get n.name.components is.index) here.one.name ∙ is.component_is;
          part_is = from.1;
          entity_is = named_back part whole at own_paths are ids other_ids named
              here.its.parts.declaration.full_name from.0 entity is_there
              (subst (λ (d : Declaration). IsNamedAs whole other_ids d.full_name (entity_at at from.0) entity)
              (sym here.one.declaration)
              (subst (λ p. IsNamedAs whole other_ids is.is_target.parts.declaration.full_name p entity) (sym from.2)
              is.entity_is));
        };
      }

  module _ (chosen others : Chosen) (choices : AreChosenAlike part at chosen others) where
    -- ---- what occurs

    module _ (encoding : Encoding) (k : ℕ) (source : IsSource part k) (text : List ℕ) where
      abbrev Of : Occurrence → Type 0
      Of = OccursInOptions part known chosen ids encoding k text

      abbrev OfToo : Occurrence → Type 0
      OfToo = OccursInOptions whole theirs others other_ids encoding (at k) text

      in_options_to : (occurrence : Occurrence) → Of occurrence → OfToo occurrence
      in_options_to _ (of_option {span = span} {part = one} {entity = entity} names shown) =
          let is_there = there_named part whole at own_paths are ids other_ids named
          names.is_target.parts.declaration.full_name one entity names.entity_is in
          subst (λ id. OfToo (occurrence_over encoding text id span entity no_role))
          (sym (part_id part whole at own_paths are ids other_ids named one is_there))
          (of_option (names_to k source text span one entity names)
          (shown_to part whole at own_paths are ids other_ids named chosen others choices one is_there shown))

      in_options_back : (occurrence : Occurrence) → OfToo occurrence → Of occurrence
      in_options_back _ (of_option {span = span} {part = one} {entity = entity} names shown) =
          let its = names_back k source text span one entity names in
          subst (λ id. Of (occurrence_over encoding text id span entity no_role))
          (part_id part whole at own_paths are ids other_ids named its.own its.is_there
          ∙ ap (package_of_part whole other_ids) its.same)
          (of_option its.names
          (shown_back part whole at own_paths are ids other_ids named chosen others choices its.own its.is_there
          (subst (IsShown others) (sym its.same) shown)))

      abbrev seen : HasAllSeen part whole at k
      seen = all_seen part whole at are all k source

      plain_to : (occurrence : Occurrence) → Occurs part chosen ids encoding k text occurrence
          → Occurs whole others other_ids encoding (at k) text occurrence
      plain_to = occurs_to part whole at own_paths are ids other_ids named chosen others choices encoding k source.file
          source.numbered seen text

      plain_back : (occurrence : Occurrence) → Occurs whole others other_ids encoding (at k) text occurrence
          → Occurs part chosen ids encoding k text occurrence
      plain_back = occurs_back part whole at own_paths are ids other_ids named chosen others choices encoding k
          source.file
          source.numbered seen text

      pub with_to : (occurrence : Occurrence) → OccursWith (Some known) part chosen ids encoding k text occurrence
          → OccursWith (Some theirs) whole others other_ids encoding (at k) text occurrence
      with_to occurrence (inl is) = inl (plain_to occurrence is)
      with_to occurrence (inr is) = inr (record {
        occurs = in_options_to occurrence is.occurs;
        apart = λ other there. is.apart other (plain_back other there);
      })

      pub with_back : (occurrence : Occurrence)
          → OccursWith (Some theirs) whole others other_ids encoding (at k) text occurrence
          → OccursWith (Some known) part chosen ids encoding k text occurrence
      with_back occurrence (inl is) = inl (plain_back occurrence is)
      with_back occurrence (inr is) = inr (record {
        occurs = in_options_back occurrence is.occurs;
        apart = λ other here. is.apart other (plain_to other here);
      })

    -- ---- external entries

    module _ (texts lines : List (List ℕ)) (same_texts : (number : ℕ) (file : File) → slice_get part number ≡ Some file
        → slice_get texts number ≡ slice_get lines (at number)) where
      pub of_option_to : ((k : ℕ) → k < length part → IsPresent part k) → (entry : SymbolInformation)
          → HasExternalOfOption part known texts chosen ids entry
          → HasExternalOfOption whole theirs lines others other_ids entry
          ⊎ IsDefined part whole at own_paths are ids other_ids named chosen others choices entry
      of_option_to none_left entry is =
          let source = is.is_source in
          by_file part whole at own_paths are ids other_ids named chosen others choices is.number is.file is.numbered
          (none_left is.number (slice_get_within part is.number is.file is.numbered)) is.index entry is.kept
          (HasExternalOfOption whole theirs lines others other_ids entry)
          (λ other numbered included. record {
            source = at is.source;
            is_source = source_to part whole at are is.source source;
            text = is.text;
            text_is = sym (same_texts is.source source.file source.numbered) ∙ is.text_is;
            span = is.span;
            entity = is.entity;
            number = at is.number;
            index = is.index;
            names = names_to is.source source is.text is.span (link.Declared is.number is.index) is.entity is.names;
            file = other;
            numbered = numbered;
            included = included;
            kept = kept_entry_to part whole at own_paths are ids other_ids named chosen others choices is.number is.file
                is.numbered is.index entry is.kept;
          })

      pub of_option_back : (entry : SymbolInformation)
          (is : HasExternalOfOption whole theirs lines others other_ids entry)
          (k : ℕ) → IsSource part k → at k ≡ is.source → HasExternalOfOption part known texts chosen ids entry
      of_option_back entry is k source same =
          let one = link.Declared is.number is.index in
          by (names_back k source is.text is.span one is.entity
          (subst (λ n. NamesInOption whole theirs other_ids n is.text is.span one is.entity) (sym same) is.names))
        where
          of_own : (own : Entity) → IsHere own → entity_at at own ≡ link.Declared is.number is.index
              → NamesInOption part known ids k is.text is.span own is.entity
              → HasExternalOfOption part known texts chosen ids entry
          of_own (link.Package count) is_there same_one names = absurd (cc)
          of_own (link.Declared number index) is_there same_one names =
              let numbers : at number ≡ is.number = cc in
              let indexes : index ≡ is.index = cc in
              record {
                source = k;
                is_source = source;
                text = is.text;
                text_is = same_texts k source.file source.numbered ∙ (ap (slice_get lines) same ∙ is.text_is);
                span = is.span;
                entity = is.entity;
                number = number;
                index = index;
                names = names;
                file = is_there.0;
                numbered = is_there.1;
                included = still_included part whole at own_paths are ids other_ids named chosen others choices number
                    is_there.0 is_there.1 is.file (ap (slice_get whole) numbers ∙ is.numbered) is.included;
                kept = kept_entry_back part whole at own_paths are ids other_ids named chosen others choices number
                    is_there.0 is_there.1 index entry
                    (subst (λ n. IsKeptEntry whole others other_ids n index entry) (sym numbers)
                    (subst (λ j. IsKeptEntry whole others other_ids is.number j entry) (sym indexes) is.kept));
              }

          by : NamesBack k is.text is.span (link.Declared is.number is.index) is.entity
              → HasExternalOfOption part known texts chosen ids entry
          by its = of_own its.own its.is_there its.same its.names

-- ---- whether it is asked for, or not

module _ (part whole : Indexed) (at : ℕ → ℕ) (is : IsWholePart part whole at) where
  abbrev of : IsPartOf part whole at
  of = is.of_whole

  abbrev With : Option (List OptionFacts) → Encoding → (source : ℕ) → (text : List ℕ) → Document → Type 0
  With asked encoding = IsDocumentWith asked part.files part.chosen part.ids encoding

  abbrev WithToo : Option (List OptionFacts) → Encoding → (source : ℕ) → (text : List ℕ) → Document → Type 0
  WithToo asked encoding = IsDocumentWith asked whole.files whole.chosen whole.ids encoding

  documents : (asked theirs : Option (List OptionFacts)) → AreAskedAlike part.files at asked theirs
      → (encoding : Encoding) (source : ℕ) (text : List ℕ) (document : Document)
      → With asked encoding source text document → WithToo theirs encoding (at source) text document
  documents None None alike encoding source text document made =
      let of_source : IsSource part.files source =
      record { file = made.file; numbered = made.numbered; source = made.is_source; present = made.present } in
      let seen = all_seen part.files whole.files at of.files is.reached source of_source in
      document_where part.files whole.files at of.own_paths of.files part.ids whole.ids of.named part.chosen
      whole.chosen
      of.chosen encoding source (Occurs part.files part.chosen part.ids encoding source text)
      (Occurs whole.files whole.chosen whole.ids encoding (at source) text)
      (occurs_to part.files whole.files at of.own_paths of.files part.ids whole.ids of.named part.chosen whole.chosen
      of.chosen encoding source made.file made.numbered seen text)
      (occurs_back part.files whole.files at of.own_paths of.files part.ids whole.ids of.named part.chosen whole.chosen
      of.chosen encoding source made.file made.numbered seen text) document made
  documents None (Some theirs) alike encoding source text document made = absurd alike
  documents (Some known) None alike encoding source text document made = absurd alike
  documents (Some known) (Some theirs) alike encoding source text document made =
      let of_source : IsSource part.files source =
      record { file = made.file; numbered = made.numbered; source = made.is_source; present = made.present } in
      document_where part.files whole.files at of.own_paths of.files part.ids whole.ids of.named part.chosen
      whole.chosen
      of.chosen encoding source (OccursWith (Some known) part.files part.chosen part.ids encoding source text)
      (OccursWith (Some theirs) whole.files whole.chosen whole.ids encoding (at source) text)
      (with_to part.files whole.files at of.own_paths of.files is.reached known theirs alike.0 alike.1 part.ids
      whole.ids
      of.named part.chosen whole.chosen of.chosen encoding source of_source text)
      (with_back part.files whole.files at of.own_paths of.files is.reached known theirs alike.0 alike.1 part.ids
      whole.ids of.named part.chosen whole.chosen of.chosen encoding source of_source text) document made

  abbrev External : Option (List OptionFacts) → SymbolInformation → Type 0
  External asked = HasExternalWith asked part.files part.texts part.chosen part.ids

  abbrev ExternalToo : Option (List OptionFacts) → SymbolInformation → Type 0
  ExternalToo asked = HasExternalWith asked whole.files whole.texts whole.chosen whole.ids

  external_there : (entry : SymbolInformation) → HasExternal part.files part.chosen part.ids entry
      → HasExternal whole.files whole.chosen whole.ids entry ⊎ IsDefinedIn whole entry
  external_there = external_to part.files whole.files at of.own_paths of.files part.ids whole.ids of.named part.chosen
      whole.chosen of.chosen is.reached of.present

  own : (asked theirs : Option (List OptionFacts)) → AreAskedAlike part.files at asked theirs
      → (entry : SymbolInformation) → External asked entry → ExternalToo theirs entry ⊎ IsDefinedIn whole entry
  own None None alike entry made = external_there entry made
  own None (Some theirs) alike entry made = absurd alike
  own (Some known) None alike entry made = absurd alike
  own (Some known) (Some theirs) alike entry (inl made) = elim (external_there entry made) [
    | inl there ↦ inl (inl there)
    | inr defined ↦ inr defined
  ]
  own (Some known) (Some theirs) alike entry (inr made) = elim
      (of_option_to part.files whole.files at of.own_paths of.files is.reached known theirs alike.0 alike.1 part.ids
      whole.ids of.named part.chosen whole.chosen of.chosen part.texts whole.texts of.texts of.present entry made) [
        | inl there ↦ inl (inr there)
        | inr defined ↦ inr defined
      ]

  external_here : (entry : SymbolInformation) (made : HasExternal whole.files whole.chosen whole.ids entry) (k : ℕ)
      → IsSource part.files k → at k ≡ made.source → HasExternal part.files part.chosen part.ids entry
  external_here = external_back part.files whole.files at of.own_paths of.files part.ids whole.ids of.named part.chosen
      whole.chosen of.chosen is.reached

  back_plain : (asked theirs : Option (List OptionFacts)) → AreAskedAlike part.files at asked theirs
      → (entry : SymbolInformation) (made : HasExternal whole.files whole.chosen whole.ids entry) (k : ℕ)
      → IsSource part.files k → at k ≡ made.source → External asked entry
  back_plain None theirs alike entry made k source same = external_here entry made k source same
  back_plain (Some known) theirs alike entry made k source same = inl (external_here entry made k source same)

  back_option : (asked : Option (List OptionFacts)) (theirs : List OptionFacts)
      → AreAskedAlike part.files at asked (Some theirs) → (entry : SymbolInformation)
      (made : HasExternalOfOption whole.files theirs whole.texts whole.chosen whole.ids entry) (k : ℕ)
      → IsSource part.files k → at k ≡ made.source → External asked entry
  back_option None theirs alike entry made k source same = absurd alike
  back_option (Some known) theirs alike entry made k source same =
      inr (of_option_back part.files whole.files at of.own_paths of.files is.reached known theirs alike.0 alike.1
      part.ids
      whole.ids of.named part.chosen whole.chosen of.chosen part.texts whole.texts of.texts entry made k source same)

each : (whole : Indexed) (theirs : Option (List OptionFacts)) → whole.asked ≡ theirs → (entry : SymbolInformation)
    → HasExternalWith theirs whole.files whole.texts whole.chosen whole.ids entry → ComesOfSource whole entry
each whole None asked entry made = record {
  source = made.source;
  is_source = made.is_source;
  each = λ part at is k source same.
      back_plain part whole at is part.asked whole.asked is.of_whole.asked entry made k source same;
}
each whole (Some theirs) asked entry (inl made) = record {
  source = made.source;
  is_source = made.is_source;
  each = λ part at is k source same.
      back_plain part whole at is part.asked whole.asked is.of_whole.asked entry made k source same;
}
each whole (Some theirs) asked entry (inr made) = record {
  source = made.source;
  is_source = made.is_source;
  each = λ part at is k source same.
      back_option part whole at is part.asked theirs
      (subst (AreAskedAlike part.files at part.asked) asked is.of_whole.asked) entry made k source same;
}

pub parts_document_alike : PartsDocumentAlike
parts_document_alike = record {
  documents = λ part whole at is encoding source text document made.
      documents part whole at is part.asked whole.asked is.of_whole.asked encoding source text document made;
  own = λ part whole at is entry made. own part whole at is part.asked whole.asked is.of_whole.asked entry made;
  each = λ whole entry made. each whole whole.asked refl entry made;
}
