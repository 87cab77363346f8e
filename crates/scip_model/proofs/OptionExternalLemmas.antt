-- Which declarations of included files the names in options of sources name.
use Rattle.std.proofs.Common.{◌≡◌, ◌∙◌, ◌↔◌, inl, inr, ℕ, ◌+◌, true, Some, List, [], length, refl, sym, ap}
use Rattle.std.proofs.Common.{subst, arith, ⊎_elim}
use Rattle.std.specs.Prelude.{MatchOption}
use Rattle.std.specs.List.{slice_get, Contains}
use Rattle.std.specs.List.Sorted.{IsStrictlySortedBy}
use Rattle.std.proofs.lemmas.Bool.{cases_lt, false≢true}
use Rattle.std.proofs.lemmas.Option.{same_Some, slice_get_within}
use Rattle.basics.proofs.ListLemmas.{item_at, in_nothing}
use Rattle.basics.proofs.FirstLemmas.{contained, contained_at}
use Rattle.proto_options.specs.declared.options.FileOption.{FileOption}
use Rattle.proto_visibility.specs.Files.{File, IsSource}
use Rattle.proto_visibility.specs.declared.lookup.Entity.TheVariants as link
use Rattle.option_link.specs.declared.facts.OptionFacts.{OptionFacts}
use Rattle.option_link.specs.declared.target.OptionTarget.{OptionTarget}
use Rattle.option_link.specs.Laws.{TargetsAreReachable}
use Rattle.option_link.specs.OptionNames.{IsOptionTarget}
use Rattle.option_link.proofs.PartLemmas.{entity_of_part}
use Rattle.scip_records.specs.declared.records.SymbolInformation.{SymbolInformation}
use Rattle.scip_model.specs.Packages.{Packages}
use Rattle.scip_model.specs.Chosen.{Chosen}
use Rattle.scip_model.specs.Named.{declaration_in, home_of_file}
use Rattle.scip_model.specs.Entries.{IsKeptEntry}
use Rattle.scip_model.specs.Indexes.{AreExternalsWith, IsAscendingListOf, info_cmp}
use Rattle.scip_model.specs.Options.{AllLinkOptions, HasExternalOfOption}
use Rattle.scip_model.specs.Tables.Additions.{Adds, FromFront}
use Rattle.scip_model.specs.Tables.ExternalLists.{Pair, HasEntryAmong, IsExternal, IsKeptThere, NoneIncluded}
use Rattle.scip_model.specs.Tables.OptionListing.{IsOfOption, IsOfOptions, IsOfTarget}
use Rattle.scip_model.specs.Tables.OptionListing.{IsOptionExternal}
use Rattle.scip_model.proofs.ExternalSymbolEntryLemmas.{external-pair, external-there, kept-there, named-there}
use Rattle.scip_model.proofs.ExternalSymbolEntryLemmas.{pair-external, same-list}
use Rattle.scip_model.proofs.ExternalSymbolLemmas.{adds-same}
use Rattle.scip_model.proofs.OptionOccurLemmas.{adds-nothing, of-file}

module _ (files : List File) (known : List OptionFacts) (chosen : Chosen) where
  abbrev OfOption : (file : ℕ) → (text : List ℕ) → FileOption → Pair → Type 0
  OfOption file text option x = IsOfOption files known chosen file text option x

  -- of an option, by all its targets
  pub of-option : (file : ℕ) (text : List ℕ) (option : FileOption) (targets : List OptionTarget)
      → ((target : OptionTarget) → Contains targets target ↔ IsOptionTarget files known file text option target)
      → (old new : List Pair)
      → Adds (FromFront (IsOfTarget files chosen) targets (length targets)) old new
      → Adds (OfOption file text option) old new
  of-option file text option targets exact old new =
      adds-same (FromFront (IsOfTarget files chosen) targets (length targets))
      (OfOption file text option) old new
      (λ x front. record {
        target = front.element;
        is_target = (exact front.element).0 (contained targets front.index front.element front.stands);
        of_parts = front.is;
      })
      (λ x is. let place = contained_at targets is.target ((exact is.target).1 is.is_target) in
      record {
        index = place.0;
        element = is.target;
        within = slice_get_within targets place.0 is.target place.1;
        stands = place.1;
        is = is.of_parts;
      })

  -- of a source
  pub of-options : (file : ℕ) (text : List ℕ) (options : List FileOption) → IsSource files file
      → MatchOption (slice_get known file) (options ≡ []) (λ beside. options ≡ beside.options) → (old new : List Pair)
      → Adds (FromFront (OfOption file text) options (length options)) old new
      → (texts : List (List ℕ)) → slice_get texts file ≡ Some text
      → Adds (IsOfOptions files known chosen texts file) old new
  of-options file text options source are old new adds texts there =
      adds-same _ (IsOfOptions files known chosen texts file) old new
      (λ x its. let place = contained_at its.0.options its.2 its.3 in
      record {
        is_source = source;
        text = text;
        text_is = there;
        beside = its.0;
        its = its.1;
        of_options = record {
          index = place.0;
          element = its.2;
          within = slice_get_within its.0.options place.0 its.2 place.1;
          stands = place.1;
          is = its.4;
        };
      })
      (λ x is. (
        is.beside,
        is.its,
        is.of_options.element,
        contained is.beside.options is.of_options.index is.of_options.element is.of_options.stands,
        subst (λ (its : List ℕ). OfOption file its is.of_options.element x)
            (same_Some is.text text (sym is.text_is ∙ there)) is.of_options.is,
      ))
      (of-file known (λ (beside : OptionFacts). beside.options) file (OfOption file text) options are old new adds)

  -- of no file; of one file more
  pub option-none : (texts : List (List ℕ)) (old : List Pair)
      → Adds (IsOptionExternal files known chosen texts 0) old old
  option-none texts old =
      adds-nothing (IsOptionExternal files known chosen texts 0) old (λ x is. omega (arith, is.within))

  pub option-more : (texts : List (List ℕ)) (count : ℕ) (old mid new : List Pair)
      → Adds (IsOptionExternal files known chosen texts count) old mid
      → Adds (IsOfOptions files known chosen texts count) mid new
      → Adds (IsOptionExternal files known chosen texts (count + 1)) old new
  option-more texts count old mid new before now = λ x. (
    λ there. elim ((now x).0 there) [
      | inl earlier ↦ elim ((before x).0 earlier) [
        | inl kept ↦ inl kept
        | inr of ↦ inr (record { file = of.file; within = omega (arith, of.within); of_options = of.of_options })
      ]
      | inr added ↦ inr (record { file = count; within = omega arith; of_options = added })
    ],
    λ either. elim either [
      | inl kept ↦ (now x).1 (inl ((before x).1 (inl kept)))
      | inr of ↦ elim (cases_lt of.file count) [
        | inl less ↦ (now x).1 (inl
            ((before x).1 (inr (record { file = of.file; within = less; of_options = of.of_options }))))
        | inr last ↦ (
            let same : of.file ≡ count = omega (arith, last, of.within) in
            (now x).1 (inr (subst (λ n. IsOfOptions files known chosen texts n x) same of.of_options)))
      ]
    ],
  )

  -- what is named is there
  pub option-there : TargetsAreReachable → AllLinkOptions files → (texts : List (List ℕ)) (count : ℕ) (x : Pair)
      → IsOptionExternal files known chosen texts count x → IsKeptThere files chosen x
  option-there law linked texts count x is =
      let its = is.of_options in
      let of = its.of_options.is in
      let target = of.is_target in
      let part = of.of_parts in
      kept-there files chosen x
      (named-there files x.0 x.1
      (law files known is.file its.is_source (linked is.file its.is_source) its.text its.of_options.element of.target
      target)
      target.parts.known (entity_of_part files target.parts part.index part.element part.stands).2 part.is.is)
      part.is.kept

  module _ (ids : Packages) (texts : List (List ℕ)) where
    option-pair : (entry : SymbolInformation) (has : HasExternalOfOption files known texts chosen ids entry)
        → IsOptionExternal files known chosen texts (length texts) (has.number, has.index)
    option-pair entry has =
        let names = has.names in
        let place = contained_at names.beside.options names.option names.listed in
        record {
          file = has.source;
          within = slice_get_within texts has.source has.text has.text_is;
          of_options = record {
            is_source = has.is_source;
            text = has.text;
            text_is = has.text_is;
            beside = names.beside;
            its = names.its;
            of_options = record {
              index = place.0;
              element = names.option;
              within = slice_get_within names.beside.options place.0 names.option place.1;
              stands = place.1;
              is = record {
                target = names.target;
                is_target = names.is_target;
                of_parts = record {
                  index = names.index;
                  element = link.Declared has.number has.index;
                  within = slice_get_within names.target.parts names.index (link.Declared has.number has.index)
                      names.part_is;
                  stands = names.part_is;
                  is = record {
                    is = refl;
                    file = has.file;
                    numbered = has.numbered;
                    included = has.included;
                    kept = record {
                      choice = has.kept.choice;
                      is_chosen = has.kept.is_chosen;
                      keeps = has.kept.keeps;
                    };
                  };
                };
              };
            };
          };
        }

    pair-option : (count : ℕ) (x : Pair) (entry : SymbolInformation) → IsOptionExternal files known chosen texts count x
        → IsKeptEntry files chosen ids x.0 x.1 entry → HasExternalOfOption files known texts chosen ids entry
    pair-option count x entry is kept =
        let of = is.of_options.of_options.is in
        let target = of.is_target in
        let part = of.of_parts in
        let component = item_at target.name.name.components part.index (omega (arith, part.within, target.parts.one_each)) in
        record {
          source = is.file;
          is_source = is.of_options.is_source;
          text = is.of_options.text;
          text_is = is.of_options.text_is;
          span = component.0;
          entity = declaration_in (home_of_file files ids x.0) kept.facts kept.declaration;
          number = x.0;
          index = x.1;
          names = record {
            beside = is.of_options.beside;
            its = is.of_options.its;
            option = is.of_options.of_options.element;
            listed = contained is.of_options.beside.options is.of_options.of_options.index
                is.of_options.of_options.element is.of_options.of_options.stands;
            target = of.target;
            is_target = target;
            index = part.index;
            component_is = component.1;
            part_is = part.stands ∙ ap Some part.is.is;
            entity_is = record { facts = kept.facts; declaration = kept.declaration; has = kept.has; is = refl };
          };
          file = part.is.file;
          numbered = part.is.numbered;
          included = part.is.included;
          kept = kept;
        }

    -- where no file is included there are none
    pub none-with : NoneIncluded files (length files) → AreExternalsWith (Some known) files texts chosen ids []
    unfolding IsStrictlySortedBy
    none-with none = record {
      exact = λ x. (
        λ there. absurd (in_nothing x there),
        ⊎_elim (λ has. absurd (unlike has.number has.file has.numbered has.included))
            (λ has. absurd (unlike has.number has.file has.numbered has.included)),
      );
      ascends = tt;
    }
      where
        unlike : (number : ℕ) (file : File) → slice_get files number ≡ Some file → file.is_included ≡ true → ⊥
        unlike number file numbered included =
            let not = none number (slice_get_within files number file numbered) in
            false≢true (not.2 ∙ (ap (λ (f : File). f.is_included) (same_Some not.0 file (sym not.1 ∙ numbered))
            ∙ included))

    module _ (of_uses pairs : List Pair) (uses : Adds (IsExternal files chosen (length files)) [] of_uses)
        (options : Adds (IsOptionExternal files known chosen texts (length texts)) of_uses pairs) where
      pub all-there : TargetsAreReachable → AllLinkOptions files → (x : Pair) → Contains pairs x
          → IsKeptThere files chosen x
      all-there law linked x listed = elim ((options x).0 listed) [
        | inl of_use ↦ elim ((uses x).0 of_use) [
          | inl none ↦ absurd (in_nothing x none)
          | inr is ↦ external-there files chosen (length files) x is
        ]
        | inr is ↦ option-there law linked texts (length texts) x is
      ]

      pub all-with : (list : List SymbolInformation)
          → IsAscendingListOf info_cmp (HasEntryAmong files chosen ids pairs) list
          → AreExternalsWith (Some known) files texts chosen ids list
      all-with list =
          same-list list
          (λ x has. elim ((options has.0).0 has.1) [
            | inl of_use ↦ elim ((uses has.0).0 of_use) [
              | inl none ↦ absurd (in_nothing has.0 none)
              | inr is ↦ inl (pair-external files chosen ids (length files) has.0 x is has.2)
            ]
            | inr is ↦ inr (pair-option (length texts) has.0 x is has.2)
          ])
          (λ x. ⊎_elim
          (λ has. (
            (has.number, has.index),
            (options (has.number, has.index)).1
                (inl ((uses (has.number, has.index)).1 (inr (external-pair files chosen ids x has)))),
            has.kept,
          ))
          (λ has. ((has.number, has.index), (options (has.number, has.index)).1 (inr (option-pair x has)), has.kept)))
