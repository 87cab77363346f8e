-- The gaps of options: of one, and of all of a source.
use Rattle.std.proofs.Common.{◌≡◌, ◌∙◌, sym, ap, subst, inl, inr, ℕ, Option, None, Some, List, [], ◌∷◌, ◌++◌, length}
use Rattle.std.proofs.Common.{⊎_elim, refl, arith, zero, suc, ◌+◌, ◌-◌, ◌≤◌}
use Rattle.std.specs.Prelude.{MatchOption, slice_index_or}
use Rattle.std.specs.List.{Contains, slice_get}
use Rattle.std.specs.Option.{option_map_or}
use Rattle.std.proofs.lemmas.List.{append-nil}
use Rattle.std.proofs.lemmas.List.Elements.{Contains-append_left, Contains-append_right, Contains-push_cases}
use Rattle.std.proofs.lemmas.Option.{same_Some}
use Rattle.basics.proofs.ListLemmas.{in_nothing}
use Rattle.proto_lex.specs.declared.span.Span.{Span}
use Rattle.proto_decl.specs.Imports.{end_of}
use Rattle.proto_options.specs.declared.names.OptionName.{OptionName}
use Rattle.proto_options.specs.declared.options.FileOption.{FileOption}
use Rattle.proto_visibility.specs.Files.{File}
use Rattle.option_link.specs.declared.facts.OptionFacts.{OptionFacts}
use Rattle.option_link.specs.declared.target.UncertainName.{UncertainName}
use Rattle.option_link.specs.Laws.{OneGapAnOption, OneUncertainNameAnOption}
use Rattle.scip_model.specs.declared.option_told.UncertainPlace.{UncertainPlace}
use Rattle.scip_model.specs.Options.{AreOptionGapsIf, AreUncertainNamesIf, IsOptionGap, IsUncertainIn, span_of_name}
use Rattle.scip_model.specs.Tables.Additions.{Adds, FromFront}
use Rattle.scip_model.specs.Tables.OptionListing.{TellsGap, TellsUncertain, gap_of, uncertain_of}
use Rattle.scip_model.proofs.MergeLemmas.{at_head}
use Rattle.scip_model.proofs.OptionOccurLemmas.{of-file}

-- the end of the last of some spans
last-at : (spans : List Span) (d : Span) (k : ℕ) → k + 1 ≡ length spans → (slice_index_or spans k d).end ≡ end_of spans
last-at [] d k e = absurd (omega (arith, e))
last-at (span ∷ []) d zero e = refl
last-at (span ∷ []) d (suc k) e = absurd (omega (arith, e))
last-at (span ∷ (next ∷ others)) d zero e = absurd (omega (arith, e))
last-at (span ∷ (next ∷ others)) d (suc k) e = last-at (next ∷ others) d k (omega (arith, e))

pub last-end : (spans : List Span) (d : Span) → 1 ≤ length spans
    → (slice_index_or spans (length spans - 1) d).end ≡ end_of spans
last-end spans d some = last-at spans d (length spans - 1) (omega (arith, some))

module _ (files : List File) (known : List OptionFacts) (source : ℕ) (text : List ℕ) where
  abbrev GapOf : FileOption → Span → Type 0
  GapOf option span = IsOptionGap files known source text option span

  pub one-gap : (one : OneGapAnOption) (option : FileOption) (gap : Option ℕ) → TellsGap files known source text option gap
      → (old new : List Span) → new ≡ old ++ gap_of option gap → Adds (GapOf option) old new
  one-gap one option None tells old new same = λ x. (
    λ h. inl (subst (λ (l : List Span). Contains l x) (same ∙ append-nil old) h),
    ⊎_elim (λ h. subst (λ (l : List Span). Contains l x) (sym (same ∙ append-nil old)) h)
        (λ gap. absurd (tells gap.number gap.name gap.is_gap)),
  )
  one-gap one option (Some number) tells old new same =
      let name = tells.0 in
      let span = span_of_name name.name in
      let list : new ≡ old ++ span ∷ [] =
      same ∙ ap (λ (o : Option OptionName). old
      ++ option_map_or (λ (n : OptionName). span_of_name n.name ∷ []) o []) tells.1.lacks.numbered in
      λ x. (
        λ h. ⊎_elim inl (λ e. inr (record { number = number; name = name; is_gap = tells.1; place = sym e }))
            (Contains-push_cases old span x (subst (λ (l : List Span). Contains l x) list h)),
        λ h. subst (λ (l : List Span). Contains l x) (sym list)
            (⊎_elim (Contains-append_left old (span ∷ []) x)
            (λ gap.
            let numbers = one files known source text option number gap.number name gap.name tells.1 gap.is_gap in
            let names : name ≡ gap.name = same_Some name gap.name
            (sym tells.1.lacks.numbered ∙ (ap (slice_get option.setting.names) numbers ∙ gap.is_gap.lacks.numbered)) in
            Contains-append_right old (span ∷ []) x
            (at_head x span [] (ap (λ (n : OptionName). span_of_name n.name) names ∙ sym gap.place))) h),
      )

  -- those of all
  pub all-gaps : (options : List FileOption)
      → MatchOption (slice_get known source) (options ≡ []) (λ beside. options ≡ beside.options)
      → (spans : List Span) → Adds (FromFront GapOf options (length options)) [] spans
      → AreOptionGapsIf (Some known) files source text spans
  all-gaps options are spans adds = λ span. (
    λ h. ⊎_elim (λ none. absurd (in_nothing span none))
        (λ its. record { beside = its.0; its = its.1; option = its.2; listed = its.3; is_gap = its.4 })
        ((all span).0 h),
    λ gap. (all span).1 (inr (gap.beside, gap.its, gap.option, gap.listed, gap.is_gap)),
  )
    where
      all : Adds (λ span. (beside : OptionFacts) × (slice_get known source ≡ Some beside) × (option : FileOption)
          × Contains beside.options option × GapOf option span) [] spans
      all = of-file known (λ (beside : OptionFacts). beside.options) source GapOf options are [] spans adds

  -- ---- uncertain names

  abbrev UncertainOf : FileOption → UncertainPlace → Type 0
  UncertainOf option place = IsUncertainIn files known source text option place

  pub one-uncertain : (one : OneUncertainNameAnOption) (option : FileOption) (uncertain : Option UncertainName)
      → TellsUncertain files known source text option uncertain → (old new : List UncertainPlace)
      → new ≡ old ++ uncertain_of option uncertain → Adds (UncertainOf option) old new
  one-uncertain one option None tells old new same = λ x. (
    λ h. inl (subst (λ (l : List UncertainPlace). Contains l x) (same ∙ append-nil old) h),
    ⊎_elim (λ h. subst (λ (l : List UncertainPlace). Contains l x) (sym (same ∙ append-nil old)) h)
        (λ its. absurd (tells its.uncertain.name_number its.uncertain.behind its.is.doubt)),
  )
  one-uncertain one option (Some uncertain) tells old new same =
      let name = tells.doubt.name in
      let numbered = tells.doubt.names.numbered in
      let place : UncertainPlace = record { span = span_of_name name.name; behind = uncertain.behind } in
      let list : new ≡ old ++ place ∷ [] =
      same ∙ ap (λ (o : Option OptionName). old ++ option_map_or
      (λ (n : OptionName). record { span = span_of_name n.name; behind = uncertain.behind } ∷ []) o []) numbered in
      λ x. (
        λ h. ⊎_elim inl (λ e. inr (record {
          uncertain = uncertain;
          name = name;
          is = tells;
          numbered = numbered;
          place_is = sym e;
        })) (Contains-push_cases old place x (subst (λ (l : List UncertainPlace). Contains l x) list h)),
        λ h. subst (λ (l : List UncertainPlace). Contains l x) (sym list)
            (⊎_elim (Contains-append_left old (place ∷ []) x)
            (λ its.
            let this : uncertain ≡ its.uncertain =
            one files known source text option uncertain its.uncertain tells its.is in
            let names : name ≡ its.name = same_Some name its.name
            (sym numbered ∙ (ap (λ (u : UncertainName). slice_get option.setting.names u.name_number) this
            ∙ its.numbered)) in
            let moved : place ≡ record { span = span_of_name its.name.name; behind = its.uncertain.behind } =
            λ i. record { span = span_of_name (names i).name; behind = (this i).behind } in
            Contains-append_right old (place ∷ []) x (at_head x place [] (moved ∙ sym its.place_is))) h),
      )

  -- those of all
  pub all-uncertain : (options : List FileOption)
      → MatchOption (slice_get known source) (options ≡ []) (λ beside. options ≡ beside.options)
      → (places : List UncertainPlace) → Adds (FromFront UncertainOf options (length options)) [] places
      → AreUncertainNamesIf (Some known) files source text places
  all-uncertain options are places adds = λ place. (
    λ h. ⊎_elim (λ none. absurd (in_nothing place none))
        (λ its. record { beside = its.0; its = its.1; option = its.2; listed = its.3; is = its.4 })
        ((all place).0 h),
    λ its. (all place).1 (inr (its.beside, its.its, its.option, its.listed, its.is)),
  )
    where
      all : Adds (λ place. (beside : OptionFacts) × (slice_get known source ≡ Some beside) × (option : FileOption)
          × Contains beside.options option × UncertainOf option place) [] places
      all = of-file known (λ (beside : OptionFacts). beside.options) source UncertainOf options are [] places adds
