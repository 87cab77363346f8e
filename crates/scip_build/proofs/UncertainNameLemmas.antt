-- Names in options that may name another field once a file that is left out can be read.
use Rattle.std.proofs.Common.{◌≡◌, ◌↔◌, ◌++◌, inl, inr, List, Option, Some, None, sym, ap, subst}
use Rattle.std.specs.List.{Contains}
use Rattle.std.proofs.lemmas.List.Elements.{Contains-append_right, Contains-append_left, Contains-append_cases}
use Rattle.option_link.specs.declared.facts.OptionFacts.{OptionFacts}
use Rattle.proto_link.specs.declared.uncertain_use.UncertainUse.{UncertainUse}
use Rattle.proto_link.specs.Uncertain.{IsFirstUnread, IsUncertain}
use Rattle.proto_visibility.specs.Files.{File, IsSource}
use Rattle.scip_model.specs.Options.{HasUncertainIf}
use Rattle.scip_model.specs.declared.option_told.UncertainPlace.{UncertainPlace}
use Rattle.scip_build.specs.Files.{ReadFile}
use Rattle.scip_build.specs.Documents.{IsUncertainAt, IsUncertainNameAt}
use Rattle.scip_build.specs.Telling.{AreUncertain}
use Rattle.scip_build.proofs.OptionGapLemmas.{reads_of, text_too}

module _ (asked : Option (List OptionFacts)) (parsed : List ReadFile) (files : List File) where
  -- what is uncertain is so of a source
  pub uncertain_source : (uncertain : UncertainUse) → IsUncertainAt asked parsed files uncertain
      → IsSource files uncertain.place.file
  uncertain_source uncertain (inl use_) = use_.source
  uncertain_source uncertain (inr name) = name.source

  -- behind the first file without facts that the source sees
  pub uncertain_behind : (uncertain : UncertainUse) → IsUncertainAt asked parsed files uncertain
      → IsFirstUnread files uncertain.place.file uncertain.behind
  uncertain_behind uncertain (inl use_) = use_.behind
  uncertain_behind uncertain (inr name) =
      by asked (record { span = uncertain.place.span; behind = uncertain.behind }) name.uncertain
    where
      by : (known : Option (List OptionFacts)) (at : UncertainPlace)
          → HasUncertainIf known files uncertain.place.file name.text at
          → IsFirstUnread files uncertain.place.file at.behind
      by None at has = absurd has
      by (Some known) at has =
          subst (IsFirstUnread files uncertain.place.file) (sym (ap (λ (p : UncertainPlace). p.behind) has.is.place_is))
          has.is.is.doubt.first

  -- the uncertain uses, and behind them the uncertain names
  pub all_uncertain : (uses names all : List UncertainUse) → all ≡ uses ++ names
      → ((u : UncertainUse) → Contains uses u ↔ IsUncertain files u)
      → ((u : UncertainUse) → Contains names u ↔ IsUncertainNameAt asked parsed files u)
      → AreUncertain asked parsed files all
  all_uncertain uses names all both of_uses of_names = λ u. (
    λ there. elim (Contains-append_cases uses names u (subst (λ (l : List UncertainUse). Contains l u) both there)) [
      | inl use_ ↦ inl ((of_uses u).0 use_)
      | inr name ↦ inr ((of_names u).0 name)
    ],
    λ is. subst (λ (l : List UncertainUse). Contains l u) (sym both) (elim is [
      | inl use_ ↦ Contains-append_left uses names u ((of_uses u).1 use_)
      | inr name ↦ Contains-append_right uses names u ((of_names u).1 name)
    ]),
  )

-- the same is uncertain of files that were read alike
module _ (asked other : Option (List OptionFacts)) (parsed again : List ReadFile) (files others : List File)
    (asked_are : asked ≡ other) (reads : reads_of parsed ≡ reads_of again) (files_are : files ≡ others) where
  pub uncertain_too : (uncertain : UncertainUse) → IsUncertainAt asked parsed files uncertain
      → IsUncertainAt other again others uncertain
  uncertain_too uncertain (inl use_) = inl (subst (λ (fs : List File). IsUncertain fs uncertain) files_are use_)
  uncertain_too uncertain (inr name) =
      let at : UncertainPlace = record { span = uncertain.place.span; behind = uncertain.behind } in
      let file = uncertain.place.file in
      inr (record {
        source = subst (λ fs. IsSource fs file) files_are name.source;
        text = name.text;
        has_text = text_too parsed again reads file name.text name.has_text;
        uncertain = subst (λ fs. HasUncertainIf other fs file name.text at) files_are
            (subst (λ a. HasUncertainIf a files file name.text at) asked_are name.uncertain);
      })
