-- What the facts of a source give to the functions that list its occurrences.
use Rattle.std.proofs.Common.{◌≡◌, ◌↔◌, sym, refl, subst, ℕ, zero, suc, ◌<◌, Bool, true, false, IsTrue, List, []}
use Rattle.std.proofs.Common.{◌∷◌, ◌++◌, ◌∙◌, ◌&&◌, not, inl, inr, ap, length, map}
use Rattle.std.specs.List.{All}
use Rattle.std.specs.Str.{bytes_eq}
use Rattle.std.proofs.lemmas.Bool.{and_parts, false_from_ne_true, false≢true, not-true, or_cases}
use Rattle.std.proofs.lemmas.Option.{get_or_from_slice_get, same_Some, slice_get_within}
use Rattle.std.proofs.lemmas.List.Folds.{list_any_at}
use Rattle.std.proofs.lemmas.Slice.Eq.{bytes_eq-Decides}
use Rattle.std.proofs.lemmas.List.Elements.{All-nil, All-cons, All-head, All-tail}
use Rattle.basics.proofs.ListLemmas.{item_at}
use Rattle.proto_lex.specs.Lexed.{IsPart}
use Rattle.proto_decl.specs.Facts.{Facts, component_spans, use_spans}
use Rattle.proto_decl.specs.Laws.{StandInText, FactsStandInText}
use Rattle.proto_decl.specs.declared.uses.Component.{Component}
use Rattle.proto_decl.specs.declared.uses.Use.{Use}
use Rattle.scip_symbol.specs.Path.{IsGoodPath}
use Rattle.proto_visibility.specs.Files.{File, HasFacts, HasPath}
use Rattle.scip_model.specs.Chosen.{Chosen, HasChoice, HaveChoices}
use Rattle.scip_model.specs.Conditions.{HaveGoodPaths, AreOfText}
use Rattle.scip_records.specs.declared.records.Occurrence.{Occurrence}
use Rattle.scip_model.specs.OccurrenceOrder.{occurrence_cmp}
use Rattle.scip_model.specs.Tables.Listing.{has_path}
use Rattle.scip_model.specs.Tables.Merges.{IsMerged, AreUntied}

pub all_of_map : {X Y : Type 0} (P : Y → Type 0) (f : X → Y) (xs : List X) → All P (map f xs) → All (λ x. P (f x)) xs
all_of_map P f [] all = All-nil (λ x. P (f x))
all_of_map P f (x ∷ xs) all =
    All-cons (λ y. P (f y)) x xs (All-head P (f x) (map f xs) all) (all_of_map P f xs (All-tail P (f x) (map f xs) all))

all_left : {X : Type 0} (P : X → Type 0) (xs ys : List X) → All P (xs ++ ys) → All P xs
all_left P [] ys all = All-nil P
all_left P (x ∷ xs) ys all =
    All-cons P x xs (All-head P x (xs ++ ys) all) (all_left P xs ys (All-tail P x (xs ++ ys) all))

all_right : {X : Type 0} (P : X → Type 0) (xs ys : List X) → All P (xs ++ ys) → All P ys
all_right P [] ys all = all
all_right P (x ∷ xs) ys all = all_right P xs ys (All-tail P x (xs ++ ys) all)

module _ (text : List ℕ) where
  abbrev ComponentStands : Component → Type 0
  ComponentStands component = IsPart text component.span

  abbrev UseStands : Use → Type 0
  UseStands used = All ComponentStands used.components

  pub uses_stand_there : (uses : List Use) → All (IsPart text) (use_spans uses) → All UseStands uses
  uses_stand_there [] all = All-nil UseStands
  uses_stand_there (u ∷ us) all =
      All-cons UseStands u us
      (all_of_map (IsPart text) (λ (component : Component). component.span) u.components
      (all_left (IsPart text) (component_spans u.components) (use_spans us) all))
      (uses_stand_there us (all_right (IsPart text) (component_spans u.components) (use_spans us) all))

  pub stand_there : (facts : Facts) → AreOfText text facts → FactsStandInText → StandInText text facts
  stand_there facts is law = subst (λ (t : List ℕ). StandInText t facts) is.text_is (law facts is.origin)

pub choices_there : (files : List File) (chosen : Chosen) (source : ℕ) (facts : Facts) → HaveChoices files chosen
    → HasFacts files source facts → (index : ℕ) → index < length facts.declarations
    → HasChoice chosen source index
choices_there files chosen source facts have known index within =
    let declared = item_at facts.declarations index within in
    have source index facts declared.0 (record { has_facts = known; numbered = declared.1 })

-- paths of files

pub path_from : (files : List File) (path : List ℕ) → has_path files path ≡ true → HasPath files path
path_from [] path e = absurd (false≢true e)
path_from (f ∷ fs) path e = elim (or_cases (bytes_eq path f.path && not f.is_left_out) (has_path fs path) e) [
  | inl here ↦ (
      let parts = and_parts (bytes_eq path f.path) (not f.is_left_out) here in
      let present = not-true f.is_left_out parts.1 in (
        zero,
        (f, refl, sym ((bytes_eq-Decides path f.path).0 parts.0)),
        record { file = f; numbered = refl; present = present },
      ))
  | inr later ↦ (
      let there = path_from fs path later in (
        suc there.0,
        there.1,
        record { file = there.2.file; numbered = there.2.numbered; present = there.2.present },
      ))
]

pub path_to : (files : List File) (path : List ℕ) → HasPath files path → has_path files path ≡ true
path_to files path there =
    let at = there.1.1 in
    list_any_at passes files there.0 there.1.0 (slice_get_within files there.0 there.1.0 at)
    (ap passes (get_or_from_slice_get files there.0 there.1.0 there.1.0 at)
    ∙ both (bytes_eq path there.1.0.path) (not there.1.0.is_left_out)
    ((bytes_eq-Decides path there.1.0.path).1 (sym there.1.2))
    (ap (λ (f : File). not f.is_left_out) (same_Some there.1.0 there.2.file (sym at ∙ there.2.numbered))
    ∙ ap not there.2.present))
  where
    passes : File → Bool
    passes file = bytes_eq path file.path && not file.is_left_out

    both : (a b : Bool) → a ≡ true → b ≡ true → (a && b) ≡ true
    both true true e f = refl
    both true false e f = f
    both false b e f = e

-- what says whether the path is there is the test
pub found_is : (files : List File) (path : List ℕ) (found : Bool) → IsTrue found ↔ HasPath files path
    → found ≡ has_path files path
found_is files path true is = sym (path_to files path (is.0 refl))
found_is files path false is =
    sym (false_from_ne_true (has_path files path) (λ e. false≢true (is.1 (path_from files path e))))

pub good_path : (files : List File) (path : List ℕ) → HaveGoodPaths files → HasPath files path → IsGoodPath path
good_path files path good there = subst IsGoodPath there.1.2 (good there.0 there.1.0 there.1.1)

-- what is merged where nothing is tied is so by other names of the lists
abbrev pub Merges : (first second both : List Occurrence) → Type 0
Merges first second both = AreUntied occurrence_cmp first second → IsMerged occurrence_cmp first second both

pub merged_of : {first second a b both : List Occurrence} → first ≡ a → second ≡ b → Merges first second both
    → Merges a b both
merged_of {first} {second} {a} {b} {both} e f m =
    subst (λ (xs : List Occurrence). Merges xs b both) e (subst (λ (ys : List Occurrence). Merges first ys both) f m)
