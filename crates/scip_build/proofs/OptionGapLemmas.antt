-- Where options have gaps is the same of files that were read alike.
use Rattle.std.proofs.Common.{◌≡◌, ◌∙◌, ℕ, Bool, true, false, List, map, Option, Some, None, Result, Ok, Err}
use Rattle.std.proofs.Common.{◌⊎◌, ◌++◌, ◌∷◌, [], ap, sym, refl, subst, inl, inr, arith}
use Rattle.basics.proofs.ListLemmas.{in_front, only}
use Rattle.std.proofs.lemmas.List.Elements.{Contains-append_right, Contains-append_left, Contains-append_cases}
use Rattle.std.proofs.lemmas.Bool.{cases_order}
use Rattle.std.specs.List.{Contains, slice_get}
use Rattle.std.specs.Option.{option_map}
use Rattle.std.proofs.lemmas.Option.{same_Some, slice_get-map}
use Rattle.option_link.specs.declared.facts.OptionFacts.{OptionFacts}
use Rattle.proto_visibility.specs.declared.files.FilePlace.{FilePlace}
use Rattle.proto_visibility.specs.Files.{File, IsSource}
use Rattle.scip_model.specs.Conditions.{AllResolve}
use Rattle.scip_model.specs.Options.{HasGapIf}
use Rattle.scip_build.specs.declared.fault.FileFault.{FileFault}
use Rattle.scip_build.specs.Files.{FileContents, ReadFile}
use Rattle.scip_build.specs.Documents.{asked_if, known_in, ComesBefore, HasReadText, IsFirstPlace, IsGapAt}
use Rattle.scip_build.specs.Documents.{IsLeastGap}
use Rattle.scip_build.proofs.LinkingLemmas.{mapped_at}

-- the text of a file, if it was read
abbrev pub read_in : Result FileContents FileFault → Option (List ℕ)
read_in (Ok contents) = Some contents.text
read_in (Err fault) = None

abbrev pub reads_of : List ReadFile → List (Option (List ℕ))
reads_of parsed = map (λ (parsed_file : ReadFile). read_in parsed_file.contents) parsed

-- a file has one text
pub one_text : (parsed : List ReadFile) (number : ℕ) (a b : List ℕ) → HasReadText parsed number a
    → HasReadText parsed number b → a ≡ b
one_text parsed number a b first second =
    let same : first.parsed_file ≡ second.parsed_file =
    same_Some first.parsed_file second.parsed_file (sym first.numbered ∙ second.numbered) in
    let contents : first.contents ≡ second.contents = one_ok first.contents second.contents
    (sym first.read ∙ (ap (λ (r : ReadFile). r.contents) same ∙ second.read)) in
    sym first.text_is ∙ (ap (λ (c : FileContents). c.text) contents ∙ second.text_is)
  where
    one_ok : (a b : FileContents) → ◌≡◌ {A = Result FileContents FileFault} (Ok a) (Ok b) → a ≡ b
    one_ok a b e = cc

-- if the texts are the same, a file that has one has it
pub text_too : (parsed again : List ReadFile) → reads_of parsed ≡ reads_of again → (number : ℕ) (text : List ℕ)
    → HasReadText parsed number text → HasReadText again number text
text_too parsed again same number text has =
    let f : ReadFile → Option (List ℕ) = λ parsed_file. read_in parsed_file.contents in
    let here : slice_get (reads_of parsed) number ≡ Some (Some text) =
    slice_get-map f parsed number
    ∙ (ap (option_map f) has.numbered ∙ (ap (λ c. Some (read_in c)) has.read ∙ ap (λ t. Some (Some t)) has.text_is)) in
    let there = mapped_at f again number (Some text)
    (sym (ap (λ (l : List (Option (List ℕ))). slice_get l number) same) ∙ here) in
    by there.0 there.1 there.0.contents refl there.2
  where
    none_some : ◌≡◌ {A = Option (List ℕ)} (Some text) None → ⊥
    none_some e = cc

    by : (parsed_file : ReadFile) → slice_get again number ≡ Some parsed_file
        → (contents : Result FileContents FileFault) → parsed_file.contents ≡ contents
        → Some text ≡ read_in parsed_file.contents → HasReadText again number text
    by parsed_file at (Ok contents) is text_is = record {
      parsed_file = parsed_file;
      contents = contents;
      numbered = at;
      read = is;
      text_is = same_Some contents.text text (sym (text_is ∙ ap read_in is));
    }
    by parsed_file at (Err fault) is text_is = absurd (none_some (text_is ∙ ap read_in is))

-- what is known of all is the same, if it is asked for
pub same_asked : (asks : Bool) (parsed again : List ReadFile) → known_in parsed ≡ known_in again
    → asked_if asks parsed ≡ asked_if asks again
same_asked false parsed again same = refl
same_asked true parsed again same = ap Some same

module _ (asked other : Option (List OptionFacts)) (parsed again : List ReadFile) (files others : List File)
    (asked_are : asked ≡ other) (reads : reads_of parsed ≡ reads_of again) (files_are : files ≡ others) where
  pub gap_too : (place : FilePlace) → IsGapAt asked parsed files place → IsGapAt other again others place
  gap_too place is = record {
    source = subst (λ fs. IsSource fs place.file) files_are is.source;
    text = is.text;
    has_text = text_too parsed again reads place.file is.text is.has_text;
    gap = subst (λ fs. HasGapIf other fs place.file is.text place.span) files_are
        (subst (λ a. HasGapIf a files place.file is.text place.span) asked_are is.gap);
  }

pub least_too : (asked other : Option (List OptionFacts)) (parsed again : List ReadFile) (files others : List File)
    → asked ≡ other → reads_of parsed ≡ reads_of again → files ≡ others → (place : FilePlace)
    → IsLeastGap asked parsed files place → IsLeastGap other again others place
least_too asked other parsed again files others asked_are reads files_are place is = record {
  resolved = subst AllResolve files_are is.resolved;
  least = record {
    holds = gap_too asked other parsed again files others asked_are reads files_are place is.least.holds;
    first = λ before gap. is.least.first before
        (gap_too other asked again parsed others files (sym asked_are) (sym reads) (sym files_are) before gap);
  };
}

-- ---- the first of them

-- of two places of which none comes before the other both are one
not_apart : (place other : FilePlace) → (ComesBefore place other → ⊥) → (ComesBefore other place → ⊥) → place ≡ other
not_apart place other not nor = elim (cases_order place.file other.file) [
  | inl file ↦ elim (cases_order place.span.start other.span.start) [
    | inl start ↦ elim (cases_order place.span.end other.span.end) [
      | inl end ↦ (λ i. record { file = file i; span = record { start = start i; end = end i } })
      | inr apart ↦ elim apart [
        | inl less ↦ absurd (not (inr (file, inr (start, less))))
        | inr more ↦ absurd (nor (inr (sym file, inr (sym start, more))))
      ]
    ]
    | inr apart ↦ elim apart [
      | inl less ↦ absurd (not (inr (file, inl less)))
      | inr more ↦ absurd (nor (inr (sym file, inl more)))
    ]
  ]
  | inr apart ↦ elim apart [
    | inl less ↦ absurd (not (inl less))
    | inr more ↦ absurd (nor (inl more))
  ]
]

pub one_least : (asked : Option (List OptionFacts)) (parsed : List ReadFile) (files : List File)
    (place other : FilePlace) → IsLeastGap asked parsed files place → IsLeastGap asked parsed files other
    → place ≡ other
one_least asked parsed files place other first second =
    not_apart place other (second.least.first place first.least.holds) (first.least.first other second.least.holds)

before_again : (a b c : FilePlace) → ComesBefore a b → ComesBefore b c → ComesBefore a c
before_again a b c (inl f) (inl g) = inl (omega (arith, f, g))
before_again a b c (inl f) (inr (e, rest)) = inl (omega (arith, f, e))
before_again a b c (inr (e, rest)) (inl g) = inl (omega (arith, e, g))
before_again a b c (inr (e, inl s)) (inr (f, inl t)) = inr (e ∙ f, inl (omega (arith, s, t)))
before_again a b c (inr (e, inl s)) (inr (f, inr (h, t))) = inr (e ∙ f, inl (omega (arith, s, h)))
before_again a b c (inr (e, inr (g, s))) (inr (f, inl t)) = inr (e ∙ f, inl (omega (arith, g, t)))
before_again a b c (inr (e, inr (g, s))) (inr (f, inr (h, t))) = inr (e ∙ f, inr (g ∙ h, omega (arith, s, t)))

never_itself : (a : FilePlace) → ComesBefore a a → ⊥
never_itself a (inl f) = omega (arith, f)
never_itself a (inr (e, inl s)) = omega (arith, s)
never_itself a (inr (e, inr (g, s))) = omega (arith, s)

-- one place more
module _ (places : List FilePlace) (least place : FilePlace) (so_far : IsFirstPlace (Contains places) least) where
  first_moves : ComesBefore place least → IsFirstPlace (Contains (places ++ place ∷ [])) place
  first_moves before = record {
    holds = Contains-append_right places (place ∷ []) place (in_front place []);
    first = λ other there less. elim (Contains-append_cases places (place ∷ []) other there) [
      | inl old ↦ so_far.first other old (before_again other place least less before)
      | inr new ↦ never_itself other (subst (ComesBefore other) (only place other new) less)
    ];
  }

  first_stays : (ComesBefore place least → ⊥) → IsFirstPlace (Contains (places ++ place ∷ [])) least
  first_stays not = record {
    holds = Contains-append_left places (place ∷ []) least so_far.holds;
    first = λ other there less. elim (Contains-append_cases places (place ∷ []) other there) [
      | inl old ↦ so_far.first other old less
      | inr new ↦ not (subst (λ (p : FilePlace). ComesBefore p least) (sym (only place other new)) less)
    ];
  }

  pub first_next : (new : FilePlace)
      → ((new ≡ place) × ComesBefore place least) ⊎ ((new ≡ least) × (ComesBefore place least → ⊥))
      → IsFirstPlace (Contains (places ++ place ∷ [])) new
  first_next new (inl moved) =
      subst (IsFirstPlace (Contains (places ++ place ∷ []))) (sym moved.0) (first_moves moved.1)
  first_next new (inr stays) =
      subst (IsFirstPlace (Contains (places ++ place ∷ []))) (sym stays.0) (first_stays stays.1)

pub first_alone : (place : FilePlace) → IsFirstPlace (Contains (place ∷ [])) place
first_alone place = record {
  holds = in_front place [];
  first = λ other there less. never_itself other (subst (ComesBefore other) (only place other there) less);
}
