-- What the names of an option name, one by one.
use Rattle.std.proofs.Common.{◌≡◌, ◌↔◌, inl, inr, ℕ, ◌+◌, ◌<◌, ◌≤◌, Bool, true, false, List, [], ◌∷◌, ◌++◌}
use Rattle.std.proofs.Common.{length, map, get_or, Option, Some, None, MatchOption, IsTrue, refl, ap, sym, ◌∙◌, subst, arith}
use Rattle.std.specs.List.{Contains, slice_get}
use Rattle.std.specs.List.Sorted.{IsStrictlyIncreasing}
use Rattle.std.proofs.lemmas.Bool.{cases_lt, false≢true}
use Rattle.std.proofs.lemmas.Option.{same_Some, slice_get_within, slice_get-get_or}
use Rattle.std.proofs.lemmas.List.{get_or-map, get_or_push, length-map, length_push}
use Rattle.std.proofs.lemmas.List.Elements.{Contains-append_left, Contains-get_or, Contains-push, Contains-push_cases}
use Rattle.basics.proofs.ListLemmas.{in_nothing}
use Rattle.proto_decl.specs.Facts.{Facts, AreOfSomeFile, NamesInOrder, PackageInOrder, UsesAreFilled, UsesInOrder}
use Rattle.proto_options.specs.declared.names.OptionName.{OptionName}
use Rattle.proto_options.specs.declared.options.FileOption.{FileOption}
use Rattle.proto_visibility.specs.declared.clash.Duplicates.TheVariants.{Keep}
use Rattle.proto_visibility.specs.declared.lookup.Entity.{Entity}
use Rattle.proto_visibility.specs.Clashes.{NoClash}
use Rattle.proto_visibility.specs.Files.{File, HaveOrigins, IsSource}
use Rattle.proto_visibility.proofs.SeeingLemmas.{slice_get_prefix}
use Rattle.option_link.specs.declared.contexts.Context.{Context}
use Rattle.option_link.specs.declared.facts.OptionFacts.{OptionFacts}
use Rattle.option_link.specs.declared.linker.Found.{Found}
use Rattle.option_link.specs.declared.place.DeclaredPlace.{DeclaredPlace}
use Rattle.option_link.specs.declared.target.OptionTarget.{OptionTarget}
use Rattle.option_link.specs.declared.target.UncertainName.{UncertainName}
use Rattle.option_link.specs.Fields.{AreInOrder}
use Rattle.option_link.specs.Contexts.{Leads, NamesIn, StandsIn, behind_spelled}
use Rattle.option_link.specs.OptionNames.{IsGap, IsOptionTarget, LacksTarget, NamesParts, NamesPlace, NeedsNoTarget}
use Rattle.option_link.specs.Tables.{IsClear}
use Rattle.option_link.specs.Found.{AddsParts, AreFound, AreGiven, ArePartsOf, IsBehind, LeadsFrom, first_gap}
use Rattle.option_link.specs.Uncertain.{IsInDoubt, IsLookedUpFarther, IsUncertainName}
use Rattle.option_link.specs.Doubts.{IsDoubtHere, first_doubt}
use Rattle.option_link.proofs.ContextLemmas.{one_context}
use Rattle.option_link.proofs.DoubtLemmas.{IsFirstDoubt, doubt_more}
use Rattle.option_link.proofs.LoopLemmas.{some_of}
use Rattle.option_link.proofs.NameLemmas.{one_named}
use Rattle.option_link.proofs.TargetLemmas.{by_component_or_reachable, parts_alike}

-- ---- lists

rising_push : (xs : List OptionTarget) (x : OptionTarget) → IsStrictlyIncreasing (map (λ (t : OptionTarget). t.name_number) xs)
    → ((t : OptionTarget) → Contains xs t → t.name_number < x.name_number)
    → IsStrictlyIncreasing (map (λ (t : OptionTarget). t.name_number) (xs ++ x ∷ []))
rising_push xs x rising below k within =
    let key : OptionTarget → ℕ = λ t. t.name_number in
    let size = length-map (xs ++ x ∷ []) key in
    let all = length_push xs x in
    let inside : k + 1 < length (xs ++ x ∷ []) = omega (arith, within, size) in
    elim (cases_lt (k + 1) (length xs)) [
      | inl before ↦ (
          let short = length-map xs key in
          omega (
            arith,
            rising k (omega (arith, before, short)),
            get_or-map key xs k x 0 (omega (arith, before)),
            get_or-map key xs (k + 1) x 0 before,
            get_or-map key (xs ++ x ∷ []) k x 0 (omega (arith, inside)),
            get_or-map key (xs ++ x ∷ []) (k + 1) x 0 inside,
            ap key (kept_front xs x k (omega (arith, before))),
            ap key (kept_front xs x (k + 1) before),
          ))
      | inr last ↦ (
          let here : length xs ≡ k + 1 = omega (arith, last, inside, all) in
          omega (
            arith,
            get_or-map key (xs ++ x ∷ []) k x 0 (omega (arith, inside)),
            get_or-map key (xs ++ x ∷ []) (k + 1) x 0 inside,
            ap key (kept_front xs x k (omega (arith, here))),
            ap key (get_or_push xs x x (k + 1) here),
            below (get_or xs k x) (Contains-get_or xs k x (omega (arith, here))),
          ))
    ]
  where
    kept_front : (ys : List OptionTarget) (y : OptionTarget) (i : ℕ) → i < length ys
        → get_or (ys ++ y ∷ []) i y ≡ get_or ys i y
    kept_front ys y i before =
        same_Some (get_or (ys ++ y ∷ []) i y) (get_or ys i y)
        (sym (slice_get-get_or (ys ++ y ∷ []) i y (omega (arith, before, length_push ys y)))
        ∙ (slice_get_prefix ys (y ∷ []) i before ∙ slice_get-get_or ys i y before))

-- ---- nothing yet

module _ (files : List File) (known : List OptionFacts) (file : ℕ) (text : List ℕ) (option : FileOption) where
  pub found_none : (found : Found) → found.targets.items ≡ [] → found.given.items ≡ [] → found.gap ≡ None
      → found.uncertain ≡ None → AreFound files known file text option 0 found
  found_none found no_targets no_given no_gap no_doubt = record {
    targets = λ target. (
      λ there. absurd (in_nothing target (subst (λ (ts : List OptionTarget). Contains ts target) no_targets there)),
      λ its. absurd (omega (arith, its.1)),
    );
    rising = subst (λ (ts : List OptionTarget). IsStrictlyIncreasing (map (λ (t : OptionTarget). t.name_number) ts))
        (sym no_targets) (λ k within. absurd (omega (arith, within)));
    each = ap length no_given;
    given = λ k its at. absurd (none_given k its (subst (λ (gs : List (Option Context)). slice_get gs k ≡ Some its)
        no_given at));
    gap = subst (λ (g : Option ℕ). MatchOption g
        ((number : ℕ) (name : OptionName) → number < 0 → LacksTarget files known file text option number name → ⊥)
        (λ number. (name : OptionName) × IsGap files known file text option number name)) (sym no_gap)
        (λ number name before lacks. omega (arith, before));
    uncertain = subst (IsFirstDoubt files known file text option 0) (sym no_doubt)
        (λ number behind before doubt. omega (arith, before));
  }
    where
      none_given : (k : ℕ) (its : Option Context) → slice_get [] k ≡ Some its → ⊥
      none_given k its at = omega (arith, slice_get_within {A = Option Context} [] k its at)

-- ---- all of them

module _ (files : List File) (known : List OptionFacts) (file : ℕ) (text : List ℕ) (option : FileOption) (count : ℕ)
    (all : length option.setting.names ≤ count) (found : Found)
    (are : AreFound files known file text option count found) where
  pub all_targets_by : (targets : List OptionTarget) → targets ≡ found.targets.items → (target : OptionTarget)
      → Contains targets target ↔ IsOptionTarget files known file text option target
  all_targets_by targets same target = (
    λ there. ((are.targets target).0 (subst (λ (ts : List OptionTarget). Contains ts target) same there)).0,
    λ is. subst (λ (ts : List OptionTarget). Contains ts target) (sym same) ((are.targets target).1 (
      is,
      omega (arith, all, slice_get_within option.setting.names target.name_number is.name is.names.numbered),
    )),
  )

  pub all_rising : (targets : List OptionTarget) → targets ≡ found.targets.items
      → IsStrictlyIncreasing (map (λ (t : OptionTarget). t.name_number) targets)
  all_rising targets same =
      subst (λ (ts : List OptionTarget). IsStrictlyIncreasing (map (λ (t : OptionTarget). t.name_number) ts)) (sym same)
      are.rising

  pub all_gaps : MatchOption found.gap
      ((number : ℕ) (name : OptionName) → IsGap files known file text option number name → ⊥)
      (λ number. (name : OptionName) × IsGap files known file text option number name)
  all_gaps = by found.gap are.gap
    where
      by : (gap : Option ℕ) → MatchOption gap
          ((number : ℕ) (name : OptionName) → number < count → LacksTarget files known file text option number name → ⊥)
          (λ number. (name : OptionName) × IsGap files known file text option number name)
          → MatchOption gap ((number : ℕ) (name : OptionName) → IsGap files known file text option number name → ⊥)
          (λ number. (name : OptionName) × IsGap files known file text option number name)
      by None none = λ number name gap. none number name
          (omega (arith, all, slice_get_within option.setting.names number name gap.lacks.numbered)) gap.lacks
      by (Some number) some = some

  pub all_doubts : MatchOption found.uncertain
      ((number behind : ℕ) → IsInDoubt files known file text option number behind → ⊥)
      (IsUncertainName files known file text option)
  all_doubts = by found.uncertain are.uncertain
    where
      by : (uncertain : Option UncertainName) → IsFirstDoubt files known file text option count uncertain
          → MatchOption uncertain ((number behind : ℕ) → IsInDoubt files known file text option number behind → ⊥)
          (IsUncertainName files known file text option)
      by None none = λ number behind doubt. none number behind
          (omega (arith, all, slice_get_within option.setting.names number doubt.name doubt.names.numbered)) doubt
      by (Some uncertain) some = some

-- ---- one more

module _ (files : List File) (origins : HaveOrigins files) (clear : NoClash Keep files)
    (known : List OptionFacts) (order : AreInOrder known)
    (names : (facts : Facts) → AreOfSomeFile facts → NamesInOrder facts.declarations)
    (packages : (facts : Facts) → AreOfSomeFile facts → PackageInOrder facts)
    (uses : (facts : Facts) → AreOfSomeFile facts → UsesInOrder facts.uses)
    (filled : (facts : Facts) → AreOfSomeFile facts → UsesAreFilled facts.uses) (file : ℕ) (source : IsSource files file)
    (text : List ℕ) (option : FileOption) (number : ℕ) (name : OptionName)
    (numbered : slice_get option.setting.names number ≡ Some name) (context : Option Context)
    (in_context : MatchOption context ((c : Context) → StandsIn files known file text option number c → ⊥)
    (λ c. StandsIn files known file text option number c × IsClear files c)) (target : Option DeclaredPlace)
    (is_target : MatchOption target
    ((inner : Context) (at : DeclaredPlace) → context ≡ Some inner
    → NamesIn files known file text option number name inner at → ⊥)
    (λ at. (inner : Context) × (context ≡ Some inner) × NamesIn files known file text option number name inner at))
    (behind : ℕ) (is_behind : (inner : Context) → context ≡ Some inner
    → IsBehind files known file text option number name name.role inner behind) where
  same_name : (other : OptionName) → slice_get option.setting.names number ≡ Some other → other ≡ name
  same_name other at = same_Some other name (sym at ∙ numbered)

  -- it is looked up in this
  in_this : (c : Context) → StandsIn files known file text option number c → context ≡ Some c
  in_this c stands = by context refl in_context
    where
      by : (found : Option Context) → context ≡ found
          → MatchOption found ((d : Context) → StandsIn files known file text option number d → ⊥)
          (λ d. StandsIn files known file text option number d × IsClear files d) → context ≡ Some c
      by None is none = absurd (none c stands)
      by (Some d) is its = is ∙ ap Some (one_context files origins known order names uses filled file text option
          number d c its.0 stands)

  -- it names this
  names_this : (other : OptionName) (at : DeclaredPlace) → NamesPlace files known file text option number other at
      → target ≡ Some at
  names_this other at place = by target refl is_target
    where
      same : other ≡ name
      same = same_name other place.numbered

      its : NamesIn files known file text option number name place.context at
      its = subst (λ (n : OptionName). NamesIn files known file text option number n place.context at) same place.names

      by : (found : Option DeclaredPlace) → target ≡ found → MatchOption found
          ((inner : Context) (one : DeclaredPlace) → context ≡ Some inner
          → NamesIn files known file text option number name inner one → ⊥)
          (λ one. (inner : Context) × (context ≡ Some inner)
          × NamesIn files known file text option number name inner one) → target ≡ Some at
      by None is none = absurd (none place.context at (in_this place.context place.stands) its)
      by (Some one) is some =
          let inner = same_Some some.0 place.context (sym some.1 ∙ in_this place.context place.stands) in
          let moved = subst (λ (c : Context). NamesIn files known file text option number name c one) inner some.2 in
          is ∙ ap Some (one_named files known file text option number name name.role place.context one at moved its)

  place_named : (at : DeclaredPlace) → target ≡ Some at → NamesPlace files known file text option number name at
  place_named at is =
      let some = some_of _ _ at is is_target in
      record {
        numbered = numbered;
        context = some.0;
        stands = stands_there some.0 some.1;
        names = some.2;
      }
    where
      stands_there : (c : Context) → context ≡ Some c → StandsIn files known file text option number c
      stands_there c there = (some_of _ _ c there in_context).0

  -- ---- targets

  module _ (old new : List OptionTarget)
      (before : (t : OptionTarget) → Contains old t
      ↔ (IsOptionTarget files known file text option t × (t.name_number < number)))
      (parts : Option (List Entity)) (are : ArePartsOf files name behind target parts)
      (adds : AddsParts number parts old new) where
    -- what the components of a name name by what it names, they name by what is behind
    exact_parts : (at : DeclaredPlace) (place : NamesPlace files known file text option number name at)
        (its : List Entity) → NamesParts files name at (behind_spelled place.names) its
        → NamesParts files name at behind its
    exact_parts at place its = subst (λ (n : ℕ). NamesParts files name at n its)
        (is_behind place.context (in_this place.context place.stands) at place.names)

    named_parts : (other : OptionName) (at : DeclaredPlace)
        (place : NamesPlace files known file text option number other at) (its : List Entity)
        → NamesParts files other at (behind_spelled place.names) its → NamesParts files name at behind its
    named_parts other at place =
        subst (λ (o : OptionName). (p : NamesPlace files known file text option number o at) (its : List Entity)
        → NamesParts files o at (behind_spelled p.names) its → NamesParts files name at behind its)
        (sym (same_name other place.numbered)) (exact_parts at) place

    numbered_parts : (n : ℕ) → n ≡ number → (other : OptionName) (at : DeclaredPlace)
        (place : NamesPlace files known file text option n other at) (its : List Entity)
        → NamesParts files other at (behind_spelled place.names) its → NamesParts files name at behind its
    numbered_parts n same =
        subst (λ (k : ℕ). (other : OptionName) (at : DeclaredPlace)
        (place : NamesPlace files known file text option k other at) (its : List Entity)
        → NamesParts files other at (behind_spelled place.names) its → NamesParts files name at behind its)
        (sym same) named_parts

    one_target_here : (t : OptionTarget) → IsOptionTarget files known file text option t → t.name_number ≡ number
        → (at : DeclaredPlace) × (target ≡ Some at) × NamesParts files name at behind t.parts
    one_target_here t is same = (
      is.at,
      names_this is.name is.at
          (subst (λ (n : ℕ). NamesPlace files known file text option n is.name is.at) same is.names),
      numbered_parts t.name_number same is.name is.at is.names t.parts is.parts,
    )

    pub targets_more : (t : OptionTarget) → Contains new t
        ↔ (IsOptionTarget files known file text option t × (t.name_number < number + 1))
    targets_more t = by target refl parts are adds
      where
        widen : Contains old t → IsOptionTarget files known file text option t × (t.name_number < number + 1)
        widen there = (let its = (before t).0 there in (its.0, omega (arith, its.1)))

        by : (found : Option DeclaredPlace) → target ≡ found → (made : Option (List Entity))
            → ArePartsOf files name behind found made → AddsParts number made old new
            → Contains new t ↔ (IsOptionTarget files known file text option t × (t.name_number < number + 1))
        by None none _ no_parts added = (
          λ there. widen (subst (λ (ts : List OptionTarget). Contains ts t) same there),
          λ its. subst (λ (ts : List OptionTarget). Contains ts t) (sym same) (elim (cases_lt t.name_number number) [
            | inl less ↦ (before t).1 (its.0, less)
            | inr last ↦ (
                let here : t.name_number ≡ number = omega (arith, its.1, last) in
                let one = one_target_here t its.0 here in
                absurd (none_some one.0 (sym none ∙ one.1)))
          ]),
        )
          where
            none_some : (p : DeclaredPlace) → None ≡ Some p → ⊥
            none_some p e = cc

            same : new ≡ old
            same = subst (λ (made : Option (List Entity)). AddsParts number made old new) no_parts added
        by (Some at) is None missing added = absurd missing
        by (Some at) is (Some its) named added =
            let one : OptionTarget = record { name_number = number; parts = its } in
            let place_is = place_named at is in
            let whole : IsOptionTarget files known file text option one = record {
              name = name;
              at = at;
              names = place_is;
              parts = subst (λ (n : ℕ). NamesParts files name at n its)
                  (sym (is_behind place_is.context (in_this place_is.context place_is.stands) at place_is.names)) named;
            } in (
              λ there. elim (Contains-push_cases old one t (subst (λ (ts : List OptionTarget). Contains ts t) added there)) [
                | inl kept ↦ widen kept
                | inr same ↦ subst (λ (u : OptionTarget). IsOptionTarget files known file text option u
                    × (u.name_number < number + 1)) same (whole, omega arith)
              ],
              λ both. subst (λ (ts : List OptionTarget). Contains ts t) (sym added) (elim (cases_lt t.name_number number) [
                | inl less ↦ Contains-append_left old (one ∷ []) t ((before t).1 (both.0, less))
                | inr last ↦ (
                    let here : t.name_number ≡ number = omega (arith, both.1, last) in
                    let other = one_target_here t both.0 here in
                    let place : other.0 ≡ at = same_Some other.0 at (sym other.1 ∙ is) in
                    let there = subst (λ (p : DeclaredPlace). NamesParts files name p behind t.parts) place other.2 in
                    let alike = parts_alike files origins names packages Keep clear name at behind its t.parts
                    (by_component_or_reachable files known file source text option number name name.role place_is.context
                    at place_is.names) named there in
                    subst (Contains (old ++ one ∷ [])) (same_target one t (sym here) alike) (Contains-push old one))
              ]),
            )
          where
            made : ℕ → List Entity → OptionTarget
            made n parts = record { name_number = n; parts = parts }

            same_target : (a b : OptionTarget) → a.name_number ≡ b.name_number → a.parts ≡ b.parts → a ≡ b
            same_target a b n parts = ap (λ m. made m a.parts) n ∙ ap (made b.name_number) parts

    pub rising_more : IsStrictlyIncreasing (map (λ (t : OptionTarget). t.name_number) old)
        → IsStrictlyIncreasing (map (λ (t : OptionTarget). t.name_number) new)
    rising_more rising = by parts adds
      where
        by : (made : Option (List Entity)) → AddsParts number made old new
            → IsStrictlyIncreasing (map (λ (t : OptionTarget). t.name_number) new)
        by None same = subst (λ (ts : List OptionTarget). IsStrictlyIncreasing
            (map (λ (t : OptionTarget). t.name_number) ts)) (sym same) rising
        by (Some its) added = subst (λ (ts : List OptionTarget). IsStrictlyIncreasing
            (map (λ (t : OptionTarget). t.name_number) ts)) (sym added)
            (rising_push old (record { name_number = number; parts = its }) rising
            (λ t there. ((before t).0 there).1))

  -- ---- what is given

  pub given_more : (old new : List (Option Context)) (given : Option Context) → length old ≡ number
      → new ≡ old ++ given ∷ [] → AreGiven files known file text option old
      → ((outer : Context) → context ≡ Some outer → MatchOption target
      ((at : DeclaredPlace) → NamesIn files known file text option number name outer at → ⊥)
      (NamesIn files known file text option number name outer)
      → MatchOption given ((inner : Context) → Leads files known file text option number name outer inner → ⊥)
      (λ inner. Leads files known file text option number name outer inner × IsClear files inner))
      → (context ≡ None → given ≡ None) → AreGiven files known file text option new
  given_more old new given size made so_far leads none k its at = elim (cases_lt k (length old)) [
    | inl before ↦ so_far k its (sym (slice_get_prefix old (given ∷ []) k before)
        ∙ subst (λ (gs : List (Option Context)). slice_get gs k ≡ Some its) made at)
    | inr last ↦ (
        let there = subst (λ (gs : List (Option Context)). slice_get gs k ≡ Some its) made at in
        let within = slice_get_within (old ++ given ∷ []) k its there in
        let here : length old ≡ k = omega (arith, last, within, length_push old given) in
        let same : given ≡ its = same_Some given its (sym (slice_get-get_or (old ++ given ∷ []) k given
        (omega (arith, within)) ∙ ap Some (get_or_push old given given k here)) ∙ there) in
        let place : number ≡ k = sym size ∙ here in
        subst (λ (n : ℕ). MatchOption its ((inner : Context) → LeadsFrom files known file text option n inner → ⊥)
        (λ inner. LeadsFrom files known file text option n inner × IsClear files inner)) place
        (subst (λ (g : Option Context). MatchOption g
        ((inner : Context) → LeadsFrom files known file text option number inner → ⊥)
        (λ inner. LeadsFrom files known file text option number inner × IsClear files inner)) same here_given))
  ]
    where
      target_at : (outer : Context) → context ≡ Some outer → MatchOption target
          ((at : DeclaredPlace) → NamesIn files known file text option number name outer at → ⊥)
          (NamesIn files known file text option number name outer)
      target_at outer is = by target is_target
        where
          by : (found : Option DeclaredPlace) → MatchOption found
              ((inner : Context) (one : DeclaredPlace) → context ≡ Some inner
              → NamesIn files known file text option number name inner one → ⊥)
              (λ one. (inner : Context) × (context ≡ Some inner)
              × NamesIn files known file text option number name inner one)
              → MatchOption found ((at : DeclaredPlace) → NamesIn files known file text option number name outer at → ⊥)
              (NamesIn files known file text option number name outer)
          by None nothing = λ one names_it. nothing outer one is names_it
          by (Some one) some = subst (λ (c : Context). NamesIn files known file text option number name c one)
              (same_Some some.0 outer (sym some.1 ∙ is)) some.2

      here_given : MatchOption given ((inner : Context) → LeadsFrom files known file text option number inner → ⊥)
          (λ inner. LeadsFrom files known file text option number inner × IsClear files inner)
      here_given = by context refl in_context
        where
          from_here : (outer : Context) → context ≡ Some outer → (inner : Context)
              → LeadsFrom files known file text option number inner
              → Leads files known file text option number name outer inner
          from_here outer is inner x =
              let same = same_name x.name x.numbered in
              let there = same_Some x.outer outer (sym (in_this x.outer x.stands) ∙ is) in
              subst (λ (c : Context). Leads files known file text option number name c inner) there
              (subst (λ (n : OptionName). Leads files known file text option number n x.outer inner) same x.leads)

          by : (found : Option Context) → context ≡ found
              → MatchOption found ((d : Context) → StandsIn files known file text option number d → ⊥)
              (λ d. StandsIn files known file text option number d × IsClear files d)
              → MatchOption given ((inner : Context) → LeadsFrom files known file text option number inner → ⊥)
              (λ inner. LeadsFrom files known file text option number inner × IsClear files inner)
          by None is nowhere = subst (λ (g : Option Context). MatchOption g
              ((inner : Context) → LeadsFrom files known file text option number inner → ⊥)
              (λ inner. LeadsFrom files known file text option number inner × IsClear files inner)) (sym (none is))
              (λ inner x. nowhere x.outer x.stands)
          by (Some outer) is its = over given (leads outer is (target_at outer is))
            where
              over : (g : Option Context) → MatchOption g
                  ((inner : Context) → Leads files known file text option number name outer inner → ⊥)
                  (λ inner. Leads files known file text option number name outer inner × IsClear files inner)
                  → MatchOption g ((inner : Context) → LeadsFrom files known file text option number inner → ⊥)
                  (λ inner. LeadsFrom files known file text option number inner × IsClear files inner)
              over None nothing = λ inner x. nothing inner (from_here outer is inner x)
              over (Some inner) its_lead = (
                record { name = name; numbered = numbered; outer = outer; stands = its.0; leads = its_lead.0 },
                its_lead.1,
              )

  -- ---- the gap

  lacks_here : (is : Bool) → (IsTrue is
      ↔ ((target ≡ None) × (NeedsNoTarget files known file text option number name → ⊥))) → is ≡ true
      → LacksTarget files known file text option number name
  lacks_here is iff true_so =
      let its = iff.0 true_so in
      record {
        numbered = numbered;
        nothing = λ at place. none_some at (sym its.0 ∙ names_this name at place);
        needed = its.1;
      }
    where
      none_some : (p : DeclaredPlace) → None ≡ Some p → ⊥
      none_some p e = cc

  is_here : (is : Bool) → (IsTrue is
      ↔ ((target ≡ None) × (NeedsNoTarget files known file text option number name → ⊥))) → (other : OptionName)
      → LacksTarget files known file text option number other → is ≡ true
  is_here is iff other lacks =
      let same = same_name other lacks.numbered in
      let its = subst (LacksTarget files known file text option number) same lacks in
      iff.1 (no_target target refl its, its.needed)
    where
      no_target : (found : Option DeclaredPlace) → target ≡ found
          → LacksTarget files known file text option number name → target ≡ None
      no_target None none l = none
      no_target (Some at) some l = absurd (l.nothing at (place_named at some))

  pub gap_more : (gap : Option ℕ) (is : Bool) → (IsTrue is
      ↔ ((target ≡ None) × (NeedsNoTarget files known file text option number name → ⊥)))
      → MatchOption gap
      ((n : ℕ) (other : OptionName) → n < number → LacksTarget files known file text option n other → ⊥)
      (λ n. (other : OptionName) × IsGap files known file text option n other)
      → MatchOption (first_gap gap number is)
      ((n : ℕ) (other : OptionName) → n < number + 1 → LacksTarget files known file text option n other → ⊥)
      (λ n. (other : OptionName) × IsGap files known file text option n other)
  gap_more (Some n) is iff some = some
  gap_more None true iff none = (
    name,
    record {
      lacks = lacks_here true iff refl;
      first = λ n other before lacks. none n other before lacks;
    },
  )
  gap_more None false iff none = λ n other before lacks. elim (cases_lt n number) [
    | inl less ↦ none n other less lacks
    | inr last ↦ (
        let here : n ≡ number = omega (arith, before, last) in
        false≢true (is_here false iff other
        (subst (λ (k : ℕ). LacksTarget files known file text option k other) here lacks)))
  ]

  -- ---- the uncertain name

  -- it is in doubt behind this
  doubt_this : (behind : Option ℕ) → MatchOption behind
      ((b : ℕ) → IsDoubtHere files file text option number name context target b → ⊥)
      (IsDoubtHere files file text option number name context target)
      → MatchOption behind ((b : ℕ) → IsInDoubt files known file text option number b → ⊥)
      (IsInDoubt files known file text option number)
  doubt_this None none = λ b doubt. none b (here b doubt)
    where
      here : (b : ℕ) → IsInDoubt files known file text option number b
          → IsDoubtHere files file text option number name context target b
      here b doubt = record {
        inner = doubt.names.context;
        in_context = in_this doubt.names.context doubt.names.stands;
        is = record {
          at = doubt.at;
          is_target = names_this doubt.name doubt.at doubt.names;
          farther = subst (λ n. IsLookedUpFarther files file text option number n doubt.names.context)
              (same_name doubt.name doubt.names.numbered) doubt.farther;
          first = doubt.first;
        };
      }
  doubt_this (Some b) some =
      let place = place_named some.is.at some.is.is_target in
      let same : some.inner ≡ place.context =
      same_Some some.inner place.context (sym some.in_context ∙ in_this place.context place.stands) in
      record {
        name = name;
        at = some.is.at;
        names = place;
        farther = subst (IsLookedUpFarther files file text option number name) same some.is.farther;
        first = some.is.first;
      }

  -- ---- all of it

  pub found_more : (old new : Found) (given : Option Context) (is : Bool) (parts : Option (List Entity))
      (unread : Option ℕ)
      → AreFound files known file text option number old → ArePartsOf files name behind target parts
      → AddsParts number parts old.targets.items new.targets.items → new.given.items ≡ old.given.items ++ given ∷ []
      → ((outer : Context) → context ≡ Some outer → MatchOption target
      ((at : DeclaredPlace) → NamesIn files known file text option number name outer at → ⊥)
      (NamesIn files known file text option number name outer)
      → MatchOption given ((inner : Context) → Leads files known file text option number name outer inner → ⊥)
      (λ inner. Leads files known file text option number name outer inner × IsClear files inner))
      → (context ≡ None → given ≡ None) → (IsTrue is
      ↔ ((target ≡ None) × (NeedsNoTarget files known file text option number name → ⊥)))
      → new.gap ≡ first_gap old.gap number is → MatchOption unread
      ((b : ℕ) → IsDoubtHere files file text option number name context target b → ⊥)
      (IsDoubtHere files file text option number name context target)
      → new.uncertain ≡ first_doubt old.uncertain number unread
      → AreFound files known file text option (number + 1) new
  found_more old new given is parts unread so_far are adds made leads none iff gap_is doubt doubt_is = record {
    targets = targets_more old.targets.items new.targets.items so_far.targets parts are adds;
    rising = rising_more old.targets.items new.targets.items so_far.targets parts are adds so_far.rising;
    each = omega (arith, ap length made, length_push old.given.items given, so_far.each);
    given = given_more old.given.items new.given.items given so_far.each made so_far.given leads none;
    gap = subst (λ (g : Option ℕ). MatchOption g
        ((n : ℕ) (other : OptionName) → n < number + 1 → LacksTarget files known file text option n other → ⊥)
        (λ n. (other : OptionName) × IsGap files known file text option n other)) (sym gap_is)
        (gap_more old.gap is iff so_far.gap);
    uncertain = subst (IsFirstDoubt files known file text option (number + 1)) (sym doubt_is)
        (doubt_more files known file text option number old.uncertain unread so_far.uncertain
        (doubt_this unread doubt));
  }
