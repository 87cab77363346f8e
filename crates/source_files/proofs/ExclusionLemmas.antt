-- What isn't excluded, one after the other.
use Rattle.std.proofs.Common.{◌≡◌, ◌∙◌, ◌↔◌, ◌≤◌, ◌-◌, ℕ, Bool, true, false, List, [], ◌∷◌, ◌++◌, map, sym, subst}
use Rattle.std.proofs.Common.{◌≢◌, drop, get_or, length, take}
use Rattle.std.proofs.lemmas.Bool.{false≢true}
use Rattle.source_files.proofs.WellKnownLemmas.{first_of_rest}
use Rattle.std.proofs.lemmas.List.{append-nil}
use Rattle.source_files.specs.Exclusions.{AddsLeft, HasExcluded, Stay, none_stays, stays, goes}
use Rattle.source_files.specs.Exclusions.HasExcluded.{excluded_here, excluded_behind}
use Rattle.globs.specs.Exclusions.{IsExcluded}

module _ {A : Type 0} (name_of : A → List ℕ) (patterns : List (List ℕ)) (folder : List ℕ) where
  stay_append : {all left more longer : List A} → Stay name_of patterns folder all left
      → Stay name_of patterns folder more longer → Stay name_of patterns folder (all ++ more) (left ++ longer)
  stay_append none_stays behind = behind
  stay_append (stays kept front) behind = stays kept (stay_append front behind)
  stay_append (goes excluded front) behind = goes excluded (stay_append front behind)

  -- more of them
  pub more_stay : (all more old new : List A) → Stay name_of patterns folder all old
      → AddsLeft name_of patterns folder more old new → Stay name_of patterns folder (all ++ more) new
  more_stay all more old new so_far adds =
      subst (Stay name_of patterns folder (all ++ more)) (sym adds.new_are) (stay_append so_far adds.stay)

  -- one that stays
  pub adds_one : (one : A) (old new : List A) → ¬ (IsExcluded patterns folder (name_of one)) → new ≡ old ++ one ∷ []
      → AddsLeft name_of patterns folder (one ∷ []) old new
  adds_one one old new kept are = record { left = one ∷ []; stay = stays kept none_stays; new_are = are }

  -- and one that doesn't
  pub adds_none : (one : A) (old : List A) → IsExcluded patterns folder (name_of one)
      → AddsLeft name_of patterns folder (one ∷ []) old old
  adds_none one old excluded = record { left = []; stay = goes excluded none_stays; new_are = sym (append-nil old) }

-- of what has names, by those
module _ {A B : Type 0} (view : A → B) (name_of : B → List ℕ) (patterns : List (List ℕ)) (folder : List ℕ) where
  pub names_stay : {all left : List A} → Stay (λ (one : A). name_of (view one)) patterns folder all left
      → Stay name_of patterns folder (map view all) (map view left)
  names_stay none_stays = none_stays
  names_stay (stays kept rest) = stays kept (names_stay rest)
  names_stay (goes excluded rest) = goes excluded (names_stay rest)

-- ---- the names of a path

module _ (patterns : List (List ℕ)) where
  -- behind a name that isn't excluded
  pub excluded_on : (folder deeper name : List ℕ) (names : List (List ℕ)) → ¬ (IsExcluded patterns folder name)
      → deeper ≡ folder ++ (name ++ 47 ∷ []) → HasExcluded patterns folder (name ∷ names)
      → HasExcluded patterns deeper names
  excluded_on folder deeper name names kept is (excluded_here excluded) = absurd (kept excluded)
  excluded_on folder deeper name names kept is (excluded_behind behind) =
      subst (λ (f : List ℕ). HasExcluded patterns f names) (sym is) behind

  -- the first of the names that are left
  pub here_excluded : {A : Type 0} (f : A → List ℕ) (rest : List A) (blank : A) (folder shown : List ℕ)
      → 1 ≤ length rest → shown ≡ folder → IsExcluded patterns shown (f (get_or rest 0 blank))
      → HasExcluded patterns folder (map f rest)
  here_excluded f rest blank folder shown some is excluded =
      subst (HasExcluded patterns folder) (sym (first_of_rest f rest blank some))
      (excluded_here (subst (λ (l : List ℕ). IsExcluded patterns l (f (get_or rest 0 blank))) is excluded))

  pub behind_excluded : {A : Type 0} (f : A → List ℕ) (rest : List A) (blank : A) (folder deeper : List ℕ)
      → 1 ≤ length rest → deeper ≡ folder ++ (f (get_or rest 0 blank) ++ 47 ∷ [])
      → HasExcluded patterns deeper (map f (take (length rest - 1) (drop 1 rest)))
      → HasExcluded patterns folder (map f rest)
  behind_excluded f rest blank folder deeper some is behind =
      subst (HasExcluded patterns folder) (sym (first_of_rest f rest blank some))
      (excluded_behind (subst (λ (l : List ℕ). HasExcluded patterns l (map f (take (length rest - 1) (drop 1 rest)))) is
      behind))

  pub ahead_excluded : {A : Type 0} (f : A → List ℕ) (rest : List A) (blank : A) (folder shown deeper : List ℕ)
      (is_so : Bool) → 1 ≤ length rest → shown ≡ folder
      → (is_so ≡ true ↔ IsExcluded patterns shown (f (get_or rest 0 blank))) → is_so ≡ false
      → deeper ≡ folder ++ (f (get_or rest 0 blank) ++ 47 ∷ [])
      → HasExcluded patterns folder (map f rest)
      → HasExcluded patterns deeper (map f (take (length rest - 1) (drop 1 rest)))
  ahead_excluded f rest blank folder shown deeper is_so some shows tells kept is excluded =
      excluded_on folder deeper (f (get_or rest 0 blank)) _
      (λ here. false≢true (sym kept ∙ tells.1
      (subst (λ (l : List ℕ). IsExcluded patterns l (f (get_or rest 0 blank))) (sym shows) here)))
      is (subst (HasExcluded patterns folder) (first_of_rest f rest blank some) excluded)
