-- The files that sources reach, level by level.
use Rattle.std.proofs.Common.{◌≡◌, ◌∙◌, ◌⊎◌, ◌↔◌, ◌+◌, ◌<◌, ◌≤◌, ℕ, Bool, true, false, List, [], ◌∷◌, ◌++◌, map, not}
use Rattle.std.proofs.Common.{length, refl, sym, ap, subst, arith, All, Contains, inl, inr, Option}
use Rattle.std.proofs.Common.{Result}
use Rattle.std.proofs.Common.{◌*◌, ◌-◌, ◌&&◌, string_bytes, if◌then◌else◌}
use Rattle.std.proofs.Math.Logic.{⊎_elim}
use Rattle.std.specs.List.{flat_map}
use Rattle.std.proofs.Common.{◌==◌}
use Rattle.std.specs.Global.{Global}
use Rattle.std.specs.Prelude.{String}
use Rattle.std.proofs.lemmas.Bool.{cases_lt, eqb-true, false≢true}
use Rattle.std.proofs.lemmas.Grind.{flat_map-append}
use Rattle.std.proofs.lemmas.List.{append-nil, length-append, map-append}
use Rattle.std.proofs.lemmas.List.Elements.{All-nil, All-cons, All-append, All-weaker, All-contains}
use Rattle.std.proofs.lemmas.List.Elements.{All-contains_itself}
use Rattle.std.proofs.lemmas.List.Elements.{Contains-append_left, Contains-append_right, Contains-append_cases}
use Rattle.source_tree.specs.Path.{IsGoodPath}
use Rattle.source_tree.specs.Trees.{max_files}
use Rattle.source_files.specs.declared.load_fault.LoadFault.{LoadFault}
use Rattle.source_files.specs.declared.load_fault.LoadFault.TheVariants as load
use Rattle.source_files.specs.declared.looking.Looked.{Looked}
use Rattle.source_files.specs.declared.looking.Looked.TheVariants.{Found, LeftOut, Nowhere}
use Rattle.source_files.specs.Closures.{AddsFresh, AreFresh, Gathered, none_fresh, Same, found_of, gathered, left_of}
use Rattle.source_files.specs.Closures.{built_in_of, wanted_by, wanted_first, wanted_in, wanted_of, with_more}
use Rattle.source_files.specs.Looks.{AreLooked, GivesLooked, MayStopLooking}
use Rattle.source_files.specs.Reached.{AreApart, AreIncluded, AreSomeReached, CantBeRead, HasNone, Import, IsReached, IsTold}
use Rattle.source_files.specs.Reached.{MayNotInclude, Told, built_in, descriptor_path, imported, no_path, one_more}
use Rattle.source_files.specs.Reached.{passed_on, path_of}
use Rattle.source_files.proofs.ClosureLemmas.{apart_append, at_front, behind_front, fresh_apart, fresh_from, fresh_good}
use Rattle.source_files.proofs.ClosureLemmas.{fresh_new, fresh_whole, front_or_behind, nothing_there}

-- ---- what is wanted is reached

-- a member of one of several lists
in_flat : {A B : Type 0} (f : A → List B) (xs : List A) (y : B) → Contains (flat_map f xs) y
    → (x : A) × Contains xs x × Contains (f x) y
in_flat f [] y there = absurd (nothing_there y there)
in_flat f (x ∷ xs) y there =
    ⊎_elim (λ here. (x, at_front x xs, here))
    (λ behind. let rest = in_flat f xs y behind in (rest.0, behind_front x xs rest.0 rest.1, rest.2))
    (Contains-append_cases (f x) (flat_map f xs) y there)

flat_has : {A B : Type 0} (f : A → List B) (xs : List A) (x : A) (y : B) → Contains xs x → Contains (f x) y
    → Contains (flat_map f xs) y
flat_has f [] x y there here = absurd (nothing_there x there)
flat_has f (first ∷ xs) x y there here =
    ⊎_elim (λ is. Contains-append_left (f first) (flat_map f xs) y (subst (λ z. Contains (f z) y) (sym is) here))
    (λ behind. Contains-append_right (f first) (flat_map f xs) y (flat_has f xs x y behind here))
    (front_or_behind first xs x there)

-- an import that wants a path
wants_at : (publicly is_public : Bool) (named path : List ℕ)
    → Contains (if publicly && not is_public then [] else named ∷ []) path
    → (named ≡ path) × (publicly ≡ true → is_public ≡ true)
wants_at true true named path there = (
  ⊎_elim (λ is. is) (λ none. absurd (nothing_there path none)) (front_or_behind named [] path there),
  λ _. refl,
)
wants_at true false named path there = absurd (nothing_there path there)
wants_at false is_public named path there = (
  ⊎_elim (λ is. is) (λ none. absurd (nothing_there path none)) (front_or_behind named [] path there),
  λ publicly. absurd (false≢true publicly),
)

wants : (publicly : Bool) (import : Import) (path : List ℕ) → Contains (wanted_by publicly import) path
    → (import.path ≡ path) × (publicly ≡ true → import.is_public ≡ true)
wants publicly import path there = wants_at publicly import.is_public import.path path there

wanted_at : (publicly is_public : Bool) (named : List ℕ) → (publicly ≡ true → is_public ≡ true)
    → Contains (if publicly && not is_public then [] else named ∷ []) named
wanted_at true true named is = at_front named []
wanted_at true false named is = absurd (false≢true (is refl))
wanted_at false is_public named is = at_front named []

is_wanted : (publicly : Bool) (import : Import) → (publicly ≡ true → import.is_public ≡ true)
    → Contains (wanted_by publicly import) import.path
is_wanted publicly import is = wanted_at publicly import.is_public import.path is

-- what is public if only such imports are wanted
passes : (links_options is_public : Bool) → (not links_options ≡ true → is_public ≡ true)
    → (links_options ≡ true) ⊎ (is_public ≡ true)
passes true is_public is = inl refl
passes false is_public is = inr (is refl)

public_if : (links_options is_public : Bool) → (links_options ≡ true) ⊎ (is_public ≡ true)
    → not links_options ≡ true → is_public ≡ true
public_if true is_public passed strict = absurd (false≢true strict)
public_if false is_public passed strict = ⊎_elim (λ links. absurd (false≢true links)) (λ is. is) passed

-- the file with the messages of options
built_in_is : (links_options : Bool) (sources : List Told) (path : List ℕ) → Contains (built_in_of links_options sources) path
    → (source : Told) × Contains sources source × (links_options ≡ true) × (descriptor_path ≡ path)
built_in_is false sources path there = absurd (nothing_there path there)
built_in_is true [] path there = absurd (nothing_there path there)
built_in_is true (source ∷ others) path there = (
  source,
  at_front source others,
  refl,
  ⊎_elim (λ is. is) (λ none. absurd (nothing_there path none)) (front_or_behind descriptor_path [] path there),
)

has_built_in : (links_options : Bool) (sources : List Told) (source : Told) → links_options ≡ true
    → Contains sources source → Contains (built_in_of links_options sources) descriptor_path
has_built_in false sources source links there = absurd (false≢true links)
has_built_in true [] source links there = absurd (nothing_there source there)
has_built_in true (first ∷ others) source links there = at_front descriptor_path []

module _ (links_options : Bool) where
  -- with more included files as much is reached
  pub reached_more : {sources included : List Told} (more : List Told) {path : List ℕ}
      → IsReached links_options sources included path → IsReached links_options sources (included ++ more) path
  reached_more more (imported source import) = imported source import
  reached_more {included = included} more (passed_on {file = file} reached there import passed) =
      passed_on (reached_more more reached) (Contains-append_left included more file there) import passed
  reached_more more (built_in links source) = built_in links source

  pub reached_by_sources : (sources included : List Told) (path : List ℕ)
      → Contains (wanted_first links_options sources) path → IsReached links_options sources included path
  reached_by_sources sources included path there =
      ⊎_elim
      (λ here. let file = in_flat (λ told. wanted_of false told.imports) sources path here in
      let import = in_flat (wanted_by false) file.0.imports path file.2 in
      subst (IsReached links_options sources included) (wants false import.0 path import.2).0
      (imported file.1 import.1))
      (λ here. let is = built_in_is links_options sources path here in
      subst (IsReached links_options sources included) is.3 (built_in is.2 is.1))
      (Contains-append_cases (wanted_in false sources) (built_in_of links_options sources) path there)

  -- a source imports a path, or an included file does and passes it on, or it is that of the messages of options
  abbrev pub Wanted : (sources included : List Told) → (path : List ℕ) → Type 0
  Wanted sources included path =
      Contains (wanted_first links_options sources) path ⊎ Contains (wanted_in (not links_options) included) path

  -- what is reached is wanted
  pub reached_wanted : {sources included : List Told} {path : List ℕ} → IsReached links_options sources included path
      → Wanted sources included path
  reached_wanted {sources = sources} (imported {source = source} {import = import} there listed) =
      inl (Contains-append_left (wanted_in false sources) (built_in_of links_options sources) import.path
      (flat_has (λ told. wanted_of false told.imports) sources source import.path there
      (flat_has (wanted_by false) source.imports import import.path listed
      (is_wanted false import (λ publicly. absurd (false≢true publicly))))))
  reached_wanted {included = included} (passed_on {file = file} {import = import} reached there listed passed) =
      inr (flat_has (λ told. wanted_of (not links_options) told.imports) included file import.path there
      (flat_has (wanted_by (not links_options)) file.imports import import.path listed
      (is_wanted (not links_options) import (public_if links_options import.is_public passed))))
  reached_wanted {sources = sources} (built_in {source = source} links there) =
      inl (Contains-append_right (wanted_in false sources) (built_in_of links_options sources) descriptor_path
      (has_built_in links_options sources source links there))

  -- what files want that are reached, is reached
  pub reached_through : (sources included files : List Told) → ((told : Told) → Contains files told
      → Contains included told × IsReached links_options sources included (path_of told)) → (path : List ℕ)
      → Contains (wanted_in (not links_options) files) path → IsReached links_options sources included path
  reached_through sources included files are path there =
      let file = in_flat (λ told. wanted_of (not links_options) told.imports) files path there in
      let import = in_flat (wanted_by (not links_options)) file.0.imports path file.2 in
      let told = are file.0 file.1 in
      let wanted = wants (not links_options) import.0 path import.2 in
      subst (IsReached links_options sources included) wanted.0
      (passed_on told.1 told.0 import.1 (passes links_options import.0.is_public wanted.1))

map_has : {B X : Type 0} (f : X → B) (xs : List X) (x : X) → Contains xs x → Contains (map f xs) (f x)
map_has f [] x there = absurd (nothing_there x there)
map_has f (first ∷ xs) x there =
    ⊎_elim (λ is. subst (Contains (f first ∷ map f xs)) (ap f is) (at_front (f first) (map f xs)))
    (λ behind. behind_front (f first) (map f xs) (f x) (map_has f xs x behind)) (front_or_behind first xs x there)

all_of : {X : Type 0} (P : X → Type 0) (xs : List X) → ((x : X) → Contains xs x → P x) → All P xs
all_of P xs each = All-weaker (Contains xs) P each xs (All-contains_itself xs)

-- ---- level by level

module _ (finds : List ℕ → List ℕ → Bool → Type 0) (gives : List ℕ → Option (List ℕ) → Type 0)
    (tells : List ℕ → List Import → Type 0)
    (leaves_out links_options : Bool)
    (roots listed : List (List ℕ))
    (sources : List Told) where
  abbrev pub IsUnread : (included : List Told) → (p : List ℕ) → Type 0
  IsUnread included p = IsReached links_options sources included p × CantBeRead finds gives roots p × (leaves_out ≡ true)

  -- What is known is listed, or was looked for, or is fresh. What is fresh is reached, and was never met.
  pub record Far (known : List (List ℕ)) (included : List Told) (unread fresh : List (List ℕ)) : Type 0 where
    pub some : AreSomeReached finds gives tells links_options roots listed sources included
    pub unread_are : All (IsUnread included) unread
    pub looked : (p : List ℕ) → Contains known p → Contains listed p ⊎ (Contains (map path_of included) p
        ⊎ (Contains unread p ⊎ (HasNone finds roots p ⊎ Contains fresh p)))
    pub listed_known : (p : List ℕ) → Contains listed p → Contains known p
    pub included_known : (p : List ℕ) → Contains (map path_of included) p → Contains known p
    pub fresh_reached : All (IsReached links_options sources included) fresh
    pub fresh_good : All IsGoodPath fresh
    pub fresh_once : AreApart fresh
    pub fresh_unlisted : (p : List ℕ) → Contains fresh p → ¬ (Contains listed p)
    pub fresh_unmet : (p : List ℕ) → Contains fresh p → ¬ (Contains (map path_of included) p)
    pub fresh_known : (p : List ℕ) → Contains fresh p → Contains known p
    pub whole : (p : List ℕ) → Wanted links_options sources included p → IsGoodPath p → Contains known p

  -- at first
  pub first_far : (fresh : List (List ℕ)) → AreFresh listed (wanted_first links_options sources) fresh
      → Far (listed ++ fresh) [] [] fresh
  first_far fresh are = record {
    some = record {
      told = All-nil (IsTold finds gives tells roots);
      reached = All-nil (λ (told : Told). IsReached links_options sources [] (path_of told));
      good = All-nil (λ (told : Told). IsGoodPath (path_of told));
      unlisted = All-nil (λ (told : Told). ¬ (Contains listed (path_of told)));
      apart = no_path;
    };
    unread_are = All-nil (IsUnread []);
    looked = λ p there. ⊎_elim (λ here. inl here) (λ here. inr (inr (inr (inr here))))
        (Contains-append_cases listed fresh p there);
    listed_known = λ p there. Contains-append_left listed fresh p there;
    included_known = λ p there. absurd (nothing_there p there);
    fresh_reached = all_of (IsReached links_options sources []) fresh (λ p there. reached_by_sources links_options sources [] p (fresh_from are p there));
    fresh_good = fresh_good are;
    fresh_once = fresh_apart are;
    fresh_unlisted = fresh_new are;
    fresh_unmet = λ p there other. nothing_there p other;
    fresh_known = λ p there. Contains-append_right listed fresh p there;
    whole = λ p wanted good. ⊎_elim (λ here. fresh_whole are p here good)
        (λ there. absurd (nothing_there p there)) wanted;
  }

  -- nothing is fresh
  pub all_reached : (known : List (List ℕ)) (included : List Told) (unread fresh : List (List ℕ)) → fresh ≡ []
      → Far known included unread fresh
      → AreIncluded finds gives tells leaves_out links_options roots listed sources included unread
  all_reached known included unread fresh none far = record {
    some = far.some;
    unread_are = far.unread_are;
    whole = λ p reached good. ⊎_elim (λ here. inl here)
        (λ other. ⊎_elim (λ here. inr (inl here))
        (λ other. ⊎_elim (λ here. inr (inr (inl here)))
        (λ other. ⊎_elim (λ here. inr (inr (inr here)))
        (λ here. absurd (nothing_there p (subst (λ (l : List (List ℕ)). Contains l p) none here))) other) other) other)
        (far.looked p (far.whole p (reached_wanted links_options reached) good));
  }

-- ---- what looking for the fresh paths gives

module _ (finds : List ℕ → List ℕ → Bool → Type 0) (gives : List ℕ → Option (List ℕ) → Type 0)
    (tells : List ℕ → List Import → Type 0)
    (leaves_out is_wanted : Bool)
    (roots : List (List ℕ))
    (unwanted : is_wanted ≡ false) where
  abbrev pub Gives : (path : List ℕ) → Result Looked LoadFault → Type 0
  Gives path result = GivesLooked finds gives tells leaves_out is_wanted roots path result

  found_told : (paths : List (List ℕ)) (all : List Looked) → AreLooked Gives paths all
      → All (IsTold finds gives tells roots) (flat_map found_of all)
  found_told [] [] looked = All-nil (IsTold finds gives tells roots)
  found_told [] (one ∷ all) looked = absurd looked
  found_told (path ∷ paths) [] looked = absurd looked
  found_told (path ∷ paths) (Found told ∷ all) looked =
      All-cons (IsTold finds gives tells roots) told (flat_map found_of all) looked.0.1
      (found_told paths all looked.1)
  found_told (path ∷ paths) (LeftOut left ∷ all) looked = found_told paths all looked.1
  found_told (path ∷ paths) (Nowhere left ∷ all) looked = found_told paths all looked.1

  paths_found : (paths : List (List ℕ)) (all : List Looked) → AreLooked Gives paths all → (p : List ℕ)
      → Contains (map path_of (flat_map found_of all)) p → Contains paths p
  paths_found [] [] looked p there = absurd (nothing_there p there)
  paths_found [] (one ∷ all) looked p there = absurd looked
  paths_found (path ∷ paths) [] looked p there = absurd looked
  paths_found (path ∷ paths) (Found told ∷ all) looked p there =
      ⊎_elim (λ is. subst (Contains (path ∷ paths)) (sym looked.0.0 ∙ is) (at_front path paths))
      (λ behind. behind_front path paths p (paths_found paths all looked.1 p behind))
      (front_or_behind (path_of told) (map path_of (flat_map found_of all)) p there)
  paths_found (path ∷ paths) (LeftOut left ∷ all) looked p there =
      behind_front path paths p (paths_found paths all looked.1 p there)
  paths_found (path ∷ paths) (Nowhere left ∷ all) looked p there =
      behind_front path paths p (paths_found paths all looked.1 p there)

  found_apart : (paths : List (List ℕ)) (all : List Looked) → AreLooked Gives paths all → AreApart paths
      → AreApart (map path_of (flat_map found_of all))
  found_apart [] [] looked apart = no_path
  found_apart [] (one ∷ all) looked apart = absurd looked
  found_apart (path ∷ paths) [] looked apart = absurd looked
  found_apart (path ∷ paths) (Found told ∷ all) looked (one_more new apart) =
      one_more (λ there. new (subst (Contains paths) looked.0.0 (paths_found paths all looked.1 (path_of told) there)))
      (found_apart paths all looked.1 apart)
  found_apart (path ∷ paths) (LeftOut left ∷ all) looked (one_more new apart) =
      found_apart paths all looked.1 apart
  found_apart (path ∷ paths) (Nowhere left ∷ all) looked (one_more new apart) =
      found_apart paths all looked.1 apart

  cant : (p : List ℕ) → CantBeRead finds gives roots p ⊎ ((is_wanted ≡ true) × HasNone finds roots p)
      → CantBeRead finds gives roots p
  cant p lacking = ⊎_elim (λ is. is) (λ none. absurd (false≢true (sym unwanted ∙ none.0))) lacking

  left_told : (paths : List (List ℕ)) (all : List Looked) → AreLooked Gives paths all → (p : List ℕ)
      → Contains (flat_map left_of all) p
      → Contains paths p × CantBeRead finds gives roots p × (leaves_out ≡ true)
  left_told [] [] looked p there = absurd (nothing_there p there)
  left_told [] (one ∷ all) looked p there = absurd looked
  left_told (path ∷ paths) [] looked p there = absurd looked
  left_told (path ∷ paths) (Found told ∷ all) looked p there =
      let rest = left_told paths all looked.1 p there in (behind_front path paths p rest.0, rest.1, rest.2)
  left_told (path ∷ paths) (LeftOut left ∷ all) looked p there =
      ⊎_elim
      (λ is. (
        subst (Contains (path ∷ paths)) (sym looked.0.1 ∙ is) (at_front path paths),
        subst (CantBeRead finds gives roots) (sym looked.0.1 ∙ is) (cant path looked.0.2),
        looked.0.0,
      ))
      (λ behind. let rest = left_told paths all looked.1 p behind in (behind_front path paths p rest.0, rest.1, rest.2))
      (front_or_behind (string_bytes left) (flat_map left_of all) p there)
  left_told (path ∷ paths) (Nowhere left ∷ all) looked p there =
      let rest = left_told paths all looked.1 p there in (behind_front path paths p rest.0, rest.1, rest.2)

  abbrev IsMet : (all : List Looked) → (p : List ℕ) → Type 0
  IsMet all p = Contains (map path_of (flat_map found_of all)) p
      ⊎ (Contains (flat_map left_of all) p ⊎ HasNone finds roots p)

  met : (paths : List (List ℕ)) (all : List Looked) → AreLooked Gives paths all → (p : List ℕ) → Contains paths p
      → IsMet all p
  met [] [] looked p there = absurd (nothing_there p there)
  met [] (one ∷ all) looked p there = absurd looked
  met (path ∷ paths) [] looked p there = absurd looked
  met (path ∷ paths) (Found told ∷ all) looked p there =
      ⊎_elim
      (λ is. inl (subst (Contains (path_of told ∷ map path_of (flat_map found_of all))) (looked.0.0 ∙ is)
      (at_front (path_of told) (map path_of (flat_map found_of all)))))
      (λ behind. ⊎_elim (λ here. inl (behind_front (path_of told) (map path_of (flat_map found_of all)) p here))
      (λ other. inr other) (met paths all looked.1 p behind))
      (front_or_behind path paths p there)
  met (path ∷ paths) (LeftOut left ∷ all) looked p there =
      ⊎_elim
      (λ is. inr (inl (subst (Contains (string_bytes left ∷ flat_map left_of all)) (looked.0.1 ∙ is)
      (at_front (string_bytes left) (flat_map left_of all)))))
      (λ behind. ⊎_elim (λ here. inl here)
      (λ other. ⊎_elim (λ here. inr (inl (behind_front (string_bytes left) (flat_map left_of all) p here)))
      (λ none. inr (inr none)) other)
      (met paths all looked.1 p behind))
      (front_or_behind path paths p there)
  met (path ∷ paths) (Nowhere left ∷ all) looked p there =
      ⊎_elim (λ is. inr (inr (subst (HasNone finds roots) is looked.0.2)))
      (λ behind. met paths all looked.1 p behind) (front_or_behind path paths p there)

  module _ (links_options : Bool) (listed : List (List ℕ)) (sources : List Told) where
    module _ (known : List (List ℕ)) (included : List Told) (unread fresh : List (List ℕ)) (all : List Looked)
        (next : List (List ℕ))
        (far : Far finds gives tells leaves_out links_options roots listed sources known included unread fresh)
        (looked : AreLooked Gives fresh all)
        (are : AreFresh known (wanted_in (not links_options) (flat_map found_of all)) next) where
      abbrev founds : List Told
      founds = flat_map found_of all

      abbrev more : List Told
      more = included ++ founds

      found_fresh : (told : Told) → Contains founds told → Contains fresh (path_of told)
      found_fresh told there = paths_found fresh all looked (path_of told) (map_has path_of founds told there)

      found_reached : (told : Told) → Contains founds told → IsReached links_options sources more (path_of told)
      found_reached told there =
          reached_more links_options founds (All-contains (IsReached links_options sources included) fresh (path_of told) far.fresh_reached
          (found_fresh told there))

      met_before : (p : List ℕ) → Contains (map path_of more) p
          → Contains (map path_of included) p ⊎ Contains (map path_of founds) p
      met_before p there =
          Contains-append_cases (map path_of included) (map path_of founds) p
          (subst (λ (l : List (List ℕ)). Contains l p) (map-append path_of included founds) there)

      more_known : (p : List ℕ) → Contains (map path_of more) p → Contains known p
      more_known p there =
          ⊎_elim (far.included_known p) (λ here. far.fresh_known p (paths_found fresh all looked p here))
          (met_before p there)

      met_left : (p : List ℕ) → Contains (map path_of included) p → Contains (map path_of more) p
      met_left p there =
          subst (λ (l : List (List ℕ)). Contains l p) (sym (map-append path_of included founds))
          (Contains-append_left (map path_of included) (map path_of founds) p there)

      met_right : (p : List ℕ) → Contains (map path_of founds) p → Contains (map path_of more) p
      met_right p there =
          subst (λ (l : List (List ℕ)). Contains l p) (sym (map-append path_of included founds))
          (Contains-append_right (map path_of included) (map path_of founds) p there)

      -- a level more
      pub next_far : Far finds gives tells leaves_out links_options roots listed sources (known ++ next) more
          (unread ++ flat_map left_of all) next
      next_far = record {
        some = record {
          told = All-append (IsTold finds gives tells roots) included founds far.some.told
              (found_told fresh all looked);
          reached = All-append (λ (told : Told). IsReached links_options sources more (path_of told)) included founds
              (All-weaker (λ (told : Told). IsReached links_options sources included (path_of told))
              (λ (told : Told). IsReached links_options sources more (path_of told)) (λ told reached. reached_more links_options founds reached) included
              far.some.reached)
              (all_of (λ (told : Told). IsReached links_options sources more (path_of told)) founds found_reached);
          good = All-append (λ (told : Told). IsGoodPath (path_of told)) included founds far.some.good
              (all_of (λ (told : Told). IsGoodPath (path_of told)) founds
              (λ told there. All-contains IsGoodPath fresh (path_of told) far.fresh_good (found_fresh told there)));
          unlisted = All-append (λ (told : Told). ¬ (Contains listed (path_of told))) included founds far.some.unlisted
              (all_of (λ (told : Told). ¬ (Contains listed (path_of told))) founds
              (λ told there. far.fresh_unlisted (path_of told) (found_fresh told there)));
          apart = subst AreApart (sym (map-append path_of included founds))
              (apart_append far.some.apart (found_apart fresh all looked far.fresh_once)
              (λ p before here. far.fresh_unmet p (paths_found fresh all looked p here) before));
        };
        unread_are = All-append (IsUnread finds gives tells leaves_out links_options roots listed sources more) unread
            (flat_map left_of all)
            (All-weaker (IsUnread finds gives tells leaves_out links_options roots listed sources included)
            (IsUnread finds gives tells leaves_out links_options roots listed sources more)
            (λ p is. (reached_more links_options founds is.0, is.1, is.2)) unread far.unread_are)
            (all_of (IsUnread finds gives tells leaves_out links_options roots listed sources more) (flat_map left_of all)
            (λ p there. let left = left_told fresh all looked p there in
            (reached_more links_options founds (All-contains (IsReached links_options sources included) fresh p far.fresh_reached left.0), left.1, left.2)));
        looked = λ p there. ⊎_elim
            (λ before. ⊎_elim (λ here. inl here)
            (λ other. ⊎_elim (λ here. inr (inl (met_left p here)))
            (λ other. ⊎_elim (λ here. inr (inr (inl (Contains-append_left unread (flat_map left_of all) p here))))
            (λ other. ⊎_elim (λ none. inr (inr (inr (inl none))))
            (λ here. ⊎_elim (λ found. inr (inl (met_right p found)))
            (λ other. ⊎_elim
            (λ left. inr (inr (inl (Contains-append_right unread (flat_map left_of all) p left))))
            (λ none. inr (inr (inr (inl none)))) other)
            (met fresh all looked p here)) other) other) other)
            (far.looked p before))
            (λ here. inr (inr (inr (inr here))))
            (Contains-append_cases known next p there);
        listed_known = λ p there. Contains-append_left known next p (far.listed_known p there);
        included_known = λ p there. Contains-append_left known next p (more_known p there);
        fresh_reached = all_of (IsReached links_options sources more) next
            (λ p there. reached_through links_options sources more founds
            (λ told here. (Contains-append_right included founds told here, found_reached told here)) p
            (fresh_from are p there));
        fresh_good = fresh_good are;
        fresh_once = fresh_apart are;
        fresh_unlisted = λ p there here. fresh_new are p there (far.listed_known p here);
        fresh_unmet = λ p there here. fresh_new are p there (more_known p here);
        fresh_known = λ p there. Contains-append_right known next p there;
        whole = λ p wanted good. ⊎_elim (λ here. Contains-append_left known next p (far.whole p (inl here) good))
            (λ there. ⊎_elim (λ here. Contains-append_left known next p (far.whole p (inr here) good))
            (λ here. fresh_whole are p here good)
            (Contains-append_cases (wanted_in (not links_options) included) (wanted_in (not links_options) founds) p
            (subst (λ (l : List (List ℕ)). Contains l p)
            (flat_map-append (λ (told : Told). wanted_of (not links_options) told.imports) included founds) there))) wanted;
      }

    -- or why there are none
    pub far_stops : leaves_out ≡ true → (known : List (List ℕ)) (included : List Told) (unread fresh : List (List ℕ))
        (fault : LoadFault) → Far finds gives tells leaves_out links_options roots listed sources known included unread fresh
        → MayStopLooking Gives fresh fault
        → MayNotInclude finds gives tells leaves_out links_options roots listed sources fault
    far_stops lenient known included unread fresh (load.Unreadable name) far stop =
        absurd (false≢true (sym stop.stops.0 ∙ lenient))
    far_stops lenient known included unread fresh load.TooMany far stop = absurd stop.stops
    far_stops lenient known included unread fresh (load.BadPath name) far stop = absurd stop.stops
    far_stops lenient known included unread fresh (load.SamePath name) far stop = absurd stop.stops
    far_stops lenient known included unread fresh load.Memory far stop = tt

-- ---- whatever is listed

module _ (finds : List ℕ → List ℕ → Bool → Type 0) (gives : List ℕ → Option (List ℕ) → Type 0)
    (tells : List ℕ → List Import → Type 0)
    (leaves_out links_options : Bool)
    (roots : List (List ℕ))
    (sources : List Told) where
  -- if at first just the listed paths were known
  abbrev pub FarAt : (start known : List (List ℕ)) (all : Gathered) (fresh : List (List ℕ)) → Type 0
  FarAt start known all fresh =
      (listed : List (List ℕ)) → Same start listed → (between : List (List ℕ)) × Same known between
      × Far finds gives tells leaves_out links_options roots listed sources between all.found all.unread fresh

  abbrev AtAny : (start : List (List ℕ)) → (Holds : (listed : List (List ℕ)) → Type 0) → Type 0
  AtAny start Holds = (listed : List (List ℕ)) → Same start listed → Holds listed

  pub starts_far : (start known fresh : List (List ℕ)) (all : Gathered) → all ≡ record { found = []; unread = [] }
      → AddsFresh (wanted_first links_options sources) start known [] fresh → FarAt start known all fresh
  starts_far start known fresh all none adds listed same =
      let new = adds listed same in (
        listed ++ new.0,
        new.2,
        subst (λ (g : Gathered). Far finds gives tells leaves_out links_options roots listed sources (listed ++ new.0) g.found
            g.unread
            fresh) (sym none)
            (subst (Far finds gives tells leaves_out links_options roots listed sources (listed ++ new.0) [] []) (sym new.3)
            (first_far finds gives tells leaves_out links_options roots listed sources new.0 new.1)),
      )

  pub ends_far : (start known fresh : List (List ℕ)) (all : Gathered) → fresh ≡ [] → FarAt start known all fresh
      → AtAny start (λ listed. AreIncluded finds gives tells leaves_out links_options roots listed sources all.found all.unread)
  ends_far start known fresh all none far listed same =
      let here = far listed same in
      all_reached finds gives tells leaves_out links_options roots listed sources here.0 all.found all.unread fresh none here.2

  pub too_many_far : (start known fresh : List (List ℕ)) (all : Gathered) → FarAt start known all fresh
      → max_files < length sources + length all.found
      → AtAny start (λ listed. MayNotInclude finds gives tells leaves_out links_options roots listed sources load.TooMany)
  too_many_far start known fresh all far many listed same = (all.found, (far listed same).2.some, many)

  module _ (is_wanted : Bool) (unwanted : is_wanted ≡ false) where
    pub level_far : (start known known_new fresh shown next : List (List ℕ)) (all all_new : Gathered)
        (looked : List Looked) → shown ≡ fresh → FarAt start known all fresh
        → AreLooked (GivesLooked finds gives tells leaves_out is_wanted roots) shown looked
        → all_new ≡ with_more all (gathered looked)
        → AddsFresh (wanted_in (not links_options) (gathered looked).found) known known_new [] next
        → FarAt start known_new all_new next
    level_far start known known_new fresh shown next all all_new looked shows far are more adds listed same =
        let here = far listed same in
        let new = adds here.0 here.1 in (
          here.0 ++ new.0,
          new.2,
          subst (λ (g : Gathered). Far finds gives tells leaves_out links_options roots listed sources (here.0 ++ new.0) g.found
              g.unread next) (sym more)
              (subst (Far finds gives tells leaves_out links_options roots listed sources (here.0 ++ new.0)
              (with_more all (gathered looked)).found (with_more all (gathered looked)).unread) (sym new.3)
              (next_far finds gives tells leaves_out is_wanted roots unwanted links_options listed sources here.0 all.found all.unread
              fresh looked new.0 here.2
              (subst (λ (l : List (List ℕ)). AreLooked (GivesLooked finds gives tells leaves_out is_wanted roots) l
              looked) shows are) new.1)),
        )

    pub stops_far : leaves_out ≡ true → (start known fresh : List (List ℕ)) (all : Gathered) (fault : LoadFault)
        → FarAt start known all fresh
        → MayStopLooking (GivesLooked finds gives tells leaves_out is_wanted roots) fresh fault
        → AtAny start (λ listed. MayNotInclude finds gives tells leaves_out links_options roots listed sources fault)
    stops_far lenient start known fresh all fault far stop listed same =
        let here = far listed same in
        far_stops finds gives tells leaves_out is_wanted roots unwanted links_options listed sources lenient here.0 all.found
        all.unread fresh fault here.2 stop

    pub stops_in : leaves_out ≡ true → (start known fresh shown : List (List ℕ)) (all : Gathered) (fault : LoadFault)
        → shown ≡ fresh
        → FarAt start known all fresh
        → MayStopLooking (GivesLooked finds gives tells leaves_out is_wanted roots) shown fault
        → AtAny start (λ listed. MayNotInclude finds gives tells leaves_out links_options roots listed sources fault)
    stops_in lenient start known fresh shown all fault shows far stop =
        stops_far lenient start known fresh all fault far
        (subst (λ (l : List (List ℕ)). MayStopLooking (GivesLooked finds gives tells leaves_out is_wanted roots) l
        fault)
        shows stop)

-- ---- the levels end

pub some_to_look : (xs : List (String Global)) (count : ℕ) (empty : Bool) → count ≡ length xs
    → empty ≡ (count == 0) → empty ≡ false → 1 ≤ length (map string_bytes xs)
some_to_look [] count empty same is none =
    absurd (false≢true (sym none ∙ (is ∙ ap (λ (n : ℕ). n == 0) same)))
some_to_look (x ∷ xs) count empty same is none = omega arith

pub none_to_look : (xs : List (String Global)) (count : ℕ) (empty : Bool) → count ≡ length xs
    → empty ≡ (count == 0) → empty ≡ true → map string_bytes xs ≡ []
none_to_look [] count empty same is none = refl
none_to_look (x ∷ xs) count empty same is none = absurd (omega (arith, eqb-true count 0 (sym is ∙ none), same))

pub at_most : (sources shown included : ℕ) (many : Bool) → (many ≡ true ↔ max_files < sources + shown) → many ≡ false
    → shown ≡ included → included ≤ max_files
at_most sources shown included many tells few is =
    ⊎_elim (λ more. absurd (false≢true (sym few ∙ tells.1 more))) (λ less. omega (arith, less, is))
    (cases_lt max_files (sources + shown))

abbrev pub rank : (found : List Told) (fresh : List (List ℕ)) → ℕ
rank found [] = 2 * (max_files - length found)
rank found (path ∷ fresh) = 2 * (max_files - length found) + 1

none_fresh_of : {known fresh : List (List ℕ)} → AreFresh known [] fresh → fresh ≡ []
none_fresh_of none_fresh = refl

rank_below : (found : List Told) (fresh : List (List ℕ)) → rank found fresh ≤ 2 * (max_files - length found) + 1
rank_below found [] = omega arith
rank_below found (path ∷ fresh) = omega arith

falls : (old founds new : List Told) (fresh next : List (List ℕ)) → 1 ≤ length fresh → new ≡ old ++ founds
    → length new ≤ max_files → (founds ≡ [] → next ≡ []) → rank new next < rank old fresh
falls old founds new [] next some is few none = absurd (omega (arith, some))
falls old [] new (path ∷ fresh) next some is few none =
    subst (λ (l : List (List ℕ)). rank new l < rank old (path ∷ fresh)) (sym (none refl))
    (subst (λ (l : List Told). rank l [] < rank old (path ∷ fresh)) (sym (is ∙ append-nil old)) (omega arith))
falls old (told ∷ founds) new (path ∷ fresh) next some is few none =
    let longer : length new ≡ length old + length (told ∷ founds) =
    ap length is ∙ length-append old (told ∷ founds) in
    omega (arith, rank_below new next, longer, few)

pub level_falls : (publicly : Bool) (old new : Gathered) (looked : List Looked) (known known_new fresh next : List (List ℕ))
    → 1 ≤ length fresh → new ≡ with_more old (gathered looked) → length new.found ≤ max_files
    → AddsFresh (wanted_in publicly (gathered looked).found) known known_new [] next
    → rank new.found next < rank old.found fresh
level_falls publicly old new looked known known_new fresh next some is few adds =
    falls old.found (gathered looked).found new.found fresh next some (ap (λ (g : Gathered). g.found) is) few
    (λ none. let more = adds known (λ p. ((λ there. there), (λ there. there))) in
    more.3 ∙ none_fresh_of (subst (λ (l : List Told). AreFresh known (wanted_in publicly l) more.0) none more.1))
