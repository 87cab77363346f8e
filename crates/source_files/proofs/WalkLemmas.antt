-- A walk through the folders below a root, level by level, finds what is listed there.
use Rattle.std.proofs.Common.{◌≡◌, ◌∙◌, ℕ, ◌+◌, ◌<◌, List, [], ◌∷◌, ◌++◌, map, length, get_or, Option}
use Rattle.std.proofs.Common.{true, false, ◌==◌, refl, sym, ap, subst, append_assoc, arith, string_bytes}
use Rattle.std.specs.Cmp.Lexicographic.{slice_cmp}
use Rattle.std.specs.List.Sorted.{IsSorted}
use Rattle.std.specs.Ordering.{is_lt, nat_cmp}
use Rattle.std.proofs.lemmas.Bool.{eqb-true}
use Rattle.std.proofs.lemmas.List.{append-nil, get_or-map, length-map, map-append, nil_from_length}
use Rattle.source_files.specs.declared.found.Found.{Found}
use Rattle.source_files.specs.declared.listing.FolderIdentity.{FolderIdentity}
use Rattle.source_files.specs.declared.walk.Walk.{Walk}
use Rattle.source_files.specs.Listings.{Listing}
use Rattle.source_files.specs.Unread.{Unread, unread_of}
use Rattle.source_files.specs.Walks.{Had, Keep, none_left, keeps, passes, IsMet, met_with, AreByBytes, AreFound}
use Rattle.source_files.specs.Walks.{nowhere, next_level, AreWalked}
use Rattle.source_files.specs.WalkSteps.{GoesOn, KeepsMore, Meets, is_met, is_new, had_of}

-- nothing is there
pub none_there : {A : Type 0} (xs : List A) (count : ℕ) → length xs ≡ count → (count == 0) ≡ true → xs ≡ []
none_there xs count is none = nil_from_length xs (is ∙ eqb-true count 0 none)

-- texts by their bytes
pub sorted_texts : {S : Type 0} (text : S → List ℕ) (xs : List S)
    → IsSorted (λ (a b : S). slice_cmp nat_cmp (text a) (text b)) xs → IsSorted (slice_cmp nat_cmp) (map text xs)
sorted_texts text [] up = λ k d low high. absurd (omega (arith, high))
sorted_texts text (x ∷ xs) up =
    λ k d low high.
    let all = x ∷ xs in
    let inside : k + 1 < length all = omega (arith, high, length-map all text) in
    let later : get_or (map text all) (k + 1) d ≡ text (get_or all (k + 1) x) =
    get_or-map text all (k + 1) x d inside in
    let earlier : get_or (map text all) k d ≡ text (get_or all k x) =
    get_or-map text all k x d (omega (arith, inside)) in
    subst (λ (t : List ℕ). is_lt (slice_cmp nat_cmp t (get_or (map text all) k d)) ≡ false) (sym later)
    (subst (λ (t : List ℕ). is_lt (slice_cmp nat_cmp (text (get_or all (k + 1) x)) t) ≡ false) (sym earlier)
    (up k x low inside))

-- ---- what is kept of folders

-- what is kept of folders, and then of others
keep_append : {met between after : List FolderIdentity} {all more : List Had}
    {folders sources inner here : List (List ℕ)} {unread gone : List Unread} → Keep met all folders sources unread between
    → Keep between more inner here gone after
    → Keep met (all ++ more) (folders ++ inner) (sources ++ here) (unread ++ gone) after
keep_append none_left rest = rest
keep_append {after = after} {more = more} {inner = inner} {here = here} {gone = gone} (keeps {met = met} {had = had}
    {others = others} {folders = folders} {sources = sources} {unread = unread} new front) rest =
    let whole = keeps new (keep_append front rest) in
    subst (λ (l : List (List ℕ)). Keep met (had ∷ (others ++ more)) l ((had.sources ++ sources) ++ here)
    ((had.unread ++ unread) ++ gone) after) (sym (append_assoc had.folders folders inner))
    (subst (λ (l : List (List ℕ)). Keep met (had ∷ (others ++ more)) (had.folders ++ (folders ++ inner)) l
    ((had.unread ++ unread) ++ gone) after) (sym (append_assoc had.sources sources here))
    (subst (λ (l : List Unread). Keep met (had ∷ (others ++ more)) (had.folders ++ (folders ++ inner))
    (had.sources ++ (sources ++ here)) l after) (sym (append_assoc had.unread unread gone)) whole))
keep_append (passes known front) rest = passes known (keep_append front rest)

-- nothing is added yet
pub none_kept : (walk : Walk) → KeepsMore [] walk walk
none_kept walk = record {
  folders = [];
  sources = [];
  unread = [];
  keep = none_left;
  folders_are = sym (append-nil (map string_bytes walk.folders.items));
  sources_are = sym (append-nil (map string_bytes walk.paths.items));
  unread_are = sym (append-nil (map unread_of walk.unread.items));
}

-- three parts of a list
parts_of : {X : Type 0} (front middle behind between whole : List X) → between ≡ front ++ middle
    → whole ≡ between ++ behind → whole ≡ front ++ (middle ++ behind)
parts_of front middle behind between whole first second =
    second ∙ (ap (λ l. l ++ behind) first ∙ append_assoc front middle behind)

-- of more folders more is kept
pub more_kept : (all more : List Had) (old between new : Walk) → KeepsMore all old between
    → KeepsMore more between new → KeepsMore (all ++ more) old new
more_kept all more old between new first second = record {
  folders = first.folders ++ second.folders;
  sources = first.sources ++ second.sources;
  unread = first.unread ++ second.unread;
  keep = keep_append first.keep second.keep;
  folders_are = parts_of _ first.folders second.folders _ _ first.folders_are second.folders_are;
  sources_are = parts_of _ first.sources second.sources _ _ first.sources_are second.sources_are;
  unread_are = parts_of _ first.unread second.unread _ _ first.unread_are second.unread_are;
}

-- what is said of a folder that was met, and of one that is new
met_again : {met after : List FolderIdentity} {identity : Option FolderIdentity} → Meets met identity false after
    → IsMet met identity × (after ≡ met)
met_again (is_met known) = (known, refl)

met_newly : {met after : List FolderIdentity} {identity : Option FolderIdentity} → Meets met identity true after
    → ¬ (IsMet met identity) × (after ≡ met_with met identity)
met_newly (is_new unknown) = (unknown, refl)

-- what a folder has that was met isn't kept
pub met_adds : (found : Found) (old new : Walk) → Meets old.met.items found.identity false new.met.items
    → new.folders.items ≡ old.folders.items → new.paths.items ≡ old.paths.items
    → new.unread.items ≡ old.unread.items
    → KeepsMore (had_of found ∷ []) old new
met_adds found old new meets folders paths unread =
    let met = met_again meets in
    record {
      folders = [];
      sources = [];
      unread = [];
      keep = subst (Keep old.met.items (had_of found ∷ []) [] [] []) (sym met.1) (passes met.0 none_left);
      folders_are = ap (map string_bytes) folders
          ∙ sym (append-nil (map string_bytes old.folders.items));
      sources_are = ap (map string_bytes) paths
          ∙ sym (append-nil (map string_bytes old.paths.items));
      unread_are = ap (map unread_of) unread
          ∙ sym (append-nil (map unread_of old.unread.items));
    }

-- texts and more texts
more_texts : {S T : Type 0} (text : S → T) (old here new : List S) → new ≡ old ++ here
    → map text new ≡ map text old ++ (map text here ++ [])
more_texts text old here new are =
    ap (map text) are ∙ (map-append text old here ∙ ap (λ l. map text old ++ l) (sym (append-nil (map text here))))

-- and what a new one has is
pub new_adds : (found : Found) (old new : Walk) → Meets old.met.items found.identity true new.met.items
    → new.folders.items ≡ old.folders.items ++ found.folders.items
    → new.paths.items ≡ old.paths.items ++ found.paths.items
    → new.unread.items ≡ old.unread.items ++ found.unread.items → KeepsMore (had_of found ∷ []) old new
new_adds found old new meets folders paths unread =
    let met = met_newly meets in
    let had = had_of found in
    record {
      folders = had.folders ++ [];
      sources = had.sources ++ [];
      unread = had.unread ++ [];
      keep = subst (Keep old.met.items (had ∷ []) (had.folders ++ []) (had.sources ++ []) (had.unread ++ []))
          (sym met.1) (keeps met.0 none_left);
      folders_are = more_texts string_bytes old.folders.items found.folders.items new.folders.items folders;
      sources_are = more_texts string_bytes old.paths.items found.paths.items new.paths.items paths;
      unread_are = more_texts unread_of old.unread.items found.unread.items new.unread.items unread;
    }

-- ---- the levels

module _ (lists : List ℕ → Option Listing → Type 0) where
  -- what is found from this level on completes what is found below the root
  abbrev pub IsWalk : Walk → Type 0
  IsWalk walk =
      (sources : List (List ℕ)) (unread : List Unread)
      → AreFound lists walk.met.items (map string_bytes walk.folders.items) sources unread
      → AreFound lists [] ([] ∷ []) (map string_bytes walk.paths.items ++ sources)
      (map unread_of walk.unread.items ++ unread)

  -- the root alone is left
  pub begins : (walk : Walk) → map string_bytes walk.folders.items ≡ [] ∷ [] → walk.met.items ≡ []
      → map string_bytes walk.paths.items ≡ [] → map unread_of walk.unread.items ≡ [] → IsWalk walk
  begins walk folders met paths unread =
      λ sources gone is.
      subst (λ l. AreFound lists [] ([] ∷ []) (l ++ sources) (map unread_of walk.unread.items ++ gone)) (sym paths)
      (subst (λ l. AreFound lists [] ([] ∷ []) sources (l ++ gone)) (sym unread)
      (subst (λ l. AreFound lists [] l sources gone) folders
      (subst (λ l. AreFound lists l (map string_bytes walk.folders.items) sources gone) met is)))

  pub goes_on : (old new : Walk) → IsWalk old → GoesOn lists old new → IsWalk new
  goes_on old new walk step =
      λ sources unread is.
      let all = walk (step.sources ++ sources) (step.unread ++ unread)
      (next_level step.have step.keep step.by_bytes is) in
      let found = sym (append_assoc (map string_bytes old.paths.items) step.sources sources)
      ∙ ap (λ l. l ++ sources) (sym step.sources_are) in
      let gone = sym (append_assoc (map unread_of old.unread.items) step.unread unread)
      ∙ ap (λ l. l ++ unread) (sym step.unread_are) in
      subst (λ l. AreFound lists [] ([] ∷ []) l (map unread_of new.unread.items ++ unread)) found
      (subst (λ l. AreFound lists [] ([] ∷ []) (map string_bytes old.paths.items ++ (step.sources ++ sources)) l) gone
      all)

  -- no folder is left
  pub ends : (walk : Walk) (paths : List (List ℕ)) → IsWalk walk → walk.folders.items ≡ []
      → AreByBytes (map string_bytes walk.paths.items) paths
      → AreWalked lists paths (map unread_of walk.unread.items)
  ends walk paths is none by = record {
    found = map string_bytes walk.paths.items;
    below_root =
        let found = map string_bytes walk.paths.items in
        let unread = map unread_of walk.unread.items in
        let left = subst (λ l. AreFound lists walk.met.items (map string_bytes l) [] []) (sym none) nowhere in
        subst (λ l. AreFound lists [] ([] ∷ []) l unread) (append-nil found)
        (subst (λ l. AreFound lists [] ([] ∷ []) (found ++ []) l) (append-nil unread) (is [] [] left));
    by_bytes = by;
  }
