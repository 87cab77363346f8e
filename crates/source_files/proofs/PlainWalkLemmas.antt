-- If no folder says which it is, what is found level by level is found folder by folder.
use Rattle.std.proofs.Common.{◌≡◌, ◌≢◌, ◌∙◌, ◌⊎◌, inl, inr, ℕ, List, [], ◌∷◌, ◌++◌, map, Option, Some, None}
use Rattle.std.proofs.Common.{refl, sym, ap, subst, append_assoc}
use Rattle.std.specs.List.{All, AllZip, Contains, flat_map}
use Rattle.std.specs.List.Sorted.{IsPermutation}
use Rattle.std.proofs.lemmas.List.Elements.{All-nil, All-cons, All-head, All-tail, All-append, All-contains_itself}
use Rattle.std.proofs.lemmas.List.Elements.{All-weaker}
use Rattle.std.proofs.lemmas.List.Sorted.{All-permutation, IsPermutation-append_comm, IsPermutation-append_left}
use Rattle.std.proofs.lemmas.List.Sorted.{IsPermutation-append_right, IsPermutation-refl, IsPermutation-sym}
use Rattle.std.proofs.lemmas.List.Sorted.{IsPermutation-trans}
use Rattle.basics.proofs.ListLemmas.{append_none}
use Rattle.source_files.specs.declared.listing.FolderIdentity.{FolderIdentity}
use Rattle.source_files.specs.Listings.{Listing}
use Rattle.source_files.specs.Unread.{Unread, in_folder}
use Rattle.source_files.specs.PlainWalks.{HasOnly, AreFoundBelow, below_none, below_next}
use Rattle.source_files.specs.PlainWalks.{CantBeListed, itself, unnamed, within}
use Rattle.source_files.specs.Walks.{Had, IsMet, Keep, none_left, keeps, passes, Holds, unlisted, listed, Has}
use Rattle.source_files.specs.Walks.{AreFound, nowhere, next_level}
use Rattle.source_files.specs.WalkLaws.{PlainListing}
use Rattle.basics.proofs.PartedLemmas.{flat_permutation, lift_permutation}

-- ---- lists

no_map : {A B : Type 0} (f : A → B) (xs : List A) → map f xs ≡ [] → xs ≡ []
no_map f [] none = refl
no_map f (x ∷ xs) none = absurd cc

none_or_some : {A : Type 0} (xs : List A) → (xs ≡ []) ⊎ (xs ≢ [])
none_or_some [] = inl refl
none_or_some (x ∷ xs) = inr (λ none. absurd cc)

-- a list that is found in a place, and its front is taken later
moved : {X : Type 0} (first front all more behind below : List X) → below ≡ front ++ behind
    → IsPermutation all (more ++ behind)
    → IsPermutation (first ++ (front ++ all)) ((first ++ more) ++ below)
moved first front all more behind below parts same =
    let inner = IsPermutation-append_right front all (more ++ behind) same in
    let turned = IsPermutation-append_left behind (front ++ more) (more ++ front)
    (IsPermutation-append_comm front more) in
    let named = subst (λ l. IsPermutation l ((more ++ front) ++ behind)) (append_assoc front more behind) turned in
    let last : (more ++ front) ++ behind ≡ more ++ below =
    append_assoc more front behind ∙ ap (λ l. more ++ l) (sym parts) in
    let joined = IsPermutation-trans (front ++ all) (front ++ (more ++ behind)) (more ++ below) inner
    (subst (λ l. IsPermutation (front ++ (more ++ behind)) l) last named) in
    subst (λ l. IsPermutation (first ++ (front ++ all)) l) (sym (append_assoc first more below))
    (IsPermutation-append_right first (front ++ all) (more ++ below) joined)

module _ (lists : List ℕ → Option Listing → Type 0) where
  -- ---- what is found folder by folder

  -- what is found below folders, and behind that what is found below others
  found_append : {folders others found behind : List (List ℕ)} → AreFoundBelow lists folders found
      → AreFoundBelow lists others behind → AreFoundBelow lists (folders ++ others) (found ++ behind)
  found_append below_none rest = rest
  found_append {others = others} {behind = behind} (below_next {folder = folder} {others = front} {inner = inner}
      {sources = sources} {below = below} {found = found} has deep next) rest =
      subst (AreFoundBelow lists (folder ∷ (front ++ others)))
      (sym (append_assoc sources (below ++ found) behind ∙ ap (λ l. sources ++ l) (append_assoc below found behind)))
      (below_next has deep (found_append next rest))

  -- what is found below the first of folders, and what below the others
  record Next (folder : List ℕ) (others found : List (List ℕ)) : Type 0 where
    inner : List (List ℕ)
    sources : List (List ℕ)
    below : List (List ℕ)
    rest : List (List ℕ)
    has : HasOnly lists folder inner sources
    deep : AreFoundBelow lists inner below
    next : AreFoundBelow lists others rest
    found_are : found ≡ sources ++ (below ++ rest)

  next_of : {folder : List ℕ} {others found : List (List ℕ)} → AreFoundBelow lists (folder ∷ others) found
      → Next folder others found
  next_of (below_next {inner = inner} {sources = sources} {below = below} {found = rest} has deep next) = record {
    inner = inner;
    sources = sources;
    below = below;
    rest = rest;
    has = has;
    deep = deep;
    next = next;
    found_are = refl;
  }

  record Parts (folders others found : List (List ℕ)) : Type 0 where
    front : List (List ℕ)
    behind : List (List ℕ)
    found_are : found ≡ front ++ behind
    first : AreFoundBelow lists folders front
    second : AreFoundBelow lists others behind

  parts_of : (folders others found : List (List ℕ)) → AreFoundBelow lists (folders ++ others) found
      → Parts folders others found
  parts_of [] others found all =
      record { front = []; behind = found; found_are = refl; first = below_none; second = all }
  parts_of (folder ∷ folders) others found all =
      let one = next_of all in
      let parts = parts_of folders others one.rest one.next in
      record {
        front = one.sources ++ (one.below ++ parts.front);
        behind = parts.behind;
        found_are =
            one.found_are
            ∙ (ap (λ (l : List (List ℕ)). one.sources ++ (one.below ++ l)) parts.found_are
            ∙ sym (append_assoc one.sources (one.below ++ parts.front) parts.behind
            ∙ ap (λ l. one.sources ++ l) (append_assoc one.below parts.front parts.behind)));
        first = below_next one.has one.deep parts.first;
        second = parts.second;
      }

  -- a folder, and what is found below it
  record Tree : Type 0 where
    folder : List ℕ
    found : List (List ℕ)
    is : AreFoundBelow lists (folder ∷ []) found

  abbrev folder_of : Tree → List ℕ
  folder_of tree = tree.folder

  abbrev found_in : Tree → List (List ℕ)
  found_in tree = tree.found

  record Trees (folders found : List (List ℕ)) : Type 0 where
    trees : List Tree
    folders_are : map folder_of trees ≡ folders
    found_are : flat_map found_in trees ≡ found

  trees_of : {folders found : List (List ℕ)} → AreFoundBelow lists folders found → Trees folders found
  trees_of below_none = record { trees = []; folders_are = refl; found_are = refl }
  trees_of (below_next {folder = folder} {sources = sources} {below = below} {found = found} has deep next) =
      let rest = trees_of next in
      let others = flat_map found_in rest.trees in
      let first : Tree =
      record { folder = folder; found = sources ++ (below ++ []); is = below_next has deep below_none } in
      record {
        trees = first ∷ rest.trees;
        folders_are = ap (λ (l : List (List ℕ)). folder ∷ l) rest.folders_are;
        found_are =
            append_assoc sources (below ++ []) others
            ∙ (ap (λ (l : List (List ℕ)). sources ++ l) (append_assoc below [] others)
            ∙ ap (λ (l : List (List ℕ)). sources ++ (below ++ l)) rest.found_are);
      }

  found_of : (trees : List Tree) → AreFoundBelow lists (map folder_of trees) (flat_map found_in trees)
  found_of [] = below_none
  found_of (tree ∷ trees) = found_append tree.is (found_of trees)

  -- found below these folders, but for the order
  record Found (folders found : List (List ℕ)) : Type 0 where
    all : List (List ℕ)
    is : AreFoundBelow lists folders all
    same : IsPermutation all found

  -- the same folders in another order
  reordered : (folders next found : List (List ℕ)) → IsPermutation folders next → AreFoundBelow lists next found
      → Found folders found
  reordered folders next found turned all =
      let old = trees_of all in
      let back : IsPermutation (map folder_of old.trees) folders =
      subst (λ (l : List (List ℕ)). IsPermutation l folders) (sym old.folders_are)
      (IsPermutation-sym folders next turned) in
      let new = lift_permutation folder_of old.trees folders back in
      let whole = flat_map found_in new.0 in
      record {
        all = whole;
        is = subst (λ (l : List (List ℕ)). AreFoundBelow lists l whole) new.1 (found_of new.0);
        same = IsPermutation-sym found whole
            (subst (λ (l : List (List ℕ)). IsPermutation l whole) old.found_are
            (flat_permutation found_in old.trees new.0 new.2));
      }

  -- ---- what is kept of a level

  -- what a folder has of which all can be read
  only_of : {folder : List ℕ} {gave : Option Listing} {had : Had} → had.unread ≡ [] → lists folder gave
      → Holds folder gave had → HasOnly lists folder had.folders had.sources
  only_of none is unlisted = absurd cc
  only_of {folder = folder} none is (listed {listing = listing} give) = record {
    listing = listing;
    listed = is;
    named = no_map (in_folder folder) listing.unnamed none;
    give = give;
  }

  -- and one of which something can't
  stop_of : {folder : List ℕ} {gave : Option Listing} {had : Had} → had.unread ≢ [] → lists folder gave
      → Holds folder gave had → CantBeListed lists folder
  stop_of some is unlisted = itself is
  stop_of {folder = folder} some is (listed {listing = listing} give) =
      unnamed is (λ none. some (ap (map (in_folder folder)) none))

  module _ (unknown : (folder : List ℕ) (listing : Listing) → lists folder (Some listing) → listing.identity ≡ None)
    where
      nobody : {folder : List ℕ} {gave : Option Listing} {had : Had} → lists folder gave → Holds folder gave had
          → had.identity ≡ None
      nobody is unlisted = refl
      nobody {folder = folder} is (listed {listing = listing} give) = unknown folder listing is

      -- so it wasn't met
      never_met : (met : List FolderIdentity) {folder : List ℕ} {had : Had} → Has lists folder had
          → IsMet met had.identity → ⊥
      never_met met has known = subst (IsMet met) (nobody has.listed has.holds) known

      deeper : {met after : List FolderIdentity} (level : List (List ℕ)) {all : List Had}
          {folders sources : List (List ℕ)} {unread : List Unread} (below : List (List ℕ)) → unread ≡ []
          → AllZip (Has lists) level all → Keep met all folders sources unread after
          → AreFoundBelow lists folders below → Found level (sources ++ below)
      deeper [] below none have none_left is = record { all = below; is = is; same = IsPermutation-refl below }
      deeper (folder ∷ level) below none have none_left is = absurd have
      deeper [] below none have (keeps new rest) is = absurd have
      deeper (folder ∷ level) below none have (keeps {had = had} {folders = folders} {sources = sources}
          {unread = unread} new rest) is =
          let nothing = append_none had.unread unread none in
          let parts = parts_of had.folders folders below is in
          let further = deeper level parts.behind nothing.1 have.1 rest parts.second in
          record {
            all = had.sources ++ (parts.front ++ further.all);
            is = below_next (only_of nothing.0 have.0.listed have.0.holds) parts.first further.is;
            same = moved had.sources parts.front further.all sources parts.behind below parts.found_are further.same;
          }
      deeper [] below none have (passes known rest) is = absurd have
      deeper (folder ∷ level) below none have (passes {met = met} known rest) is = absurd (never_met met have.0 known)

      plainly : {met : List FolderIdentity} {level sources : List (List ℕ)} {unread : List Unread} → unread ≡ []
          → AreFound lists met level sources unread → Found level sources
      plainly none nowhere = record { all = []; is = below_none; same = IsPermutation-refl [] }
      plainly none (next_level {level = level} {folders = folders} {next = next} {here = here} {sources = sources}
          {gone = gone} {unread = unread} have keep by below) =
          let nothing = append_none gone unread none in
          let further = plainly nothing.1 below in
          let back = reordered folders next further.all by.complete further.is in
          let whole = deeper level back.all nothing.0 have keep back.is in
          record {
            all = whole.all;
            is = whole.is;
            same = IsPermutation-trans whole.all (here ++ back.all) (here ++ sources) whole.same
                (IsPermutation-append_right here back.all sources
                (IsPermutation-trans back.all further.all sources back.same further.same));
          }

      -- ---- what can't be listed

      module _ (Stops : Type 0) where
        abbrev Counts : List ℕ → Type 0
        Counts folder = CantBeListed lists folder → Stops

        deeper_counts : {met after : List FolderIdentity} (level : List (List ℕ)) {all : List Had}
            {folders sources : List (List ℕ)} {unread : List Unread} → unread ≡ [] → AllZip (Has lists) level all
            → Keep met all folders sources unread after → All Counts level → All Counts folders
        deeper_counts level none have none_left counts = All-nil Counts
        deeper_counts [] none have (keeps new rest) counts = absurd have
        deeper_counts (folder ∷ level) none have (keeps {had = had} {folders = folders} {unread = unread} new rest)
            counts =
            let nothing = append_none had.unread unread none in
            let only = only_of nothing.0 have.0.listed have.0.holds in
            All-append Counts had.folders folders
            (All-weaker (Contains had.folders) Counts
            (λ one among stops. All-head Counts folder level counts (within only among stops)) had.folders
            (All-contains_itself had.folders))
            (deeper_counts level nothing.1 have.1 rest (All-tail Counts folder level counts))
        deeper_counts [] none have (passes known rest) counts = absurd have
        deeper_counts (folder ∷ level) none have (passes {met = met} known rest) counts =
            absurd (never_met met have.0 known)

        -- something of this level can't be read
        stops_here : {met after : List FolderIdentity} (level : List (List ℕ)) {all : List Had}
            {folders sources : List (List ℕ)} {unread : List Unread} → unread ≢ [] → AllZip (Has lists) level all
            → Keep met all folders sources unread after → All Counts level → Stops
        stops_here level some have none_left counts = absurd (some refl)
        stops_here [] some have (keeps new rest) counts = absurd have
        stops_here (folder ∷ level) some have (keeps {had = had} {unread = unread} new rest) counts =
            elim (none_or_some had.unread) [
              | inl none ↦ stops_here level
                  (λ (others : unread ≡ []). some (ap (λ (l : List Unread). l ++ unread) none ∙ others)) have.1 rest
                  (All-tail Counts folder level counts)
              | inr one ↦ All-head Counts folder level counts (stop_of one have.0.listed have.0.holds)
            ]
        stops_here [] some have (passes known rest) counts = absurd have
        stops_here (folder ∷ level) some have (passes {met = met} known rest) counts =
            absurd (never_met met have.0 known)

        stops : {met : List FolderIdentity} {level sources : List (List ℕ)} {unread : List Unread} → unread ≢ []
            → AreFound lists met level sources unread → All Counts level → Stops
        stops some nowhere counts = absurd (some refl)
        stops some (next_level {level = level} {folders = folders} {next = next} {gone = gone} {unread = unread} have
            keep by below) counts =
            elim (none_or_some gone) [
              | inl none ↦ stops
                  (λ (others : unread ≡ []). some (ap (λ (l : List Unread). l ++ unread) none ∙ others)) below
                  (All-permutation Counts folders next by.complete (deeper_counts level none have keep counts))
              | inr one ↦ stops_here level one have keep counts
            ]

pub plain_listing : (lists : List ℕ → List ℕ → Option Listing → Type 0) → PlainListing lists
plain_listing lists = record {
  listed = λ unknown root paths listing.
      let all = plainly (lists root) (unknown root) refl listing.below_root in
      record {
        found = all.all;
        below_root = all.is;
        by_bytes = record {
          complete = IsPermutation-trans all.all listing.found paths all.same listing.by_bytes.complete;
          ascends = listing.by_bytes.ascends;
        };
      };
  unlisted = λ unknown root unlisting.
      let Stops = CantBeListed (lists root) [] in
      let Counts : List ℕ → Type 0 = λ folder. CantBeListed (lists root) folder → Stops in
      stops (lists root) (unknown root) Stops unlisting.some unlisting.walked.below_root
      (All-cons Counts [] [] (λ stopped. stopped) (All-nil Counts));
}
