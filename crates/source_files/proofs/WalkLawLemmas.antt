-- Paths that are listed below a root stay below it.
use Rattle.std.proofs.Common.{◌≡◌, ◌∙◌, ℕ, List, [], ◌∷◌, ◌++◌, Option, refl, sym, ap}
use Rattle.std.specs.List.{All, AllZip}
use Rattle.std.proofs.lemmas.List.{append-nil}
use Rattle.std.proofs.lemmas.List.Elements.{All-nil, All-cons, All-head, All-tail, All-append, All-push}
use Rattle.std.proofs.lemmas.List.Sorted.{All-permutation}
use Rattle.std.proofs.lemmas.Grind.{flat_map-append}
use Rattle.source_files.specs.Entries.{Entry, IsName, IsSource, IsFolder, Give, nothing, a_source, a_folder, neither}
use Rattle.source_files.specs.Listings.{Listing}
use Rattle.source_files.specs.Unread.{Unread}
use Rattle.source_files.specs.declared.listing.FolderIdentity.{FolderIdentity}
use Rattle.source_files.specs.Walks.{Had, Holds, unlisted, listed, Has, Keep, none_left, keeps, passes}
use Rattle.source_files.specs.Walks.{AreFound, nowhere, next_level}
use Rattle.source_files.specs.WalkLaws.{folder_path, StaysBelow, ListedStayBelow}

-- the path of a folder
record IsFolderPath (path : List ℕ) : Type 0 where
  names : List (List ℕ)
  named : All IsName names
  path_is : path ≡ folder_path names

source_below : (folder : List ℕ) (entry : Entry) → IsFolderPath folder → IsSource entry
    → StaysBelow (folder ++ entry.name)
source_below folder entry path is = record {
  folders = path.names;
  name = entry.name;
  front = is.front;
  named_folders = path.named;
  named = is.named;
  ending = is.ending;
  path_is = ap (λ (l : List ℕ). l ++ entry.name) path.path_is;
}

folder_below : (folder : List ℕ) (entry : Entry) → IsFolderPath folder → IsFolder entry
    → IsFolderPath (folder ++ (entry.name ++ 47 ∷ []))
folder_below folder entry path is = record {
  names = path.names ++ entry.name ∷ [];
  named = All-push IsName path.names entry.name path.named is.named;
  path_is =
      ap (λ (l : List ℕ). l ++ (entry.name ++ 47 ∷ [])) path.path_is
      ∙ (ap (λ (l : List ℕ). folder_path path.names ++ l) (sym (append-nil (entry.name ++ 47 ∷ [])))
      ∙ sym (flat_map-append (λ (name : List ℕ). name ++ 47 ∷ []) path.names (entry.name ∷ [])));
}

sources_stay : {folder : List ℕ} {entries : List Entry} {folders sources : List (List ℕ)} → IsFolderPath folder
    → Give folder entries folders sources → All StaysBelow sources
sources_stay path nothing = All-nil StaysBelow
sources_stay path (a_source {entry = entry} {sources = sources} is rest) =
    All-cons StaysBelow _ sources (source_below _ entry path is) (sources_stay path rest)
sources_stay path (a_folder is rest) = sources_stay path rest
sources_stay path (neither source_not folder_not rest) = sources_stay path rest

folders_stay : {folder : List ℕ} {entries : List Entry} {folders sources : List (List ℕ)} → IsFolderPath folder
    → Give folder entries folders sources → All IsFolderPath folders
folders_stay path nothing = All-nil IsFolderPath
folders_stay path (a_source is rest) = folders_stay path rest
folders_stay path (a_folder {entry = entry} {folders = folders} is rest) =
    All-cons IsFolderPath _ folders (folder_below _ entry path is) (folders_stay path rest)
folders_stay path (neither source_not folder_not rest) = folders_stay path rest

-- the folders that one has, and its sources
abbrev Stay : (folders sources : List (List ℕ)) → Type 0
Stay folders sources = All IsFolderPath folders × All StaysBelow sources

holds_stay : {folder : List ℕ} {gave : Option Listing} {had : Had} → IsFolderPath folder → Holds folder gave had
    → Stay had.folders had.sources
holds_stay path unlisted = (All-nil IsFolderPath, All-nil StaysBelow)
holds_stay path (listed give) = (folders_stay path give, sources_stay path give)

module _ (lists : List ℕ → Option Listing → Type 0) where
  -- so it is with what is kept
  kept_stays : {met after : List FolderIdentity} (level : List (List ℕ)) {all : List Had}
      {folders sources : List (List ℕ)} {unread : List Unread} → All IsFolderPath level → AllZip (Has lists) level all
      → Keep met all folders sources unread after → Stay folders sources
  kept_stays level paths have none_left = (All-nil IsFolderPath, All-nil StaysBelow)
  kept_stays [] paths have (keeps new rest) = absurd have
  kept_stays (folder ∷ level) paths have (keeps {had = had} {folders = folders} {sources = sources} new rest) =
      let here = holds_stay (All-head IsFolderPath folder level paths) have.0.holds in
      let others = kept_stays level (All-tail IsFolderPath folder level paths) have.1 rest in (
        All-append IsFolderPath had.folders folders here.0 others.0,
        All-append StaysBelow had.sources sources here.1 others.1,
      )
  kept_stays [] paths have (passes known rest) = absurd have
  kept_stays (folder ∷ level) paths have (passes known rest) =
      kept_stays level (All-tail IsFolderPath folder level paths) have.1 rest

  found_stay : {met : List FolderIdentity} {level found : List (List ℕ)} {unread : List Unread} → All IsFolderPath level
      → AreFound lists met level found unread → All StaysBelow found
  found_stay paths nowhere = All-nil StaysBelow
  found_stay paths (next_level {level = level} {folders = folders} {next = next} {here = here} {sources = sources} have
      keep by_bytes below) =
      let kept = kept_stays level paths have keep in
      All-append StaysBelow here sources kept.1
      (found_stay (All-permutation IsFolderPath folders next by_bytes.complete kept.0) below)

root_path : IsFolderPath []
root_path = record { names = []; named = All-nil IsName; path_is = refl }

pub listed_stay : (lists : List ℕ → List ℕ → Option Listing → Type 0) → ListedStayBelow lists
listed_stay lists =
    λ root paths unread walked.
    All-permutation StaysBelow walked.found paths walked.by_bytes.complete
    (found_stay (lists root) (All-cons IsFolderPath [] [] root_path (All-nil IsFolderPath)) walked.below_root)
