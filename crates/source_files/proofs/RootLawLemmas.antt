-- Where nothing was left out below a root, its files are the same whether something is to be left out or not.
use Rattle.std.proofs.Common.{◌≡◌, ◌∙◌, ℕ, List, [], ◌∷◌, Option, sym, subst, arith}
use Rattle.std.specs.List.{All}
use Rattle.std.proofs.lemmas.List.Elements.{All-head, All-tail}
use Rattle.basics.proofs.ListLemmas.{append_none as parts_none}
use Rattle.source_tree.specs.Files.{SourceFile, paths_of}
use Rattle.source_files.specs.Listings.{Listing}
use Rattle.source_files.specs.Roots.{AreBelow, AreBelowBut, AreRead, FilesBelow, IsHeld, is_read, no_path}
use Rattle.source_files.specs.RootLaws.{WholeRoots}
use Rattle.source_files.specs.Walks.{AreListed, AreWalked}
use Rattle.source_files.proofs.ReadingLemmas.{strict_read}

module _ (lists : List ℕ → List ℕ → Option Listing → Type 0) (gives : List ℕ → Option (List ℕ) → Type 0)
    (root : List ℕ) where
  read_all : (files : List SourceFile) → All (IsHeld lists gives root) files
      → AreRead lists gives root (paths_of files) files []
  read_all [] held = no_path
  read_all (file ∷ files) held =
      is_read (All-head (IsHeld lists gives root) file files held)
      (read_all files (All-tail (IsHeld lists gives root) file files held))

  but_nothing : (below : FilesBelow) → below.unread ≡ [] → AreBelow lists gives root below.files
      → AreBelowBut lists gives root below
  but_nothing below none is = record {
    paths = paths_of below.files;
    unlisted = [];
    unheld = [];
    walked = is.listed;
    root_listed = λ there. absurd (omega (arith, there.1));
    read = read_all below.files is.held;
    unread_are = none;
  }

  all_of : (below : FilesBelow) → below.unread ≡ [] → AreBelowBut lists gives root below
      → AreBelow lists gives root below.files
  all_of below none but =
      let parts = parts_none but.unlisted but.unheld (sym but.unread_are ∙ none) in
      let at = strict_read lists gives but.read parts.1 in
      record {
        listed = subst (AreListed (lists root)) (sym at.0)
            (subst (AreWalked (lists root) but.paths) parts.0 but.walked);
        held = at.1;
      }

pub whole_roots : (lists : List ℕ → List ℕ → Option Listing → Type 0) (gives : List ℕ → Option (List ℕ) → Type 0)
    → WholeRoots lists gives
whole_roots lists gives =
    λ root below none. (
      λ is. but_nothing lists gives root below none is.0,
      λ but. (all_of lists gives root below none but, none),
    )
