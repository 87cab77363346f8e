-- The headline, of the tree of the files that options name.
use Rattle.std.specs.Prelude.{ℕ, Bool, List, Option, None, Some}
use Rattle.protoscip.specs.NameLaws.{LawsOfNames}
use Rattle.protoscip.proofs.HeadlineLemmas.{headline}
use Rattle.protoscip.proofs.HeadlineTreeLemmas.{tree_of_files}
use Rattle.scip_build.proofs.AsReadLemmas.{tree_as_read}
use Rattle.command_line.specs.declared.options.IndexOptions.{IndexOptions}
use Rattle.command_line.specs.declared.options.sources.SourceList.{SourceList}
use Rattle.programs.specs.Folders.{IsLoadedFrom}
use Rattle.programs.specs.OptionLaws.{HeadlineOfFiles}
use Rattle.programs.specs.Settings.{allowed_by, settings_in}
use Rattle.source_files.specs.Listings.{Listing}
use Rattle.source_files.specs.ListedTrees.{files_with}
use Rattle.source_files.specs.Unread.{Unread}
use Rattle.source_tree.specs.Files.{TreeFile}
use Rattle.source_tree.specs.Trees.{IsTree}

module _ (lists : List ℕ → List ℕ → Option Listing → Type 0) (gives : List ℕ → Option (List ℕ) → Type 0)
    (finds : List ℕ → List ℕ → Bool → Type 0)
    (options : IndexOptions) where
  tree_loaded : (list : Option SourceList) (files : List TreeFile) (own : List (List ℕ))
      (others : List (List (List ℕ))) (unread : List Unread)
      → IsLoadedFrom lists gives finds options list files own others unread → IsTree files
  tree_loaded None files own others unread of =
      tree_of_files of.holds.0.sources of.holds.0.included files of.holds.0.holds.0
  tree_loaded (Some list) files own others unread of =
      let seen = of.2.holds in
      tree_of_files (files_with of.2.sources of.2.lost) (files_with seen.included seen.left) files seen.holds.tree_is

  pub headline_of_files : LawsOfNames → HeadlineOfFiles lists gives finds options
  headline_of_files laws tree unread ids folders =
      headline (allowed_by options) laws (settings_in options ids) tree
      (tree_as_read options.dialect folders.files tree folders.read
      (tree_loaded options.sources folders.files folders.own folders.others folders.entries folders.below)) folders.by.good
