-- The tree of a list, and why there is none, step by step.
use Rattle.std.proofs.Common.{◌≡◌, ℕ, Bool, List, Option, length, subst, take, inl, inr}
use Rattle.source_tree.specs.Files.{TreeFile}
use Rattle.source_files.specs.declared.load_fault.LoadFault.{LoadFault}
use Rattle.source_files.specs.declared.load_fault.LoadFault.TheVariants as load
use Rattle.source_files.specs.Closures.{Gathered}
use Rattle.source_files.specs.LoadFaults.{MayRefuseFiles}
use Rattle.source_files.specs.ListedTrees.{AreInTree, AreReachedWith, IsTreeListed, MayNotFind, MayNotLoadListed}
use Rattle.source_files.specs.ListedTrees.{OfSources}
use Rattle.source_files.specs.ListedTrees.{files_with}
use Rattle.source_files.specs.Reached.{AreIncluded, AreSources, Import, MayNotInclude, Told}
use Rattle.source_files.specs.Unread.{Unread}
use Rattle.source_files.specs.Walks.{AreOnce}

module _ (finds : List ℕ → List ℕ → Bool → Type 0) (gives : List ℕ → Option (List ℕ) → Type 0)
    (tells : List ℕ → List Import → Type 0)
    (leaves_out links_options : Bool)
    (roots listed once shown : List (List ℕ))
    (once_are : AreOnce listed once)
    (shows : shown ≡ take 1 roots) where
  first_shown : (sources : Gathered)
      → AreSources finds gives tells leaves_out shown once sources.found sources.unread
      → AreSources finds gives tells leaves_out (take 1 roots) once sources.found sources.unread
  first_shown sources are =
      subst (λ (l : List (List ℕ)). AreSources finds gives tells leaves_out l once sources.found sources.unread) shows
      are

  -- this holds of the sources
  of_sources : (Holds : (once : List (List ℕ)) → (sources : List Told) → (lost : List (List ℕ)) → Type 0)
      (sources : Gathered) → AreSources finds gives tells leaves_out shown once sources.found sources.unread
      → Holds once sources.found sources.unread → OfSources finds gives tells leaves_out roots listed Holds
  of_sources Holds sources are holds = record {
    once = once;
    sources = sources.found;
    lost = sources.unread;
    once_are = once_are;
    sources_are = first_shown sources are;
    holds = holds;
  }

  -- and this of them and the included files
  of_listed : (Holds : (sources included : List Told) → (lost left : List (List ℕ)) → Type 0)
      (sources included : Gathered)
      → AreSources finds gives tells leaves_out shown once sources.found sources.unread
      → AreIncluded finds gives tells leaves_out links_options roots once sources.found included.found included.unread
      → Holds sources.found included.found sources.unread included.unread
      → OfSources finds gives tells leaves_out roots listed
      (AreReachedWith finds gives tells leaves_out links_options roots listed Holds)
  of_listed Holds sources included are seen holds =
      of_sources (AreReachedWith finds gives tells leaves_out links_options roots listed Holds) sources are
      (record { included = included.found; left = included.unread; included_are = seen; holds = holds })

  pub loads : (sources included : Gathered) (count : ℕ) (tree : List TreeFile) (own : List (List ℕ))
      (others : List (List (List ℕ))) (unread : List Unread) → count ≡ length roots
      → AreSources finds gives tells leaves_out shown once sources.found sources.unread
      → AreIncluded finds gives tells leaves_out links_options roots once sources.found included.found included.unread
      → AreInTree count sources.found included.found sources.unread included.unread tree own others unread
      → IsTreeListed finds gives tells leaves_out links_options roots listed tree own others unread
  loads sources included count tree own others unread counted are seen made =
      of_listed (λ s i lost left. AreInTree (length roots) s i lost left tree own others unread) sources included are
      seen
      (subst (λ (n : ℕ). AreInTree n sources.found included.found sources.unread included.unread tree own others unread)
      counted made)

  -- a source isn't read
  pub refuses_source : (fault : LoadFault) → MayNotFind finds gives tells leaves_out shown once fault
      → MayNotLoadListed finds gives tells leaves_out links_options roots listed fault
  refuses_source (load.Unreadable name) stops =
      inl (
        once,
        once_are,
        subst (λ (l : List (List ℕ)). MayNotFind finds gives tells leaves_out l once
            (load.Unreadable name)) shows stops,
      )
  refuses_source load.TooMany stops = absurd stops
  refuses_source (load.BadPath path) stops = absurd stops
  refuses_source (load.SamePath path) stops = absurd stops
  refuses_source load.Memory stops = tt

  -- a file that sources reach isn't, or they are too many
  pub refuses_included : (sources : Gathered) (fault : LoadFault)
      → AreSources finds gives tells leaves_out shown once sources.found sources.unread
      → MayNotInclude finds gives tells leaves_out links_options roots once sources.found fault
      → MayNotLoadListed finds gives tells leaves_out links_options roots listed fault
  refuses_included sources (load.Unreadable name) are stops =
      inr (of_sources (λ o s lost. MayNotInclude finds gives tells leaves_out links_options roots o s (load.Unreadable name)) sources
      are stops)
  refuses_included sources load.TooMany are stops =
      inl (of_sources (λ o s lost. MayNotInclude finds gives tells leaves_out links_options roots o s load.TooMany) sources are stops)
  refuses_included sources (load.BadPath path) are stops = absurd stops
  refuses_included sources (load.SamePath path) are stops = absurd stops
  refuses_included sources load.Memory are stops = tt

  -- the files make no tree
  pub refuses_tree : (sources included : Gathered) (fault : LoadFault)
      → AreSources finds gives tells leaves_out shown once sources.found sources.unread
      → AreIncluded finds gives tells leaves_out links_options roots once sources.found included.found included.unread
      → MayRefuseFiles (files_with sources.found sources.unread) (files_with included.found included.unread) fault
      → MayNotLoadListed finds gives tells leaves_out links_options roots listed fault
  refuses_tree sources included (load.Unreadable name) are seen stops = absurd stops
  refuses_tree sources included load.TooMany are seen stops =
      inr (of_listed (λ s i lost left. MayRefuseFiles (files_with s lost) (files_with i left) load.TooMany) sources
      included are seen stops)
  refuses_tree sources included (load.BadPath path) are seen stops =
      of_listed (λ s i lost left. MayRefuseFiles (files_with s lost) (files_with i left) (load.BadPath path)) sources
      included are seen stops
  refuses_tree sources included (load.SamePath path) are seen stops =
      of_listed (λ s i lost left. MayRefuseFiles (files_with s lost) (files_with i left) (load.SamePath path)) sources
      included are seen stops
  refuses_tree sources included load.Memory are seen stops = tt
