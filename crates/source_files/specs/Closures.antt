-- The files that sources reach, level by level: which paths are new, and what was found so far.
use Rattle.std.specs.Prelude.{◌≡◌, ◌↔◌, ◌&&◌, ℕ, ⊤, Bool, true, false, not, List, [], ◌∷◌, ◌++◌, map, Contains}
use Rattle.std.specs.Prelude.{String, string_bytes, if◌then◌else◌}
use Rattle.std.specs.Global.{Global}
use Rattle.std.specs.List.{flat_map}
use Rattle.std.specs.HashSet.{HashSet}
use Rattle.source_tree.specs.Path.{IsGoodPath}
use Rattle.source_files.specs.declared.looking.Looked.{Looked}
use Rattle.source_files.specs.declared.looking.Looked.TheVariants.{Found, LeftOut, Nowhere}
use Rattle.source_files.specs.declared.load_fault.LoadFault.{LoadFault}
use Rattle.source_files.specs.declared.load_fault.LoadFault.TheVariants.{Unreadable, Memory}
use Rattle.source_files.specs.Reached.{Import, Told, descriptor_path}
use Rattle.source_files.specs.Walks.{AreOnce}

-- the paths in a set
abbrev pub paths_in : {S : Type 0} → HashSet (String Global) S → List (List ℕ)
paths_in set = map string_bytes set.keys

-- the same paths, however often and in any order
abbrev pub Same : (paths others : List (List ℕ)) → Type 0
Same paths others = (path : List ℕ) → Contains paths path ↔ Contains others path

-- a path is put to those that are known, and is told to be new or not
pub data PutsPath (old new : List (List ℕ)) (path : List ℕ) : (is_new : Bool) → Type 0 where
  was_known : Contains old path → Same new old → PutsPath old new path false
  was_new : ¬ (Contains old path) → Same new (old ++ path ∷ []) → PutsPath old new path true

-- of these paths, in their order, the good ones that aren't known, each once
pub data AreFresh : (known paths fresh : List (List ℕ)) → Type 0 where
  none_fresh : {known : List (List ℕ)} → AreFresh known [] []
  is_bad : {path : List ℕ} {known paths fresh : List (List ℕ)} → ¬ (IsGoodPath path) → AreFresh known paths fresh
      → AreFresh known (path ∷ paths) fresh
  is_known : {path : List ℕ} {known paths fresh : List (List ℕ)} → Contains known path → AreFresh known paths fresh
      → AreFresh known (path ∷ paths) fresh
  is_fresh : {path : List ℕ} {known paths fresh : List (List ℕ)} → IsGoodPath path → ¬ (Contains known path)
      → AreFresh (known ++ path ∷ []) paths fresh → AreFresh known (path ∷ paths) (path ∷ fresh)

-- those of these paths are put to what is known, and behind the others that are fresh
abbrev pub AddsFresh : (paths known_old known_new old new : List (List ℕ)) → Type 0
AddsFresh paths known_old known_new old new =
    (before : List (List ℕ)) → Same known_old before → (more : List (List ℕ)) × AreFresh before paths more
    × Same known_new (before ++ more) × (new ≡ old ++ more)

-- what is looked for by an import of a file: what it imports, or only what it imports publicly
abbrev pub wanted_by : (publicly : Bool) → Import → List (List ℕ)
wanted_by publicly import = if publicly && not import.is_public then [] else import.path ∷ []

abbrev pub wanted_of : (publicly : Bool) → List Import → List (List ℕ)
wanted_of publicly imports = flat_map (wanted_by publicly) imports

abbrev pub wanted_in : (publicly : Bool) → List Told → List (List ℕ)
wanted_in publicly files = flat_map (λ told. wanted_of publicly told.imports) files

-- the file with the messages of options, if names in options are linked and there is a source
abbrev pub built_in_of : (links_options : Bool) → (sources : List Told) → List (List ℕ)
built_in_of false sources = []
built_in_of true [] = []
built_in_of true (source ∷ others) = descriptor_path ∷ []

-- what is looked for at first: what sources import, and the file with the messages of options
abbrev pub wanted_first : (links_options : Bool) → (sources : List Told) → List (List ℕ)
wanted_first links_options sources = wanted_in false sources ++ built_in_of links_options sources

-- what was found, and what is left out
pub record Gathered : Type 0 where
  pub found : List Told
  pub unread : List (List ℕ)

abbrev pub found_of : Looked → List Told
found_of (Found told) = told ∷ []
found_of (LeftOut left) = []
found_of (Nowhere left) = []

abbrev pub left_of : Looked → List (List ℕ)
left_of (Found told) = []
left_of (LeftOut left) = string_bytes left ∷ []
left_of (Nowhere left) = []

abbrev pub gathered : List Looked → Gathered
gathered all = record { found = flat_map found_of all; unread = flat_map left_of all }

abbrev pub with_more : (old more : Gathered) → Gathered
with_more old more = record { found = old.found ++ more.found; unread = old.unread ++ more.unread }

-- why files are none, if some can't be read: the first of these paths, by path, is told
abbrev pub MayRefuseUnread : (unread : List (List ℕ)) → LoadFault → Type 0
MayRefuseUnread unread (Unreadable name) = (behind : List (List ℕ)) × AreOnce unread (string_bytes name ∷ behind)
MayRefuseUnread unread Memory = ⊤
MayRefuseUnread unread other = ⊥
