-- What is listed below a root where no folder says which it is: folder by folder, with the folders in each.
use Rattle.std.specs.Prelude.{◌≡◌, ◌≢◌, ℕ, List, [], ◌∷◌, ◌++◌, Option, Some, None, Contains}
use Rattle.source_files.specs.Entries.{Give}
use Rattle.source_files.specs.Listings.{Listing}
use Rattle.source_files.specs.Walks.{AreByBytes}

-- what listing each folder below the root may give, or none
module _ (lists : List ℕ → Option Listing → Type 0) where
  -- what a folder has: other folders, and sources
  pub record HasOnly (folder : List ℕ) (folders sources : List (List ℕ)) : Type 0 where
    pub listing : Listing
    pub listed : lists folder (Some listing)
    pub named : listing.unnamed ≡ []
    pub give : Give folder listing.entries folders sources

  -- the sources that are found below folders: those that each folder has, and those found below the folders that it has
  pub data AreFoundBelow : (folders found : List (List ℕ)) → Type 0 where
    below_none : AreFoundBelow [] []
    below_next : {folder : List ℕ} {others inner sources below found : List (List ℕ)}
        → HasOnly folder inner sources → AreFoundBelow inner below → AreFoundBelow others found
        → AreFoundBelow (folder ∷ others) (sources ++ (below ++ found))

  -- a folder can't be listed, or has a name that isn't UTF-8, or so it is with one that it has
  pub data CantBeListed : (folder : List ℕ) → Type 0 where
    itself : {folder : List ℕ} → lists folder None → CantBeListed folder
    unnamed : {folder : List ℕ} {listing : Listing} → lists folder (Some listing) → listing.unnamed ≢ []
        → CantBeListed folder
    within : {folder inner : List ℕ} {folders sources : List (List ℕ)}
        → HasOnly folder folders sources → Contains folders inner → CantBeListed inner → CantBeListed folder

  -- the paths of the sources found below the root, by their bytes; each as often as its folder's listing has it
  pub record AreListedBelow (paths : List (List ℕ)) : Type 0 where
    pub found : List (List ℕ)
    pub below_root : AreFoundBelow ([] ∷ []) found
    pub by_bytes : AreByBytes found paths
