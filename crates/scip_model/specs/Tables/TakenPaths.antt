-- The marks of paths of which there is a piece.
use Rattle.std.specs.Prelude.{◌≡◌, ◌≢◌, ◌<◌, ◌↔◌, ℕ, Bool, true, false, Some, List, length, take, All, Contains}
use Rattle.std.specs.Prelude.{slice_index_or, slice_set}
use Rattle.std.specs.List.{slice_get}
use Rattle.scip_records.specs.declared.records.Document.{Document}
use Rattle.scip_model.specs.Pieces.{paths_of}
use Rattle.scip_model.specs.declared.pieces.MergeFault.{MergeFault}
use Rattle.scip_model.specs.declared.pieces.MergeFault.TheVariants.{Stranger, Twice, Missing, Memory}

-- so many marks, all clear
pub record AreClear (count : ℕ) (marks : List Bool) : Type 0 where
  pub size : length marks ≡ count
  pub clear : All (λ mark. mark ≡ false) marks

-- the path that a piece has is marked
pub record IsMarked (paths : List (List ℕ)) (path : List ℕ) (old new : List Bool) : Type 0 where
  pub number : ℕ
  pub numbered : slice_get paths number ≡ Some path
  pub was : slice_index_or old number false ≡ false
  pub marks : new ≡ slice_set old number true

-- or it isn't, since no path is that of the piece, or it is marked already
abbrev pub IsNotMarked : (paths : List (List ℕ)) → (path : List ℕ) → List Bool → (piece : ℕ) → MergeFault → Type 0
IsNotMarked paths path old piece (Stranger number) = (number ≡ piece) × (Contains paths path → ⊥)
IsNotMarked paths path old piece (Twice number) =
    (number ≡ piece) × (other : ℕ) × (slice_get paths other ≡ Some path) × (slice_index_or old other false ≡ true)
IsNotMarked paths path old piece (Missing number) = ⊥
IsNotMarked paths path old piece Memory = ⊥

-- the paths of the first so many pieces are marked, and they differ
pub record AreMarked (paths : List (List ℕ)) (pieces : List Document) (count : ℕ) (marks : List Bool) : Type 0 where
  pub size : length marks ≡ length paths
  pub marked : (number : ℕ) (path : List ℕ) → slice_get paths number ≡ Some path
      → (slice_index_or marks number false ≡ true) ↔ Contains (paths_of (take count pieces)) path
  pub known : (piece : ℕ) (document : Document) → piece < count → slice_get pieces piece ≡ Some document
      → Contains paths document.relative_path
  pub alone : (i j : ℕ) (a b : Document) → i < j → j < count → slice_get pieces i ≡ Some a → slice_get pieces j ≡ Some b
      → a.relative_path ≢ b.relative_path
