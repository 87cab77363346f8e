-- Whether each beginning of a text matches pieces.
use Rattle.std.specs.Prelude.{◌≡◌, ◌≤◌, ◌+◌, ◌↔◌, ℕ, Bool, false, IsTrue, List, length, take, slice_index_or}
use Rattle.globs.specs.declared.piece.Piece.{Piece}
use Rattle.globs.specs.Pieces.{Matches}

-- those of so many bytes at most
pub record IsFront (pieces : List Piece) (text : List ℕ) (count : ℕ) (row : List Bool) : Type 0 where
  pub long : length row ≡ count + 1
  pub each : (number : ℕ) → number ≤ count
      → (IsTrue (slice_index_or row number false) ↔ Matches pieces (take number text))

abbrev pub AreRow : List Piece → (text : List ℕ) → List Bool → Type 0
AreRow pieces text row = IsFront pieces text (length text) row
