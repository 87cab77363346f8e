-- What may be kept of a source.
use Rattle.std.specs.Prelude.{◌≡◌, ℕ, List, Option, Some, None}
use Rattle.source_tree.specs.Reading.{kept_bytes}

-- by what reading its file may give: of all that the file holds this much, or that it can't be read
abbrev pub MayKeep : (Option (List ℕ) → Type 0) → Option (List ℕ) → Type 0
MayKeep gives (Some kept) = (all : List ℕ) × gives (Some all) × (kept ≡ kept_bytes all)
MayKeep gives None = gives None
