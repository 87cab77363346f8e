-- Bytes that a page has as they are.
use Rattle.std.specs.Prelude.{ℕ, ◌==◌, Bool, not, ◌||◌}

-- those that have no reference and no picture
abbrev pub is_plain : ℕ → Bool
is_plain b = not ((b == 38) || (b == 60) || (b == 62) || (b == 34) || (b == 39) || (b == 13) || (b == 0))
