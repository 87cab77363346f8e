-- The forms of a line that says why a program stops.
use Rattle.std.specs.Prelude.{ℕ, List, ◌++◌, Option, Some, None, codes}
use Rattle.std.specs.Fmt.{decimal}

-- `protoscip: NAME`
abbrev pub plain_line : List ℕ → List ℕ
plain_line name = codes "protoscip: " ++ name

-- `protoscip: PATH: NAME`
abbrev pub path_line : List ℕ → List ℕ → List ℕ
path_line path name = codes "protoscip: " ++ path ++ codes ": " ++ name

-- `protoscip: PATH@OFFSET: NAME`
abbrev pub line_at : List ℕ → ℕ → List ℕ → List ℕ
line_at path at name = codes "protoscip: " ++ path ++ codes "@" ++ decimal at ++ codes ": " ++ name

-- a fault that is at an offset of the file with this path, or nowhere
abbrev pub placed_line : List ℕ → Option ℕ → List ℕ → List ℕ
placed_line path None name = plain_line name
placed_line path (Some at) name = line_at path at name
