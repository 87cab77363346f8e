-- How symbols are shown.
use Rattle.std.specs.Prelude.{ℕ, ◌==◌, Bool, not, cond, List, codes, drop, nat_eq}
use Rattle.std.specs.List.{prefix_len, starts_with}

-- what is behind the first space of a text; nothing if it has none
abbrev pub is_before_space : ℕ → Bool
is_before_space b = not (b == 32)

abbrev pub behind_space : List ℕ → List ℕ
behind_space text = drop 1 (drop (prefix_len is_before_space text) text)

-- A symbol is a scheme, the three parts of a package, and descriptors, with a space between them. If all parts of the
-- package are empty, the descriptors are shown; else the symbol is shown whole. (`scip.proto`, `Symbol`: a `.` is in
-- the place of an empty part)
abbrev pub shown_symbol : List ℕ → List ℕ
shown_symbol symbol =
    cond (starts_with nat_eq (behind_space symbol) (codes ". . . ")) (drop 6 (behind_space symbol)) symbol
