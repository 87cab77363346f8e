-- Lines of comments, and what is cut from them. A line has no \n.
use Rattle.std.specs.Prelude.{ℕ, ◌-◌, min, ◌==◌, Bool, List, length, take, drop, map, nat_lt}
use Rattle.std.specs.List.{prefix_len, suffix_len, filter, reduce}
use Rattle.std.specs.Option.{unwrap_or}
use Rattle.proto_lex.specs.Bytes.{is_blank}

-- how many blanks a line begins with
abbrev pub indentation : List ℕ → ℕ
indentation line = prefix_len is_blank line

-- a line without its first blanks, so many at most
abbrev pub without_blanks : (most : ℕ) → List ℕ → List ℕ
without_blanks most line = drop (min most (indentation line)) line

-- a line without the blanks at its end
abbrev pub without_last_blanks : List ℕ → List ℕ
without_last_blanks line = take (length line - suffix_len is_blank line) line

-- whether a line has more than blanks
abbrev pub has_words : List ℕ → Bool
has_words line = nat_lt (indentation line) (length line)

-- the common indentation of lines: the least of those that have more than blanks, or 0 if none has
abbrev pub common_indentation : List (List ℕ) → ℕ
common_indentation lines = unwrap_or (reduce min (map indentation (filter has_words lines))) 0

abbrev pub is_empty_line : List ℕ → Bool
is_empty_line line = length line == 0

-- lines without the empty ones at their start; at their end; at both
abbrev pub without_first_empty : List (List ℕ) → List (List ℕ)
without_first_empty lines = drop (prefix_len is_empty_line lines) lines

abbrev pub without_last_empty : List (List ℕ) → List (List ℕ)
without_last_empty lines = take (length lines - suffix_len is_empty_line lines) lines

abbrev pub without_empty_ends : List (List ℕ) → List (List ℕ)
without_empty_ends lines = without_last_empty (without_first_empty lines)
