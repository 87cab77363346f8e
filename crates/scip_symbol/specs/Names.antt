-- Names in symbols (`scip.proto`, the comment of `Symbol`). A text is the list of its bytes in UTF-8.
use Rattle.std.specs.Prelude.{ℕ, Bool, List, [], ◌∷◌, ◌||◌, false, codes, nat_eq, if◌then◌else◌}
use Rattle.std.specs.Char.{is_ascii_alphanumeric}
use Rattle.std.specs.List.{flat_map, list_all, list_any}

-- <identifier-character> ::= '_' | '+' | '-' | '$' | ASCII letter or digit
abbrev pub is_identifier_character : ℕ → Bool
is_identifier_character b = is_ascii_alphanumeric b || list_any (nat_eq b) (codes "_+-$")

-- <simple-identifier> ::= (<identifier-character>)+
abbrev pub is_simple_identifier : List ℕ → Bool
is_simple_identifier [] = false
is_simple_identifier (b ∷ others) = list_all is_identifier_character (b ∷ others)

-- a text with each of its marks, a space or a backtick, written twice
abbrev pub doubled : ℕ → List ℕ → List ℕ
doubled mark = flat_map (λ b. if nat_eq b mark then mark ∷ mark ∷ [] else b ∷ [])

abbrev pub space : ℕ
space = 32

abbrev pub backtick : ℕ
backtick = 96
