-- The characters of bytes.
use Rattle.std.specs.Prelude.{ℕ, Bool, ◌&&◌, nat_le, nat_lt, List, [], ◌∷◌, if◌then◌else◌}
use Rattle.std.specs.List.{onto_first}
use Rattle.proto_lex.specs.Bytes.{starts}

-- a byte that goes on with a character (Unicode Standard, section 3.9, table 3-6)
abbrev pub goes_on : ℕ → Bool
goes_on byte = nat_le 128 byte && nat_lt byte 192

-- Each is one byte with those that go on after it. In a text in UTF-8 these are its characters.
abbrev pub characters : List ℕ → List (List ℕ)
characters [] = []
characters (byte ∷ bytes) =
    if starts goes_on bytes then onto_first byte (characters bytes) else (byte ∷ []) ∷ characters bytes
