-- How a text is written into a page.
-- (HTML Standard, 13.1.4 "Character references"; the names: 13.5 "Named character references")
use Rattle.std.specs.Prelude.{ℕ, ◌==◌, cond, List, [], ◌∷◌, codes, Option, None, Some}
use Rattle.std.specs.List.{find, flat_map}

-- A character reference: what comes after its `&`, and the byte that it stands for.
pub record Reference : Type 0 where
  pub name : List ℕ
  pub byte : ℕ

-- The references of these pages. In a text `&` begins a reference and `<` a mark, in a value between quotes
-- a quote ends the value, and `>` ends a mark; a reader of HTML makes `\n` of `\r` unless it is referred to
-- (13.2.3.5 "Preprocessing the input stream").
abbrev pub references : List Reference
references =
    record { name = codes "amp;"; byte = 38 }
    ∷ (record { name = codes "lt;"; byte = 60 }
    ∷ (record { name = codes "gt;"; byte = 62 }
    ∷ (record { name = codes "quot;"; byte = 34 }
    ∷ (record { name = codes "#39;"; byte = 39 }
    ∷ (record { name = codes "#13;"; byte = 13 } ∷ [])))))

-- the byte, or the reference to it
abbrev pub referred : ℕ → Option Reference → List ℕ
referred byte None = byte ∷ []
referred byte (Some reference) = 38 ∷ reference.name

-- A page can't show a NUL: a reader of HTML drops it, and makes U+FFFD of a reference to it (13.2.6.4.7 "The 'in body'
-- insertion mode", 13.2.5.80 "Numeric character reference end state"). Its picture stands for it, U+2400, in UTF-8.
abbrev pub picture : List ℕ
picture = 226 ∷ (144 ∷ (128 ∷ []))

abbrev pub pictured_byte : ℕ → List ℕ
pictured_byte byte = cond (byte == 0) picture (byte ∷ [])

-- A text with the picture of each NUL.
abbrev pub pictured : List ℕ → List ℕ
pictured text = flat_map pictured_byte text

-- Another byte is written as its reference, if it has one, and as it is if it has none.
abbrev pub escape_byte : ℕ → List ℕ
escape_byte byte = cond (byte == 0) picture (referred byte (find (λ (r : Reference). byte == r.byte) references))

-- A text is written byte by byte.
abbrev pub escape : List ℕ → List ℕ
escape text = flat_map escape_byte text
