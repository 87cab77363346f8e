-- Texts in which U+FFFD stands for each NUL (CommonMark, section 2.3, "Insecure characters").
use Rattle.std.specs.Prelude.{ℕ, Bool, not, List, [], ◌∷◌, nat_eq, if◌then◌else◌}
use Rattle.std.specs.List.{flat_map}
use Rattle.std.specs.Char.{encode_utf8}
use Rattle.proto_lex.specs.Ascii as ascii

-- U+FFFD, the replacement character
abbrev pub replacement : ℕ
replacement = 0xFFFD

-- what is shown of a byte
abbrev pub shown : ℕ → List ℕ
shown byte = if nat_eq byte ascii.nul then encode_utf8 replacement else byte ∷ []

abbrev pub without_nul : List ℕ → List ℕ
without_nul text = flat_map shown text

abbrev pub is_plain : ℕ → Bool
is_plain byte = not (nat_eq byte ascii.nul)
