-- A field of proto3 that is written with the label `required`, which only proto2 has. (Protocol Buffers Version 2
-- Language Specification, Fields; in Version 3 the word can only be the name of a type there.)
use Rattle.std.specs.Prelude.{ℕ, ◌-◌, Bool, ◌&&◌, ◌||◌, List, [], ◌∷◌, codes, drop, length, nat_eq, take}
use Rattle.std.specs.Prelude.{if◌then◌else◌}
use Rattle.std.specs.List.{suffix_len}
use Rattle.std.specs.Str.{bytes_eq}
use Rattle.diagnostics.specs.Gaps.{behind_gap}
use Rattle.diagnostics.specs.Literals.{joined}
use Rattle.proto_lex.specs.Ascii as ascii
use Rattle.proto_lex.specs.Bytes.{is_letter, is_word, starts}

-- ---- the source is proto3

-- what is behind a text, if bytes begin with it
abbrev pub behind_text : (text bytes : List ℕ) → List ℕ
behind_text text bytes = if bytes_eq (take (length text) bytes) text then drop (length text) bytes else []

-- A byte order mark at the very start is a blank.
abbrev pub order_mark : List ℕ
order_mark = ascii.mark_first ∷ ascii.mark_second ∷ ascii.mark_third ∷ []

abbrev pub without_mark : List ℕ → List ℕ
without_mark text = if bytes_eq (take 3 text) order_mark then drop 3 text else text

-- what is behind the `syntax` and the `=` that a source begins with
abbrev pub behind_syntax : List ℕ → List ℕ
behind_syntax text = behind_text (codes "syntax") (behind_gap (without_mark text))

abbrev pub behind_equals : List ℕ → List ℕ
behind_equals text = behind_text (codes "=") (behind_gap (behind_syntax text))

-- it begins with a syntax statement that names proto3 (Version 3, Syntax)
abbrev pub is_proto3 : List ℕ → Bool
is_proto3 text = bytes_eq (joined (behind_equals text)) (codes "proto3")

-- ---- the words before a place

-- a space or a tab
abbrev pub is_space : ℕ → Bool
is_space byte = nat_eq byte ascii.space || nat_eq byte ascii.tab

-- a byte of a name with dots in it
abbrev pub is_dotted : ℕ → Bool
is_dotted byte = is_word byte || nat_eq byte ascii.dot

-- bytes without those of a kind that they end with, and just those
abbrev pub without_last : (is_one : ℕ → Bool) → List ℕ → List ℕ
without_last is_one bytes = take (length bytes - suffix_len is_one bytes) bytes

abbrev pub just_last : (is_one : ℕ → Bool) → List ℕ → List ℕ
just_last is_one bytes = drop (length bytes - suffix_len is_one bytes) bytes

-- what is before the last word on a line
abbrev pub before_word : List ℕ → List ℕ
before_word front = without_last is_space (without_last is_word (without_last is_space front))

-- ---- a field with the label

-- its name: a letter, `_` or a `.` begins it
abbrev pub begins_name : List ℕ → Bool
begins_name bytes = starts (λ byte. is_letter byte || nat_eq byte ascii.dot) bytes

-- In a source of proto3 a name is at a place, and on its line `required` and one word are before it. As proto3 is read,
-- `required` is a type and the word is the field's name, so that there would have to be `=`.
abbrev pub has_required : (text : List ℕ) → (at : ℕ) → Bool
has_required text at =
    bytes_eq (just_last is_dotted (before_word (take at text))) (codes "required")
    && (begins_name (drop at text) && is_proto3 text)
