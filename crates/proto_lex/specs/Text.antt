-- What a text is, and why bytes are none.
use Rattle.std.specs.Prelude.{ℕ, ◌<◌, ◌≤◌, List, length, IsUtf8}
use Rattle.std.specs.Str.{IsValidUpTo}
use Rattle.proto_lex.specs.declared.fault.LexFault.{LexFault}
use Rattle.proto_lex.specs.declared.fault.LexFault.TheVariants.{TooLong, NotUtf8, BadByte, OpenString, OpenComment}
use Rattle.proto_lex.specs.declared.fault.LexFault.TheVariants.{BadEscape, BadNumber, Memory}

-- The most bytes of a text (the profile's): 64 MiB.
abbrev pub max_text_length : ℕ
max_text_length = 67108864

-- A text is at most this many bytes of UTF-8. (Unicode Standard, section 3.9, "Unicode Encoding Forms": UTF-8)
pub record IsText (bytes : List ℕ) : Type 0 where
  pub short : length bytes ≤ max_text_length
  pub utf8 : IsUtf8 bytes

-- Why bytes are no text: they are too many; or they are few enough, and the first `offset` of them are the longest
-- prefix that is UTF-8, so that the first ill-formed sequence begins there.
abbrev pub IsNoText : List ℕ → LexFault → Type 0
IsNoText bytes TooLong = max_text_length < length bytes
IsNoText bytes (NotUtf8 offset) = (length bytes ≤ max_text_length) × IsValidUpTo bytes offset
IsNoText bytes (BadByte offset) = ⊥
IsNoText bytes (OpenString offset) = ⊥
IsNoText bytes (OpenComment offset) = ⊥
IsNoText bytes (BadEscape offset) = ⊥
IsNoText bytes (BadNumber offset) = ⊥
IsNoText bytes Memory = ⊥
