-- What is read of bytes that needn't be UTF-8 in comments (the profile's), where a `#` begins comments in values. A NUL
-- stands for each byte that isn't: so the text has the places of the bytes, and the lexer tells where such a byte is,
-- since it takes a NUL in comments alone.
use Rattle.std.specs.Prelude.{◌≡◌, ℕ, ◌<◌, ◌≤◌, List, [], ◌∷◌, ◌++◌, length, take, drop, slice_get}
use Rattle.std.specs.List.{AllZip}
use Rattle.std.specs.Char.{IsScalar, encode_utf8}
use Rattle.std.specs.Str.{StartsWithNoChar}
use Rattle.proto_lex.specs.Ascii as ascii
use Rattle.proto_lex.specs.Text.{max_text_length}
use Rattle.proto_lex.specs.Faults.{IsFirstFaultWith}
use Rattle.proto_lex.specs.declared.hashes.Hashes.TheVariants.{InValues}
use Rattle.proto_lex.specs.declared.fault.LexFault.TheVariants.{BadByte}
use Rattle.source_tree.specs.Files.{TreeFile}

-- Bytes are read from left to right: a well-formed sequence, which is that of a character, is kept; where none begins,
-- a NUL stands for one byte. (Unicode Standard, section 3.9, "Unicode Encoding Forms": UTF-8, table 3-7)
pub data Reads : (bytes text : List ℕ) → Type 0 where
  at_end : Reads [] []
  well_formed : (character : ℕ) → {bytes text : List ℕ} → IsScalar character → Reads bytes text
      → Reads (encode_utf8 character ++ bytes) (encode_utf8 character ++ text)
  ill_formed : {byte : ℕ} {bytes text : List ℕ} → StartsWithNoChar (byte ∷ bytes) → Reads bytes text
      → Reads (byte ∷ bytes) (ascii.nul ∷ text)

-- the same byte is at an offset of both
abbrev pub SameAt : (bytes text : List ℕ) → (at : ℕ) → Type 0
SameAt bytes text at = slice_get text at ≡ slice_get bytes at

-- A byte that isn't UTF-8 is outside comments if the lexer, on its way, meets the NUL that stands for it. From the
-- first such byte on, the bytes are read as they are, and so they are no text there.
pub data IsMended (bytes : List ℕ) : (text : List ℕ) → Type 0 where
  in_comments : {text : List ℕ} → length bytes ≤ max_text_length → Reads bytes text
      → ((at : ℕ) → IsFirstFaultWith InValues text (BadByte at) → SameAt bytes text at) → IsMended bytes text
  outside : (text : List ℕ) (at : ℕ) → length bytes ≤ max_text_length → Reads bytes text
      → IsFirstFaultWith InValues text (BadByte at) → (SameAt bytes text at → ⊥)
      → IsMended bytes (take at text ++ drop at bytes)
  -- bytes that are too many for a text are read as they are
  too_long : max_text_length < length bytes → IsMended bytes bytes

-- the same file, of whose bytes this is read
pub record IsMendedFile (file mended : TreeFile) : Type 0 where
  pub path : mended.path ≡ file.path
  pub bytes : mended.bytes ≡ file.bytes
  pub text : IsMended file.bytes mended.text
  pub is_included : mended.is_included ≡ file.is_included
  pub is_unread : mended.is_unread ≡ file.is_unread

-- the same files, in order
abbrev pub AreMended : (files mended : List TreeFile) → Type 0
AreMended files mended = AllZip IsMendedFile files mended
