-- What isn't read below the roots, and in which order it is told.
use Rattle.std.specs.Prelude.{ℕ, ◌/◌, ◌%◌, Bool, true, false, List, ◌++◌, Option, None, codes, nat_lt, string_bytes}
use Rattle.std.specs.Prelude.{if◌then◌else◌}
use Rattle.std.specs.Char.{digit_char, encode_utf8}
use Rattle.std.specs.List.{flat_map}
use Rattle.std.specs.Str.{chars}
use Rattle.std.specs.Cmp.Lexicographic.{slice_cmp}
use Rattle.std.specs.Option.{option_cmp}
use Rattle.std.specs.Ordering.{bool_cmp, nat_cmp, on, then_cmp}
use Rattle.std.specs.declared.cmp.Ordering.{Ordering}
use Rattle.source_files.specs.declared.listing.FolderIdentity.{FolderIdentity}
use Rattle.source_files.specs.declared.unread_entry.UnreadEntry.{UnreadEntry}

-- An entry: its name in a folder or its path below a root, as it is shown, and its bytes; which folder it is in, if its
-- name isn't UTF-8 and that is known; and whether its path is no good one, so that it isn't read.
pub record Unread : Type 0 where
  pub shown : List ℕ
  pub bytes : List ℕ
  pub folder : Option FolderIdentity
  pub has_bad_path : Bool

abbrev pub unread_of : UnreadEntry → Unread
unread_of entry = record {
  shown = string_bytes entry.shown;
  bytes = entry.bytes.items;
  folder = entry.folder;
  has_bad_path = entry.has_bad_path;
}

-- by device and number
abbrev pub identity_cmp : FolderIdentity → FolderIdentity → Ordering
identity_cmp = then_cmp (on (λ folder. folder.device) nat_cmp) (on (λ folder. folder.number) nat_cmp)

-- by what is shown of them, then by their bytes, then by their folders; of bad paths last
abbrev pub unread_cmp : Unread → Unread → Ordering
unread_cmp =
    then_cmp (on (λ entry. entry.shown) (slice_cmp nat_cmp))
    (then_cmp (on (λ entry. entry.bytes) (slice_cmp nat_cmp))
    (then_cmp (on (λ entry. entry.folder) (option_cmp identity_cmp)) (on (λ entry. entry.has_bad_path) bool_cmp)))

-- `\x09`: a control character by the two digits of its byte
abbrev pub escaped : ℕ → List ℕ
escaped character =
    codes "\\x" ++ (encode_utf8 (digit_char (character / 16)) ++ encode_utf8 (digit_char (character % 16)))

-- a character of a path, or its escape
abbrev pub shown_character : ℕ → List ℕ
shown_character character = if nat_lt character 32 then escaped character else encode_utf8 character

abbrev pub shown_path : (path : List ℕ) → List ℕ
shown_path path = flat_map shown_character (chars path)

-- what has a path that is UTF-8, and can't be read
abbrev pub at_path : (path : List ℕ) → Unread
at_path path = record { shown = shown_path path; bytes = path; folder = None; has_bad_path = false }

-- what has a path that is UTF-8, but no good one, so that it isn't taken
abbrev pub at_bad_path : (path : List ℕ) → Unread
at_bad_path path = record { shown = shown_path path; bytes = path; folder = None; has_bad_path = true }

-- what has a name, by its path
abbrev pub in_folder : (folder : List ℕ) → Unread → Unread
in_folder folder named = record named { shown = shown_path folder ++ named.shown; bytes = folder ++ named.bytes }
