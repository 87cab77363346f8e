use Rattle.std.proofs.Common.{◌≡◌, ◌++◌, IsUtf8, string_bytes}
use Rattle.std.specs.Str.Iter.{chars_rest}
use Rattle.source_files.specs.Unread.{shown_path}
use Rattle.source_files.proofs.unread_entry.shown_path.Given as goal

-- what is shown of the characters so far, and of those that are left
abbrev pub invariant-loop-character : goal.invariant-loop-character
invariant-loop-character l =
    IsUtf8 (chars_rest l.character-iterator)
    × (string_bytes l.shown ++ shown_path (chars_rest l.character-iterator) ≡ shown_path l.fn.path)
