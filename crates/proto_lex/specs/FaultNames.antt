-- What a fault of a text or of its lexing is called, and where it is in the bytes.
use Rattle.std.specs.Prelude.{ℕ, List, Option, Some, None, codes}
use Rattle.proto_lex.specs.declared.fault.LexFault.{LexFault}
use Rattle.proto_lex.specs.declared.fault.LexFault.TheVariants as fault
use Rattle.proto_lex.specs.Text.{max_text_length}

abbrev pub lex_name : LexFault → List ℕ
lex_name fault.TooLong = codes "TooLong"
lex_name (fault.NotUtf8 at) = codes "NotUtf8"
lex_name (fault.BadByte at) = codes "BadByte"
lex_name (fault.OpenString at) = codes "OpenString"
lex_name (fault.OpenComment at) = codes "OpenComment"
lex_name (fault.BadEscape at) = codes "BadEscape"
lex_name (fault.BadNumber at) = codes "BadNumber"
lex_name fault.Memory = codes "Memory"

-- If there are too many bytes, the fault is at the first one past the limit. Memory has no offset.
abbrev pub lex_offset : LexFault → Option ℕ
lex_offset fault.TooLong = Some max_text_length
lex_offset (fault.NotUtf8 at) = Some at
lex_offset (fault.BadByte at) = Some at
lex_offset (fault.OpenString at) = Some at
lex_offset (fault.OpenComment at) = Some at
lex_offset (fault.BadEscape at) = Some at
lex_offset (fault.BadNumber at) = Some at
lex_offset fault.Memory = None
