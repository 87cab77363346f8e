-- What a fault of tokens that derive no tree is called, and where it is in the text.
use Rattle.std.specs.Prelude.{ℕ, List, Option, Some, None, codes}
use Rattle.proto_grammar.specs.declared.fault.SyntaxFault.{SyntaxFault}
use Rattle.proto_grammar.specs.declared.fault.SyntaxFault.TheVariants as fault

abbrev pub syntax_name : SyntaxFault → List ℕ
syntax_name (fault.NotProto3 at) = codes "NotProto3"
syntax_name (fault.CustomOption at) = codes "CustomOption"
syntax_name (fault.Aggregate at) = codes "Aggregate"
syntax_name (fault.Extend at) = codes "Extend"
syntax_name (fault.TwoPackages at) = codes "TwoPackages"
syntax_name (fault.ImportEscape at) = codes "ImportEscape"
syntax_name (fault.TooDeep at) = codes "TooDeep"
syntax_name (fault.Grammar at) = codes "Grammar"
syntax_name fault.Memory = codes "Memory"

-- Memory has no offset.
abbrev pub syntax_offset : SyntaxFault → Option ℕ
syntax_offset (fault.NotProto3 at) = Some at
syntax_offset (fault.CustomOption at) = Some at
syntax_offset (fault.Aggregate at) = Some at
syntax_offset (fault.Extend at) = Some at
syntax_offset (fault.TwoPackages at) = Some at
syntax_offset (fault.ImportEscape at) = Some at
syntax_offset (fault.TooDeep at) = Some at
syntax_offset (fault.Grammar at) = Some at
syntax_offset fault.Memory = None
