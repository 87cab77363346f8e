-- The names in an option (proto3 specification, "Option"; Text Format Language Specification, "Field names").
use Rattle.std.specs.Prelude.{ℕ, Option, Some, None, List, [], ◌∷◌, length}
use Rattle.proto_lex.specs.declared.span.Span.{Span}
use Rattle.proto_parse.specs.tree.TypeName.{TypeName}
use Rattle.proto_options.specs.declared.names.OptionRole.{OptionRole}
use Rattle.proto_options.specs.declared.names.OptionName.{OptionName}

abbrev pub Names : Type 0
Names = List OptionName

abbrev pub named : OptionRole → (around : Option ℕ) → TypeName → OptionName
named role around name = record { role = role; around = around; name = name }

-- components without a leading dot
abbrev pub plain : List Span → TypeName
plain components = record { leading_dot = None; components = components }

-- one component
abbrev pub one_word : Span → TypeName
one_word word = plain (word ∷ [])

-- The number of the last of the names: of the part behind which a part of an option's name stands, and whose value is
-- given.
abbrev pub last_number : Names → Option ℕ
last_number [] = None
last_number (name ∷ others) = Some (length others)
