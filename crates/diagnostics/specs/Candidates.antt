-- The words and signs that are tried, by how they are spelled: `:` and `/` aren't, since they are only in values in
-- braces, where any token can be. (Protocol Buffers Version 3 and Version 2 Language Specifications)
use Rattle.std.specs.Prelude.{ℕ, List, [], ◌∷◌, codes}

unfoldable pub signs : List (List ℕ)
signs =
    codes ";" ∷ codes "}" ∷ codes "{" ∷ codes "=" ∷ codes "]" ∷ codes "[" ∷ codes ")" ∷ codes "(" ∷ codes ">"
    ∷ codes "<" ∷ codes "," ∷ codes "." ∷ codes "-" ∷ codes "+" ∷ []

-- any number, and one that is whole
abbrev pub number : List ℕ
number = codes "1.5"

abbrev pub whole_number : List ℕ
whole_number = codes "1"

abbrev pub whole_numbers : List (List ℕ)
whole_numbers = whole_number ∷ []

-- any string literal, and those of a syntax statement
abbrev pub literal : List ℕ
literal = codes "\"a\""

abbrev pub versions : List (List ℕ)
versions = codes "\"proto3\"" ∷ codes "\"proto2\"" ∷ []

-- any name, and one that begins with a capital letter, as a group's does
abbrev pub name : List ℕ
name = codes "a"

abbrev pub capital_name : List ℕ
capital_name = codes "A"

-- that one, and those words of the grammar that can be where a name can't
unfoldable pub words : List (List ℕ)
words =
    capital_name ∷ codes "optional" ∷ codes "required" ∷ codes "repeated" ∷ codes "message" ∷ codes "enum"
    ∷ codes "oneof" ∷ codes "map" ∷ codes "reserved" ∷ codes "extensions" ∷ codes "extend" ∷ codes "option"
    ∷ codes "syntax" ∷ codes "import" ∷ codes "package" ∷ codes "service" ∷ codes "rpc" ∷ codes "returns"
    ∷ codes "public" ∷ codes "weak" ∷ codes "to" ∷ codes "max" ∷ codes "inf" ∷ codes "nan" ∷ codes "string"
    ∷ codes "bool" ∷ codes "int32" ∷ codes "int64" ∷ codes "uint32" ∷ codes "uint64" ∷ codes "sint32"
    ∷ codes "sint64" ∷ codes "fixed32" ∷ codes "fixed64" ∷ codes "sfixed32" ∷ codes "sfixed64" ∷ []
