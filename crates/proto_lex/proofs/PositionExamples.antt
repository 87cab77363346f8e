-- Worked positions, by computation.
use Rattle.std.proofs.Common.{◌≡◌, refl, List, ℕ, [], ◌∷◌, ◌++◌}
use Rattle.std.specs.Prelude.{codes}
use Rattle.proto_lex.specs.Position.{position_of}
use Rattle.proto_lex.specs.declared.position.Encoding.TheVariants.{Utf8, Utf16}

-- a name on the second line, after a comment that holds a character of two bytes
abbrev after_comment : List ℕ
after_comment = codes "x\n/* " ++ (195 ∷ 169 ∷ []) ++ codes " */ message A {}"

name_after_comment_utf8 : position_of Utf8 after_comment 19 ≡ record { line = 1; column = 17 }
name_after_comment_utf8 = refl

name_after_comment_utf16 : position_of Utf16 after_comment 19 ≡ record { line = 1; column = 16 }
name_after_comment_utf16 = refl

-- a byte order mark, a character of four bytes, `\r`, `\r\n`, `z`
abbrev wide : List ℕ
wide = 239 ∷ 187 ∷ 191 ∷ 240 ∷ 159 ∷ 152 ∷ 128 ∷ 13 ∷ 13 ∷ 10 ∷ 122 ∷ []

start : position_of Utf16 wide 0 ≡ record { line = 0; column = 0 }
start = refl

mark_utf8 : position_of Utf8 wide 3 ≡ record { line = 0; column = 3 }
mark_utf8 = refl

mark_utf16 : position_of Utf16 wide 3 ≡ record { line = 0; column = 1 }
mark_utf16 = refl

past_utf8 : position_of Utf8 wide 7 ≡ record { line = 0; column = 7 }
past_utf8 = refl

past_utf16 : position_of Utf16 wide 7 ≡ record { line = 0; column = 3 }
past_utf16 = refl

lone_return_is_text : position_of Utf16 wide 9 ≡ record { line = 0; column = 5 }
lone_return_is_text = refl

second_line : position_of Utf16 wide 10 ≡ record { line = 1; column = 0 }
second_line = refl

end_of_text : position_of Utf16 wide 11 ≡ record { line = 1; column = 1 }
end_of_text = refl
