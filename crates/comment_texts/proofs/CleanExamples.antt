-- Worked texts of comments, by computation.
use Rattle.std.proofs.Common.{◌≡◌, refl, List, ℕ, [], ◌∷◌, ◌++◌}
use Rattle.std.specs.Prelude.{codes}
use Rattle.std.specs.List.{join_with_byte}
use Rattle.proto_lex.specs.declared.token.CommentKind.TheVariants.{Line, Block}
use Rattle.comment_texts.specs.Comments.{between_marks}
use Rattle.comment_texts.specs.Cleaned.{Written, clean_text}

abbrev line : List ℕ → Written
line spelling = record { kind = Line; between = between_marks Line spelling }

abbrev block : List ℕ → Written
block spelling = record { kind = Block; between = between_marks Block spelling }

abbrev joined : List (List ℕ) → List ℕ
joined lines = join_with_byte 10 lines

one_blank_goes : clean_text (line (codes "// Foo") ∷ []) ≡ codes "Foo"
one_blank_goes = refl

no_blank : clean_text (line (codes "//Foo") ∷ []) ≡ codes "Foo"
no_blank = refl

common_indentation_goes : clean_text (line (codes "//   Foo") ∷ line (codes "//") ∷ line (codes "//     bar") ∷ [])
    ≡ joined (codes "Foo" ∷ [] ∷ codes "  bar" ∷ [])
common_indentation_goes = refl

third_sign_goes : clean_text (line (codes "/// Foo") ∷ line (codes "//! bar") ∷ [])
    ≡ joined (codes "Foo" ∷ codes "bar" ∷ [])
third_sign_goes = refl

fourth_sign_stays : clean_text (line (codes "//// Foo") ∷ []) ≡ codes "/ Foo"
fourth_sign_stays = refl

stars_go : clean_text (block (joined (codes "/**" ∷ codes " * Foo" ∷ codes " *   bar" ∷ codes " */" ∷ [])) ∷ [])
    ≡ joined (codes "Foo" ∷ codes "  bar" ∷ [])
stars_go = refl

indentation_of_a_block_goes
    : clean_text (block (joined (codes "/* Foo" ∷ codes "   bar" ∷ codes "     baz */" ∷ [])) ∷ [])
    ≡ joined (codes "Foo" ∷ codes "bar" ∷ codes "  baz" ∷ [])
indentation_of_a_block_goes = refl

second_star_stays : clean_text (block (joined (codes "/*" ∷ codes " ** Foo" ∷ codes " **/" ∷ [])) ∷ [])
    ≡ codes "* Foo"
second_star_stays = refl

stars_apart_from_others
    : clean_text (block (joined (codes "/*" ∷ codes "  Foo:" ∷ codes "  * bar" ∷ codes "*/" ∷ [])) ∷ [])
    ≡ joined (codes "Foo:" ∷ codes "bar" ∷ [])
stars_apart_from_others = refl

return_goes : clean_text (line (codes "// Foo" ++ 13 ∷ []) ∷ line (codes "// bar") ∷ [])
    ≡ joined (codes "Foo" ∷ codes "bar" ∷ [])
return_goes = refl

empty_block : clean_text (block (codes "/**/") ∷ []) ≡ []
empty_block = refl

star_alone : clean_text (block (codes "/***/") ∷ []) ≡ []
star_alone = refl

empty_lines_at_the_ends_go : clean_text (line (codes "//") ∷ line (codes "// Foo") ∷ line (codes "//") ∷ [])
    ≡ codes "Foo"
empty_lines_at_the_ends_go = refl
