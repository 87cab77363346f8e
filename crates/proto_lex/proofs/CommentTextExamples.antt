-- Worked texts of comments, by computation.
use Rattle.std.proofs.Common.{◌≡◌, refl, List, ℕ, [], ◌∷◌, ◌++◌}
use Rattle.std.specs.Prelude.{codes}
use Rattle.proto_lex.specs.CommentTexts.{comment_text}
use Rattle.proto_lex.specs.declared.token.CommentKind.TheVariants.{Line, Block}

one_space_goes : comment_text Line (codes "//  Two.") ≡ codes " Two."
one_space_goes = refl

no_space : comment_text Line (codes "//Two. ") ≡ codes "Two. "
no_space = refl

one_return_goes : comment_text Line (codes "// a" ++ 13 ∷ 13 ∷ []) ≡ codes "a" ++ 13 ∷ []
one_return_goes = refl

return_alone : comment_text Line (codes "//" ++ 13 ∷ []) ≡ []
return_alone = refl

slashes_alone : comment_text Line (codes "//") ≡ []
slashes_alone = refl

block_unchanged : comment_text Block (codes "/* a * b */") ≡ codes " a * b "
block_unchanged = refl

empty_block : comment_text Block (codes "/**/") ≡ []
empty_block = refl
