-- Texts of outlines.
use Rattle.std.proofs.Common.{◌≡◌, ℕ, zero, suc, ◌+◌, List, [], ◌∷◌, ◌++◌, refl, sym, ◌∙◌, ap, append_assoc, add-one}
use Rattle.scip_query.specs.Commands.{space}
use Rattle.scip_query.specs.MoreAnswers.{indent}
use Rattle.scip_query.specs.AnswerText.{line_end}

-- the pieces of a line, one after another
pub regroup : (old a b kind symbol : List ℕ)
    → old ++ (a ++ (space ++ (b ++ (space ++ (kind ++ (space ++ (symbol ++ line_end)))))))
    ≡ old ++ (a ++ space ++ b ++ space ++ kind ++ space ++ symbol ++ line_end)
regroup old a b kind symbol = simp append_assoc

-- a level more
indent_more : (depth : ℕ) → indent (suc depth) ≡ indent depth ++ 32 ∷ 32 ∷ []
indent_more zero = refl
indent_more (suc depth) = ap (λ l. 32 ∷ 32 ∷ l) (indent_more depth)

pub indented : (old so_far : List ℕ) (depth : ℕ) → so_far ≡ old ++ indent depth
    → so_far ++ 32 ∷ 32 ∷ [] ≡ old ++ indent (depth + 1)
indented old so_far depth far =
    ap (λ l. l ++ 32 ∷ 32 ∷ []) far ∙ append_assoc old (indent depth) (32 ∷ 32 ∷ [])
    ∙ ap (λ l. old ++ l) (sym (indent_more depth)) ∙ ap (λ n. old ++ indent n) (sym (add-one depth))
