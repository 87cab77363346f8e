use Rattle.std.proofs.Common.{◌∙◌, ◌<◌, sym, ap, subst, ℕ, List, length, get_or, arith}
use Rattle.comment_texts.proofs.CutLemmas.{cut_sign, star_ascii}
use Rattle.comment_texts.proofs.comment.behind_star.Goals as goal

pub range_from-requires : goal.range_from-requires
range_from-requires c = λ some. cut_sign c.behind_blanks-behind.result.now c.behind_blanks-behind.utf8
    (omega (arith, ap length c.as_bytes.ensures.value, c.in-len1-up.len_at_least))
    (subst (λ (bytes : List ℕ). get_or bytes 0 0 < 128) c.as_bytes.ensures.value
    (star_ascii _ (sym c.is_star.ensures ∙ c.if-is_star.true)))
