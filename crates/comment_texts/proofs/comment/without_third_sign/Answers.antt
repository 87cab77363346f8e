use Rattle.std.proofs.Common.{◌∙◌, ◌<◌, sym, ap, subst, ℕ, List, length, get_or, arith}
use Rattle.comment_texts.proofs.CutLemmas.{cut_sign, sign_ascii}
use Rattle.comment_texts.proofs.comment.without_third_sign.Goals as goal

pub range_from-requires : goal.range_from-requires
range_from-requires c = λ some. cut_sign c.args.text.now c.utf8.text
    (omega (arith, ap length c.as_bytes.ensures.value, c.in-len1-up.len_at_least))
    (subst (λ (bytes : List ℕ). get_or bytes 0 0 < 128) c.as_bytes.ensures.value
    (sign_ascii _ _ c.requires (sym c.is_third_sign.ensures ∙ c.if-is_third_sign.true)))
