use Rattle.std.proofs.Common.{◌∙◌, ◌++◌, ap, ℕ, List}
use Rattle.std.proofs.lemmas.Result.{on_ok_weaker}
use Rattle.comment_texts.proofs.OtherLineLemmas.{as_other_lines}
use Rattle.comment_texts.proofs.cleaned.push_others.Goals as goal

pub returns : goal.returns
returns c =
    let same = as_other_lines c.args.others.now c.star_indentation-stars.result c.plain_indentation-plains.result
    c.star_indentation-stars.ensures c.plain_indentation-plains.ensures in
    on_ok_weaker c.push_dedented.result
    (λ pushed. pushed ∙ ap (λ (texts : List (List ℕ)). c.args.lines.now.items ++ texts) same)
    c.push_dedented.ensures
