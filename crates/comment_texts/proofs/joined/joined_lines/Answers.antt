use Rattle.std.proofs.Common.{◌∙◌, ◌++◌, ◌∷◌, ap, sym, ℕ, List, string_bytes}
use Rattle.comment_texts.proofs.JoinLemmas.{joined_more}
use Rattle.comment_texts.proofs.joined.joined_lines.Goals as goal

pub loop-line-preserved : goal.loop-line-preserved
loop-line-preserved c =
    let old : List ℕ = string_bytes c.loop-line.joined in
    joined_more 10 c.args.first.now c.line-item.result c.args.others.now c.loop-line.line-index c.line-item.result old
    (string_bytes c.push_next_line.new.joined) c.loop-line-test.true (sym c.line-item.is) c.loop-line.invariant
    (c.in_ok-push_next_line.ensures ∙ ap (λ (line : List ℕ). old ++ 10 ∷ line) c.as_str-in-loop-line.ensures)
