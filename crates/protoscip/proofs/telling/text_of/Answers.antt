use Rattle.std.proofs.Common.{◌∙◌, ◌++◌, ℕ, List, ap, ap₂, append_assoc}
use Rattle.protoscip.specs.ToldLines.{counts_line_with}
use Rattle.protoscip.specs.Unread.{unread_lines}
use Rattle.protoscip.proofs.telling.text_of.Goals as goal

pub returns : goal.returns
returns c =
    let paths = c.args.telling.now.unread.now in
    let unread = unread_lines c.args.telling.now.explain paths in
    let lines = c.in_ok-push_beside.ensures in (
      lines.0,
      lines.1,
      c.in_ok-push_str.ensures.bytes
          ∙ (ap₂ (λ (a b : List ℕ). a ++ b)
          (lines.2 ∙ ap (λ (t : List ℕ). t ++ lines.0)
          (c.in_ok-push_unread.ensures ∙ ap (λ (t : List ℕ). t ++ unread) c.new-text.ensures.bytes))
          (c.as_str.ensures.value ∙ c.in_ok-numbers.ensures)
          ∙ append_assoc unread lines.0 (counts_line_with c.args.sources paths c.args.told.now)),
    )
