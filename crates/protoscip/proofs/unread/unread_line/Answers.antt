use Rattle.std.proofs.Common.{◌∙◌, ◌++◌, ℕ, List, ap₂}
use Rattle.std.proofs.lemmas.Result.{IfOk-weaker}
use Rattle.protoscip.specs.Lines.{path_line}
use Rattle.protoscip.proofs.unread.unread_line.Goals as goal

pub returns : goal.returns
returns c =
    IfOk-weaker c.path_line.result _ _
    (λ line is. is ∙ ap₂ path_line
    (c.as_str.ensures.value
    ∙ (c.in_ok-push_str.ensures.bytes
    ∙ ap₂ (λ (a b : List ℕ). a ++ b) c.in_ok-skipped.ensures.ok c.shown.ensures))
    c.name.ensures)
    c.path_line.ensures
