use Rattle.std.proofs.Common.{◌≡◌, refl, subst, ℕ, List}
use Rattle.std.specs.Prelude.{Option}
use Rattle.std.specs.List.{fold}
use Rattle.comment_texts.specs.Comments.{unless_starred}
use Rattle.comment_texts.specs.Steps.{least_with}
use Rattle.comment_texts.proofs.comment.least_with_plain.Goals as goal

pub returns-in-Some : goal.returns-in-Some
returns-in-Some c =
    subst (λ (behind : Option (List ℕ)). c.args.least
    ≡ fold least_with c.args.least (unless_starred behind c.args.line.now))
    c.in-Some.ensures refl

pub returns-in-None : goal.returns-in-None
returns-in-None c =
    subst (λ (behind : Option (List ℕ)). c.least_with.result
    ≡ fold least_with c.args.least (unless_starred behind c.args.line.now))
    c.in-None.ensures c.least_with.ensures
