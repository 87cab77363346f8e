use Rattle.std.proofs.Common.{◌≡◌, subst, ℕ, List}
use Rattle.std.specs.Prelude.{Option}
use Rattle.comment_texts.specs.Comments.{dedented}
use Rattle.comment_texts.proofs.comment.dedented.Goals as goal

pub returns-in-Some : goal.returns-in-Some
returns-in-Some c =
    subst (λ (behind : Option (List ℕ)). c.without_blanks.result.now
    ≡ dedented c.args.stars c.args.plains behind c.args.line.now)
    c.in-Some.ensures c.without_blanks.ensures

pub returns-in-None : goal.returns-in-None
returns-in-None c =
    subst (λ (behind : Option (List ℕ)). c.without_blanks-in-None.result.now
    ≡ dedented c.args.stars c.args.plains behind c.args.line.now)
    c.in-None.ensures c.without_blanks-in-None.ensures
