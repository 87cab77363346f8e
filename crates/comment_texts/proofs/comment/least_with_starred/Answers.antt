use Rattle.std.proofs.Common.{◌≡◌, refl, subst, ℕ, List}
use Rattle.std.specs.Prelude.{Option}
use Rattle.std.specs.List.{fold}
use Rattle.std.specs.Option.{option_to_list}
use Rattle.comment_texts.specs.Steps.{least_with}
use Rattle.comment_texts.proofs.comment.least_with_starred.Goals as goal

pub returns-in-Some : goal.returns-in-Some
returns-in-Some c =
    subst (λ (behind : Option (List ℕ)). c.least_with.result ≡ fold least_with c.args.least (option_to_list behind))
    c.in-Some.ensures c.least_with.ensures

pub returns-in-None : goal.returns-in-None
returns-in-None c =
    subst (λ (behind : Option (List ℕ)). c.args.least ≡ fold least_with c.args.least (option_to_list behind))
    c.in-None.ensures refl
