use Rattle.std.proofs.Common.{◌∙◌, ◌++◌, ℕ, List, ap, append_assoc, take}
use Rattle.std.specs.Prelude.{codes}
use Rattle.scip_pages.proofs.hover.push_enough_below.Goals as goal

pub returns : goal.returns
returns c = λ front is.
    let feed : List ℕ = codes "\n" in
    c.in_ok-push_enough-2.ensures (front ++ feed) (c.in_ok-push_enough.ensures front is)
    ∙ ap (take 4097) (append_assoc front feed c.as_bytes.result.now
    ∙ ap (λ (line : List ℕ). front ++ (feed ++ line)) c.as_bytes.ensures.value)
