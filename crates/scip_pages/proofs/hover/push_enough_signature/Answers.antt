use Rattle.std.proofs.Common.{◌∙◌, ap, sym, take}
use Rattle.scip_pages.proofs.HoverLemmas.{empty_below, some_below}
use Rattle.scip_pages.proofs.hover.push_enough_signature.Goals as goal

pub returns-then-is_empty : goal.returns-then-is_empty
returns-then-is_empty c = λ front is.
    is ∙ ap (take 4097) (sym (empty_below front c.args.signature.now (sym c.is_empty.ensures ∙ c.if-is_empty.true)))

pub returns : goal.returns
returns c = λ front is.
    c.in_ok-push_enough_below.ensures front is
    ∙ ap (take 4097) (sym (some_below front c.args.signature.now (sym c.is_empty.ensures ∙ c.if-is_empty.false)))
