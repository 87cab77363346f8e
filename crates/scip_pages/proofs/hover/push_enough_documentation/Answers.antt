use Rattle.std.proofs.Common.{◌∙◌, ◌+◌, ◌++◌, ℕ, List, ap, arith, drop, length, take}
use Rattle.std.specs.List.{flat_map}
use Rattle.scip_pages.specs.Targets.{below}
use Rattle.std.proofs.lemmas.List.{take_all}
use Rattle.scip_pages.proofs.HoverLemmas.{below_more, below_rest, taken_enough}
use Rattle.scip_pages.proofs.hover.push_enough_documentation.Goals as goal

pub returns-then-len-ge-ENOUGH : goal.returns-then-len-ge-ENOUGH
returns-then-len-ge-ENOUGH c = λ front is.
    let documentation : List (List ℕ) = c.args.documentation.now in
    let so_far : List ℕ = front ++ flat_map below (take c.loop-paragraph.paragraph-index documentation) in
    let kept = c.loop-paragraph.invariant front is in
    kept
    ∙ (taken_enough 4097 so_far (flat_map below (drop c.loop-paragraph.paragraph-index documentation))
    (omega (arith, c.if-len-ge-ENOUGH.true, c.len.ensures, ap length kept))
    ∙ ap (take 4097) (below_rest front documentation c.loop-paragraph.paragraph-index))

pub loop-paragraph-preserved : goal.loop-paragraph-preserved
loop-paragraph-preserved c = λ front is.
    let documentation : List (List ℕ) = c.args.documentation.now in
    let at : ℕ = c.loop-paragraph.paragraph-index in
    c.in_ok-push_enough_below.ensures (front ++ flat_map below (take at documentation))
    (c.loop-paragraph.invariant front is)
    ∙ ap (take 4097) (ap (λ (line : List ℕ). (front ++ flat_map below (take at documentation)) ++ below line)
    c.as_str.ensures
    ∙ below_more front documentation at c.paragraph-item.result c.loop-paragraph-test.true c.paragraph-item.is)

pub returns : goal.returns
returns c = λ front is.
    c.loop-paragraph.invariant front is
    ∙ ap (λ (texts : List (List ℕ)). take 4097 (front ++ flat_map below texts))
    (take_all c.loop-paragraph.paragraph-index c.args.documentation.now (omega arith))
