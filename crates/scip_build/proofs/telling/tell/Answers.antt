use Rattle.std.proofs.Common.{◌∙◌, ◌++◌, List, map, ap, subst}
use Rattle.std.specs.List.{flat_map}
use Rattle.std.specs.Prelude.{IfOk}
use Rattle.scip_build.specs.declared.omission.Omission.{Omission}
use Rattle.scip_build.specs.Telling.{told_gap, told_uncertain, told_use, AreInOrder}
use Rattle.scip_build.proofs.telling.tell.Goals as goal

pub returns : goal.returns
returns c =
    let uses = flat_map (told_use c.args.numbers.now) c.args.faults.now in
    let more = map (told_uncertain c.args.numbers.now) c.args.uncertain.now in
    let front = c.in_ok-push_uses.ensures ∙ ap (λ (l : List Omission). l ++ uses) c.in_ok-push_imports.ensures in
    let told = c.in_ok-push_uncertain.ensures ∙ ap (λ (l : List Omission). l ++ more) front in
    let gaps = map (told_gap c.args.numbers.now) c.args.option_gaps.now in
    let all = c.in_ok-push_gaps.ensures ∙ ap (λ (l : List Omission). l ++ gaps) told in
    let In : List Omission → Type 0 = λ l. IfOk c.in_order.result (λ once. AreInOrder l once.items) in
    subst In all c.in_order.ensures
