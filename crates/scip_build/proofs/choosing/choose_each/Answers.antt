use Rattle.proto_decl.specs.Values.{Seen}
use Rattle.index_hooks.specs.declared.choice.Choice.{Choice}
use Rattle.proto_decl.specs.declared.declaration.Declaration.{Declaration}
use Rattle.scip_build.specs.ParsedFiles.{seen_of}
use Rattle.scip_build.proofs.ChosenLemmas.{one_more}
use Rattle.scip_build.proofs.choosing.choose_each.Goals as goal

pub loop-declaration-preserved : goal.loop-declaration-preserved
loop-declaration-preserved g c =
    let allows : Seen → Choice → Type 0 = g.C.Chooses.allows c.args.chooser.now in
    let may_come : Declaration → Choice → Type 0 = λ declaration choice. allows (seen_of declaration) choice in
    rw c.in_ok-push.ensures.items
    (one_more may_come c.args.declarations.now c.loop-declaration.choices.items c.loop-declaration.declaration-index
    c.declaration-item.result c.in_ok-choice_for.field-0
    c.loop-declaration-test.true c.declaration-item.is c.loop-declaration.invariant c.in_ok-choice_for.ensures)
