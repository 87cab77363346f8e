use Rattle.std.proofs.lemmas.Result.{err_from_is_err_and}
use Rattle.scip_build.specs.FactForms.{form_of}
use Rattle.scip_build.proofs.ReadyLemmas.{of_tree, present_at}
use Rattle.scip_build.proofs.BuiltLemmas.{tree_built, if_ok, if_err}
use Rattle.scip_build.proofs.BuildsRefusalLemmas.{of_parsed_file, of_kept}
use Rattle.scip_build.proofs.building.build_in_form.Goals as goal

pub build_whole-requires-clause-tree : goal.build_whole-requires-clause-tree
build_whole-requires-clause-tree g c = λ _ _.
    of_tree c.args.settings.now.faulty c.args.settings.now.dialect (form_of c.args.settings.now)
    (g.C.Chooses.allows c.args.chooser.now)
    c.args.tree.now c.in_ok-all.all.items c.in_ok-all.ensures
    c.fields_stand_in_order.ensures c.file_count.ensures.tree

pub build_kept-requires-clause-tree : goal.build_kept-requires-clause-tree
build_kept-requires-clause-tree g c = λ _ _.
    of_tree c.args.settings.now.faulty c.args.settings.now.dialect (form_of c.args.settings.now)
    (g.C.Chooses.allows c.args.chooser.now)
    c.args.tree.now c.in_ok-all.all.items c.in_ok-all.ensures
    c.fields_stand_in_order.ensures c.file_count.ensures.tree

pub build_kept-requires-clause-present : goal.build_kept-requires-clause-present
build_kept-requires-clause-present g c = λ _ _.
    present_at c.args.settings.now.faulty c.args.settings.now.dialect (form_of c.args.settings.now)
    (g.C.Chooses.allows c.args.chooser.now) c.args.tree.now c.in_ok-all.all.items c.in_ok-all.ensures

pub returns-in-Refuse-clause-built : goal.returns-in-Refuse-clause-built
returns-in-Refuse-clause-built g c =
    if_ok _ _ _ c.build_whole.result c.build_whole.ensures (λ built of. tree_built g.F.DocumentForm.is_kept
    (g.C.Chooses.allows c.args.chooser.now) c.args.settings.now c.args.tree.now c.in_ok-all.all.items _ _ _
    c.in_ok-all.ensures of)

pub returns-in-Skip-clause-built : goal.returns-in-Skip-clause-built
returns-in-Skip-clause-built g c =
    if_ok _ _ _ c.build_kept.result c.build_kept.ensures (λ built of. tree_built g.F.DocumentForm.is_kept
    (g.C.Chooses.allows c.args.chooser.now) c.args.settings.now c.args.tree.now c.in_ok-all.all.items _ _ _
    c.in_ok-all.ensures of)

pub returns-in_err-all-clause-refused : goal.returns-in_err-all-clause-refused
returns-in_err-all-clause-refused g c =
    let p = err_from_is_err_and c.from_residual.result c.from_residual.ensures.1 in
    rw (p.1, p.2)
    (of_parsed_file (g.C.Chooses.allows c.args.chooser.now) c.args.settings.now c.args.tree.now
    c.args.run.now.workers c.in_err-all.field-0.0 c.in_err-all.ensures)

pub returns-in-Skip-clause-refused : goal.returns-in-Skip-clause-refused
returns-in-Skip-clause-refused g c =
    if_err _ _ _ c.build_kept.result c.build_kept.ensures
    (of_kept (g.C.Chooses.allows c.args.chooser.now) c.args.settings.now c.args.tree.now c.args.run.now.workers)
