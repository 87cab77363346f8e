use Rattle.std.proofs.Common.{subst}
use Rattle.std.proofs.lemmas.Result.{err_from_is_err_and}
use Rattle.scip_build.specs.Documents.{asks_in}
use Rattle.scip_build.specs.Making.{MayRefuseMaking}
use Rattle.scip_build.specs.Forms.{IsLinkedAndMade}
use Rattle.scip_build.specs.Placing.{kept_at}
use Rattle.scip_build.proofs.BuiltLemmas.{whole_built}
use Rattle.scip_build.proofs.building.build_whole.Goals as goal

pub make_whole-requires-clause-tree : goal.make_whole-requires-clause-tree
make_whole-requires-clause-tree g c = λ _ _. rw c.as_slice.ensures.value c.requires.tree

pub returns-in_err-made : goal.returns-in_err-made
returns-in_err-made g c =
    let p = err_from_is_err_and c.from_residual.result c.from_residual.ensures.1 in
    let fault = c.in_err-made.field-0.0 in
    rw (p.1, p.2) (subst (λ rs. MayRefuseMaking c.args.settings.now.duplicates
    (asks_in c.args.settings.now) rs c.args.run.now.workers fault)
    c.as_slice.ensures.value c.in_err-made.ensures)

pub returns : goal.returns
returns g c =
    let made = c.in_ok-made.made in
    let Is = kept_at c.args.settings.now.at g.F.DocumentForm.is_kept in
    whole_built Is c.args.all.items c.args.settings.now made _ c.requires.refuse c.new.ensures
    (subst (λ rs. IsLinkedAndMade Is rs c.args.settings.now made) c.as_slice.ensures.value
    c.in_ok-made.ensures)
