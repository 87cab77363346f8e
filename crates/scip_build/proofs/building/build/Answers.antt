use Rattle.std.proofs.Common.{◌∙◌, subst, sym}
use Rattle.scip_records.specs.declared.records.Index.{Index}
use Rattle.scip_build.specs.Builds.{IsBuilt}
use Rattle.scip_build.proofs.KeptLemmas.{whole}
use Rattle.scip_build.proofs.building.build.Goals as goal

pub returns-clause-built : goal.returns-clause-built
returns-clause-built g c =
    let built = c.in_ok-built.built in
    let of = c.in_ok-built.ensures.built in
    let Of : Index → Type 0 =
    λ index. IsBuilt (g.C.Chooses.allows c.args.chooser.now) c.args.settings.now c.args.tree.now
    (record { index = index; choices = built.choices; told = built.told }) in
    subst Of (sym (c.index_of-index.ensures ∙ whole of.index built.parts of.are)) of.built
