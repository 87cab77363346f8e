use Rattle.scip_model.proofs.TargetLemmas.{finds_found}
use Rattle.scip_model.proofs.targets.target_of.Goals as goal

pub returns : goal.returns
returns c =
    finds_found c.args.linker.now c.args.file c.args.type_use.now c.resolve.result c.found_by.result
    c.resolve.ensures.target c.resolve.ensures.refused c.found_by.ensures
