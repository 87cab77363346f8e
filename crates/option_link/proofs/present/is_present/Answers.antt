use Rattle.option_link.proofs.LoopLemmas.{always_so}
use Rattle.option_link.proofs.SoughtLemmas.{present_by}
use Rattle.option_link.proofs.ToldLemmas.{source_present}
use Rattle.option_link.proofs.present.is_present.Goals as goal

pub returns-then-is_source : goal.returns-then-is_source
returns-then-is_source c =
    always_so _ (source_present c.args.linker.now c.args.file c.is_source.result c.if-is_source.true
    c.is_source.ensures)

pub returns : goal.returns
returns c =
    present_by c.args.linker.now c.linked.ensures.own c.args.file c.path_of.result.now c.has_path.result
    c.path_of.ensures c.has_path.ensures
