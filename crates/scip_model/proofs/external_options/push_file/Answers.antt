use Rattle.scip_model.proofs.ConditionLinkedLemmas.{source-at}
use Rattle.scip_model.proofs.external_options.push_file.Goals as goal

pub push_options-requires-clause-source : goal.push_options-requires-clause-source
push_options-requires-clause-source c =
    source-at c.args.linker.now c.args.file c.is_source.result c.is_source.ensures c.if-not-is_source.false

pub push_options-requires-clause-links : goal.push_options-requires-clause-links
push_options-requires-clause-links c =
    c.requires.linked c.args.file
    (source-at c.args.linker.now c.args.file c.is_source.result c.is_source.ensures c.if-not-is_source.false)
