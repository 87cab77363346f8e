use Rattle.std.proofs.Common.{◌∙◌}
use Rattle.scip_join.proofs.NameLemmas.{among}
use Rattle.scip_join.proofs.names.is_among.Goals as goal

pub returns : goal.returns
returns c = λ sorted.
    c.is_ok.ensures.value ∙ among c.args.sorted.now c.args.text.now c.binary_search.result sorted
    c.binary_search.ensures.bound c.binary_search.ensures.position
