use Rattle.scip_symbol.proofs.ReadingAfterLemmas.{stripped}
use Rattle.scip_symbol.proofs.reader.after.Goals as goal

pub returns : goal.returns
returns c = stripped c.args.front.now c.args.text.now c.strip_prefix.result c.strip_prefix.ensures.cases
