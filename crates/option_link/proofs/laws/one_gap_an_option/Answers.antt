use Rattle.option_link.proofs.GapLemmas.{one_gap}
use Rattle.option_link.proofs.laws.one_gap_an_option.Goals as goal

pub returns : goal.returns
returns c = one_gap
