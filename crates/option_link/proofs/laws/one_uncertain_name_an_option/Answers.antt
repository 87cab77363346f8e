use Rattle.option_link.proofs.DoubtLemmas.{one_uncertain}
use Rattle.option_link.proofs.laws.one_uncertain_name_an_option.Goals as goal

pub returns : goal.returns
returns c = one_uncertain
