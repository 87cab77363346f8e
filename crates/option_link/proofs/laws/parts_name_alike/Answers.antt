-- Names in options of a part name what they name in the whole.
use Rattle.option_link.proofs.PartTargetLemmas.{parts_name_alike}
use Rattle.option_link.proofs.laws.parts_name_alike.Goals as goal

pub returns : goal.returns
returns c = parts_name_alike
