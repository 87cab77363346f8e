use Rattle.protoscip.proofs.UseLawLemmas.{each_use_has_a_target}
use Rattle.protoscip.proofs.laws.each_use_has_a_target.Goals as goal

pub returns : goal.returns
returns c = each_use_has_a_target c.prefixes_are_entities.ensures
