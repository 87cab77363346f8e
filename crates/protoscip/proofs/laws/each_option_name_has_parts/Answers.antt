use Rattle.protoscip.proofs.UseLawLemmas.{each_option_name_has_parts}
use Rattle.protoscip.proofs.laws.each_option_name_has_parts.Goals as goal

pub returns : goal.returns
returns c = each_option_name_has_parts c.prefixes_are_entities.ensures c.facts_are_filled.ensures.names
