use Rattle.option_link.proofs.RuleLemmas.{each_field}
use Rattle.option_link.proofs.laws.each_field_is_named.Goals as goal

pub returns : goal.returns
returns c = each_field
