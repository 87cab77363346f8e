use Rattle.option_link.proofs.RuleLemmas.{each_options_message}
use Rattle.option_link.proofs.laws.each_source_has_its_options_message.Goals as goal

pub returns : goal.returns
returns c = each_options_message
