use Rattle.std.proofs.Common.{◌∙◌, ap, Some}
use Rattle.command_line.proofs.values.optional_text_of.Goals as goal

pub returns-in_ok-from_str-in-Some : goal.returns-in_ok-from_str-in-Some
returns-in_ok-from_str-in-Some c = ap Some c.in_ok-from_str-in-Some.ensures.ok ∙ c.in-Some.ensures

pub returns-in-None : goal.returns-in-None
returns-in-None c = c.in-None.ensures
