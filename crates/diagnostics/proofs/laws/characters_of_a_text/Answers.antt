use Rattle.diagnostics.proofs.LawWholeLemmas.{are_of_the_text}
use Rattle.diagnostics.proofs.laws.characters_of_a_text.Goals as goal

pub returns : goal.returns
returns c = are_of_the_text
