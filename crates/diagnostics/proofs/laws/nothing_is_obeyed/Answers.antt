use Rattle.diagnostics.proofs.LawTameLemmas.{places_are_tame, quotes_are_tame, excerpts_are_tame}
use Rattle.diagnostics.proofs.laws.nothing_is_obeyed.Goals as goal

pub returns : goal.returns
returns c = record { places = places_are_tame; quotes = quotes_are_tame; excerpts = excerpts_are_tame }
