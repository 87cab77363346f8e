use Rattle.diagnostics.proofs.LawWholeLemmas.{short_lines_are_whole, paths_are_whole, quotes_are_whole}
use Rattle.diagnostics.proofs.laws.short_lines_are_whole.Goals as goal

pub returns : goal.returns
returns c = record { lines = short_lines_are_whole; paths = paths_are_whole; quotes = quotes_are_whole }
