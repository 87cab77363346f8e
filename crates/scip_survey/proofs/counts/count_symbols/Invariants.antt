use Rattle.std.proofs.Common.{◌≡◌, take}
use Rattle.scip_survey.specs.Counts.{counted_in, symbols_in}
use Rattle.scip_survey.proofs.counts.count_symbols.Given as goal

-- so many so far
abbrev pub invariant-loop-document : goal.invariant-loop-document
invariant-loop-document l = l.count ≡ counted_in symbols_in (take l.document-index l.documents)
