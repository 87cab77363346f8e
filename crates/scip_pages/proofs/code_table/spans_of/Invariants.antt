use Rattle.std.proofs.Common.{◌≡◌, take}
use Rattle.scip_pages.specs.CodeText.{spans_of}
use Rattle.scip_pages.proofs.code_table.spans_of.Given as goal

-- what the occurrences so far mark
abbrev pub invariant-loop-number : goal.invariant-loop-number
invariant-loop-number l = l.spans.items ≡ spans_of l.line.unit l.occurrences l.line.text (take l.number-index l.marking)
