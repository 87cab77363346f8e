use Rattle.option_link.specs.Said.{fact_hash}
use Rattle.option_link.specs.Tables.{AddsUpTo}
use Rattle.option_link.proofs.said.list_file.Given as goal

abbrev pub invariant-loop-index : goal.invariant-loop-index
invariant-loop-index l = AddsUpTo (fact_hash l.file) l.file l.facts l.index l.fn.listed.items l.listed.items
