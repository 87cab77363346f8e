use Rattle.option_link.specs.Tables.{AddsUpTo, name_hash}
use Rattle.option_link.proofs.table.list_file.Given as goal

abbrev pub invariant-loop-index : goal.invariant-loop-index
invariant-loop-index l = AddsUpTo name_hash l.file l.declarations l.index l.fn.listed.items l.listed.items
