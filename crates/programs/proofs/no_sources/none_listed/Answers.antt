use Rattle.std.proofs.Common.{arith}
use Rattle.programs.specs.NoSources.{some_listed}
use Rattle.programs.proofs.NoSourceLemmas.{list_said, list_unasked_of}
use Rattle.programs.proofs.no_sources.none_listed.Goals as goal

pub returns-then-not-asked : goal.returns-then-not-asked
returns-then-not-asked c = list_unasked_of c.args.file.now c.args.tree.now c.args.asked c.if-not-asked.true

pub returns-then-source_count-ge1 : goal.returns-then-source_count-ge1
returns-then-source_count-ge1 c = some_listed c.source_count.ensures (omega (arith, c.if-source_count-ge1.true))

pub returns : goal.returns
returns c =
    list_said c.args.file.now c.args.tree.now c.args.asked c.source_count.result _ c.if-not-asked.false
    c.source_count.ensures (omega (arith, c.if-source_count-ge1.false)) c.in_ok-line.ensures
