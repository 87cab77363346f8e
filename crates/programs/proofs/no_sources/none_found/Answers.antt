use Rattle.std.proofs.Common.{arith}
use Rattle.programs.specs.NoSources.{some_found}
use Rattle.programs.proofs.NoSourceLemmas.{nothing_unasked, said_asked}
use Rattle.programs.proofs.no_sources.none_found.Goals as goal

pub returns-then-not-asked : goal.returns-then-not-asked
returns-then-not-asked g c =
    nothing_unasked (g.F.LookAgain.passes c.args.files.now c.args.root.now) c.args.root.now c.args.tree.now
    c.args.asked c.if-not-asked.true

pub returns-then-source_count-gt0 : goal.returns-then-source_count-gt0
returns-then-source_count-gt0 g c = some_found c.source_count.ensures (omega (arith, c.if-source_count-gt0.true))

pub returns : goal.returns
returns g c =
    said_asked (g.F.LookAgain.passes c.args.files.now c.args.root.now) c.args.root.now c.args.tree.now c.args.asked
    c.source_count.result _ c.in_ok-passed.passed c.if-not-asked.false c.source_count.ensures
    (omega (arith, c.if-source_count-gt0.false)) c.in_ok-passed.ensures c.in_ok-no_sources_line.ensures
