use Rattle.std.proofs.Common.{arith}
use Rattle.option_link.proofs.TableLemmas.{stands_by, within_files}
use Rattle.option_link.proofs.table.declaration_in.Goals as goal

pub returns-then-place-count-clause-stands : goal.returns-then-place-count-clause-stands
returns-then-place-count-clause-stands c = λ d stands.
    omega (arith, within_files c.args.linker.now c.args.place d stands, c.count.ensures, c.if-place-count.true)

pub returns-in-Some-clause-stands : goal.returns-in-Some-clause-stands
returns-in-Some-clause-stands c =
    stands_by c.args.linker.now c.args.place c.in-Some.facts.now c.declarations.result.now c.declaration_with.result
    c.in-Some.ensures c.declarations.ensures c.declaration_with.ensures.listed

pub returns-in-None-clause-stands : goal.returns-in-None-clause-stands
returns-in-None-clause-stands c = λ d stands. c.in-None.ensures stands.facts stands.known
