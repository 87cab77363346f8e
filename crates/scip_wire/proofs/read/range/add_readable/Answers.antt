use Rattle.std.proofs.Common.{sym, ◌∙◌}
use Rattle.scip_wire.specs.Reading.{packed_at}
use Rattle.scip_wire.proofs.PackedLemmas.{packed_added, packed_memory, none_added}
use Rattle.scip_wire.proofs.read.range.add_readable.Goals as goal

pub returns-then-are_packed-clause-reads : goal.returns-then-are_packed-clause-reads
returns-then-are_packed-clause-reads c =
    packed_added c.add_packed.result c.args.bytes.now c.args.numbers.now c.add_packed.new.numbers
    (sym c.are_packed.ensures ∙ c.if-are_packed.true) c.add_packed.ensures.reads

pub returns-then-are_packed-clause-memory : goal.returns-then-are_packed-clause-memory
returns-then-are_packed-clause-memory c =
    packed_memory c.add_packed.result c.args.bytes.now c.args.numbers.now c.add_packed.new.numbers
    (sym c.are_packed.ensures ∙ c.if-are_packed.true) c.add_packed.ensures.reads

pub returns-else-are_packed-clause-reads : goal.returns-else-are_packed-clause-reads
returns-else-are_packed-clause-reads c =
    none_added (packed_at c.args.bytes.now) c.args.numbers.now (sym c.are_packed.ensures ∙ c.if-are_packed.false)
