use Rattle.std.proofs.Common.{inl}
use Rattle.scip_model.specs.Tables.KnownParts.{known_part}
use Rattle.scip_model.proofs.KnownPartLemmas.{one_more}
use Rattle.scip_model.proofs.known_parts.KnownParts.keep.Goals as goal

pub returns-then-slot-len : goal.returns-then-slot-len
returns-then-slot-len c = λ known there.
    one_more c.args.self.now.slots.items c.slot_of-slot.result (known_part c.args.place c.args.part c.args.number) known
    there

pub returns-else-slot-len : goal.returns-else-slot-len
returns-else-slot-len c = λ known there. inl there
