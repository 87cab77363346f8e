use Rattle.scip_records.proofs.FromPartsLemmas.{front_more}
use Rattle.scip_records.proofs.from_parts.entries_of.Goals as goal

pub numbers-preserved : goal.numbers-preserved
numbers-preserved g c =
    front_more (g.D.DocumentParts.document c.args.document.now).symbols c.numbers.list.items c.push.new.self.items
    c.numbers.number c.entry.result c.in_ok-made.made c.numbers.invariant c.entry.ensures c.in_ok-made.ensures
    c.in_ok-push.ensures.items
