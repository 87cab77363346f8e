use Rattle.std.proofs.Common.{arith}
use Rattle.std.proofs.lemmas.List.{nil_from_length}
use Rattle.proto_visibility.proofs.SearchLemmas.{cleared}
use Rattle.proto_visibility.proofs.search.Search.start.Goals as goal

pub invariant_of-self : goal.invariant_of-self
invariant_of-self c =
    cleared c.loop-number.self-inside.marks.items c.loop-number.self-inside.numbers.items c.pop.new.self.items
    c.in_default.ensures.items c.loop-number.invariant.stands
    (nil_from_length c.pop.new.self.items (omega (arith, c.pop.new.self.ok.0, c.in_default.ensures.cases.1)))
