use Rattle.proto_visibility.proofs.SearchLemmas.{marked_at_first}
use Rattle.proto_visibility.proofs.search.Search.new.Goals as goal

pub invariant_of-result : goal.invariant_of-result
invariant_of-result c = rw c.new.ensures.items (marked_at_first c.loop.marks.items c.loop.invariant.clear)
