use Rattle.std.proofs.Common.{arith}
use Rattle.option_link.proofs.LoopLemmas.{ok_as}
use Rattle.option_link.proofs.MarkLemmas.{none_marked}
use Rattle.option_link.proofs.marks.no_marks.Goals as goal

pub returns : goal.returns
returns c =
    ok_as c.vec.result _ _ (λ v made. none_marked v.items 65536 (omega arith) (made (λ y same. same)))
    c.vec.ensures.items_if_clones_equal
