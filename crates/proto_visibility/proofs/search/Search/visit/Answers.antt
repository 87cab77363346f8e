use Rattle.std.proofs.Common.{◌<◌, false, sym, ◌∙◌, subst}
use Rattle.std.proofs.lemmas.List.{get_or_read}
use Rattle.proto_visibility.specs.Tables.Visits.{Found}
use Rattle.proto_visibility.proofs.SearchLemmas.{marked_more}
use Rattle.proto_visibility.proofs.search.Search.visit.Goals as goal

pub invariant_of-self-2 : goal.invariant_of-self-2
invariant_of-self-2 c =
    let within = subst (λ (f : Found). c.args.number < f.files) (sym c.self.view_is) c.requires in
    let unmarked = sym (get_or_read c.self.inside.marks.items c.args.number c.index.result.now within c.index.ensures
    false) ∙ c.if-index.false in
    rw c.in_ok-push.ensures.items
    (marked_more c.self.inside.marks.items c.self.inside.numbers.items c.args.number c.self.invariant within
    unmarked)
