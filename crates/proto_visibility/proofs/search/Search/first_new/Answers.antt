use Rattle.std.proofs.Common.{◌<◌, false, All, get_or, sym, ◌∙◌, subst, arith}
use Rattle.std.proofs.lemmas.List.{get_or_read}
use Rattle.proto_visibility.specs.Tables.Visits.{Found, IsNewAt}
use Rattle.proto_visibility.proofs.SearchLemmas.{new_at}
use Rattle.proto_visibility.proofs.search.Search.first_new.Goals as goal

pub returns-then-not-index : goal.returns-then-not-index
returns-then-not-index c =
    let numbers = c.args.numbers.now in
    let index = c.loop-index.index in
    let marks = c.self.inside.marks.items in
    let inside = subst (λ (f : Found). All (λ number. number < f.files) numbers) (sym c.self.view_is) c.requires in
    subst (λ (f : Found). IsNewAt f numbers index) c.self.view_is
    (new_at marks c.self.inside.numbers.items numbers index c.self.invariant (omega arith) inside
    (sym (get_or_read marks (get_or numbers index 0) c.index.result.now
    (inside index 0 (omega arith)) c.index.ensures false)
    ∙ c.if-not-index.true))
