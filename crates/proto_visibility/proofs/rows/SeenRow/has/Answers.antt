use Rattle.std.proofs.Common.{◌↔◌, IsTrue, List, ℕ, subst, sym}
use Rattle.std.specs.List.{Contains}
use Rattle.std.proofs.lemmas.Bool.{false≢true}
use Rattle.proto_visibility.proofs.FileOrderLemmas.{has_by_place, has_no_place}
use Rattle.proto_visibility.proofs.rows.SeenRow.has.Goals as goal

pub returns-in-Some : goal.returns-in-Some
returns-in-Some c =
    let by = has_by_place c.self.inside.order.now c.self.inside.runs.now c.args.number c.rank_of.result
    c.rank_of.ensures
    c.in-Some.place c.in-Some.is in
    subst (λ (xs : List ℕ). IsTrue c.has.result ↔ Contains xs c.args.number) c.self.view_is (
      λ t. by.0 (c.has.ensures.0 t),
      λ there. c.has.ensures.1 (by.1 there),
    )

pub returns-in-None : goal.returns-in-None
returns-in-None c = (
  λ t. absurd (false≢true t),
  λ there. absurd (has_no_place c.self.inside.order.now c.self.inside.runs.now c.args.number c.rank_of.result
      c.rank_of.ensures c.in-None.is (subst (λ (xs : List ℕ). Contains xs c.args.number) (sym c.self.view_is) there)),
)
