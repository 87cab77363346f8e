use Rattle.std.proofs.Common.{◌≡◌, ◌≤◌, ◌↔◌, ℕ, List, Some, length, get_or, ap, sym, ◌∙◌, subst, arith}
use Rattle.std.specs.List.{Contains, slice_get}
use Rattle.std.proofs.lemmas.Option.{slice_get-get_or}
use Rattle.proto_visibility.specs.Tables.ImportTables.{HasStep, AreFollowed, IsFront, IsLedTo}
use Rattle.proto_visibility.specs.Tables.Visits.{Found}
use Rattle.proto_visibility.proofs.BackwardLemmas.{all_closed, closed_visit, ends_next, ends_all}
use Rattle.proto_visibility.proofs.backward.first_ends.Goals as goal

pub follow_from-requires-clause-followed : goal.follow_from-requires-clause-followed
follow_from-requires-clause-followed c =
    let old = c.loop-end.search.numbers in
    let end = get_or c.args.ends.now c.loop-end.end-index 0 in
    subst (λ xs. AreFollowed (HasStep c.args.back.now) xs (length c.found-from.result.now))
    (sym (ap (λ (f : Found). f.numbers) c.in_ok-visit.ensures))
    (closed_visit (HasStep c.args.back.now) old end (length c.found-from.result.now)
    (ap length c.found-from.ensures.value) c.loop-end.invariant.followed)

pub loop-end-preserved : goal.loop-end-preserved
loop-end-preserved c =
    let back = c.args.back.now in
    let ends = c.args.ends.now in
    let k = c.loop-end.end-index in
    let end = get_or ends k 0 in
    let old = c.loop-end.search.numbers in
    let numbers = c.follow_from.new.search.numbers in
    let visited = ap (λ (f : Found). f.numbers) c.in_ok-visit.ensures in
    record {
      files = c.in_ok-follow_from.ensures.files
          ∙ (ap (λ (f : Found). f.files) c.in_ok-visit.ensures ∙ c.loop-end.invariant.files);
      followed = all_closed (HasStep back) c.visit.new.self.numbers numbers c.in_ok-follow_from.ensures.led;
      ends = ends_next back ends k end old numbers c.loop-end.firsts.items c.set_behind.new.firsts.items
          (length c.found-from.result.now) (slice_get-get_or ends k 0 (omega arith))
          (ap length c.found-from.ensures.value) c.found.ensures.distinct
          (subst (λ xs. IsFront xs numbers) visited c.in_ok-follow_from.ensures.front)
          (subst (λ xs. (other : ℕ) → Contains numbers other ↔ IsLedTo (HasStep back) xs other) visited
          c.in_ok-follow_from.ensures.led) c.set_behind.ensures.size
          (subst (λ (xs : List ℕ). (index number : ℕ) → length c.found-from.result.now ≤ index
          → slice_get xs index ≡ Some number → slice_get c.set_behind.new.firsts.items number ≡ Some (Some end))
          c.found.ensures.value c.set_behind.ensures.set)
          (subst (λ (xs : List ℕ). (number : ℕ) → ((index : ℕ) → length c.found-from.result.now ≤ index
          → slice_get xs index ≡ Some number → ⊥)
          → slice_get c.set_behind.new.firsts.items number ≡ slice_get c.loop-end.firsts.items number)
          c.found.ensures.value c.set_behind.ensures.kept) c.loop-end.invariant.ends;
    }

pub returns : goal.returns
returns c = ends_all c.args.back.now c.args.ends.now c.loop-end.end-index c.loop-end.search.numbers
    c.loop-end.firsts.items (omega arith) c.loop-end.invariant.ends
