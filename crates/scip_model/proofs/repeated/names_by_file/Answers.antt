use Rattle.std.proofs.Common.{◌∙◌, ◌<◌, ◌↔◌, List, ℕ, get_or, sym, subst, arith}
use Rattle.std.specs.Prelude.{Contains}
use Rattle.std.specs.List.Sorted.{IsStrictlyIncreasing}
use Rattle.std.proofs.lemmas.List.Elements.{Contains-get_or}
use Rattle.std.proofs.lemmas.Option.{slice_get-get_or}
use Rattle.proto_visibility.specs.Reaches.{IsReachable}
use Rattle.scip_model.proofs.RepeatedLemmas.{none-taken, one-file-more, all-taken, nowhere-yet, is-there}
use Rattle.scip_model.proofs.repeated.names_by_file.Goals as goal

pub take_file-requires-clause-file : goal.take_file-requires-clause-file
take_file-requires-clause-file c =
    let items = c.as_slice-number-items.result.now in
    let number = get_or items c.loop-number.number-index 0 in
    is-there c.args.linker.now number ((c.in_ok-reachable.ensures.reachable number).0
    (subst (λ (l : List ℕ). Contains l number) c.as_slice-number-items.ensures.value
    (Contains-get_or items c.loop-number.number-index 0 c.loop-number-test.true)))

pub take_file-requires-clause-list : goal.take_file-requires-clause-list
take_file-requires-clause-list c =
    let items = c.as_slice-number-items.result.now in
    let number = get_or items c.loop-number.number-index 0 in
    subst (λ n. number < n) (sym c.loop-number.invariant.size)
    (is-there c.args.linker.now number ((c.in_ok-reachable.ensures.reachable number).0
    (subst (λ (l : List ℕ). Contains l number) c.as_slice-number-items.ensures.value
    (Contains-get_or items c.loop-number.number-index 0 c.loop-number-test.true))))

pub loop-number-init : goal.loop-number-init
loop-number-init c = record {
  size = c.in_ok-repeated.ensures.size ∙ c.count.ensures;
  taken = none-taken c.args.linker.now c.as_slice-number-items.result.now c.new-holders.result _
      c.in_ok-repeated.ensures.none (nowhere-yet c.new-holders.result c.new-holders.ensures.empty);
}

pub loop-number-preserved : goal.loop-number-preserved
loop-number-preserved c =
    let files = c.args.linker.now in
    let items = c.as_slice-number-items.result.now in
    let index = c.loop-number.number-index in
    let number = get_or items index 0 in
    let reachable : (n : ℕ) → Contains items n ↔ IsReachable files n =
    subst (λ (l : List ℕ). (n : ℕ) → Contains l n ↔ IsReachable files n) (sym c.as_slice-number-items.ensures.value)
    c.in_ok-reachable.ensures.reachable in
    record {
      size = c.in_ok-take_file.ensures.size ∙ c.loop-number.invariant.size;
      taken = one-file-more files items
          (subst IsStrictlyIncreasing (sym c.as_slice-number-items.ensures.value) c.in_ok-reachable.ensures.rising)
          reachable index number (slice_get-get_or items index 0 c.loop-number-test.true)
          ((reachable number).0 (Contains-get_or items index 0 c.loop-number-test.true))
          c.loop-number.holders c.take_file.new.holders _ _ c.loop-number.invariant.taken
          c.in_ok-take_file.ensures.taken;
    }

pub returns : goal.returns
returns c = λ number name.
    let files = c.args.linker.now in
    let items = c.as_slice-number-items.result.now in
    all-taken files items c.loop-number.number-index c.loop-number.holders _
    (omega (arith, c.loop-number-test.false))
    (subst (λ (l : List ℕ). (n : ℕ) → Contains l n ↔ IsReachable files n) (sym c.as_slice-number-items.ensures.value)
    c.in_ok-reachable.ensures.reachable) c.loop-number.invariant.taken number name
