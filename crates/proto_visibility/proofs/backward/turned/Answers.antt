use Rattle.std.proofs.Common.{◌≡◌, true, false, Some, length, refl, ◌∙◌, subst, arith}
use Rattle.std.specs.List.{slice_get}
use Rattle.std.proofs.lemmas.Option.{slice_get_read}
use Rattle.proto_visibility.proofs.BackwardLemmas.{AreAdded, turned_none, turned_more, turned_all}
use Rattle.proto_visibility.proofs.SeeingLemmas.{numbers_within}
use Rattle.proto_visibility.proofs.backward.turned.Goals as goal

pub loop-number-init : goal.loop-number-init
loop-number-init c = record {
  size = c.in_ok-back.ensures.size;
  turned = turned_none c.args.table.now c.in_ok-back.back.items c.in_ok-back.ensures.none;
}

pub add_back-requires : goal.add_back-requires
add_back-requires c =
    let table = c.args.table.now in
    let number = c.loop-number.number in
    let steps = c.index-table-number.result in
    let stands : slice_get table number ≡ Some steps =
    slice_get_read table (length table) number steps refl (omega arith) c.index-table-number.is in
    numbers_within table number steps false (length c.loop-number.back.items) c.as_slice.result.now c.requires stands
    c.loop-number.invariant.size c.as_slice.ensures.value

pub add_back-requires-in-loop-number : goal.add_back-requires-in-loop-number
add_back-requires-in-loop-number c =
    let table = c.args.table.now in
    let number = c.loop-number.number in
    let steps = c.index-table-number.result in
    let stands : slice_get table number ≡ Some steps =
    slice_get_read table (length table) number steps refl (omega arith) c.index-table-number.is in
    numbers_within table number steps true (length c.add_back.new.back.items) c.as_slice-in-loop-number.result.now
    c.requires stands (c.in_ok-add_back.ensures.size ∙ c.loop-number.invariant.size)
    c.as_slice-in-loop-number.ensures.value

pub loop-number-preserved : goal.loop-number-preserved
loop-number-preserved c =
    let table = c.args.table.now in
    let number = c.loop-number.number in
    let steps = c.index-table-number.result in
    let stands : slice_get table number ≡ Some steps =
    slice_get_read table (length table) number steps refl (omega arith) c.index-table-number.is in
    record {
      size = c.in_ok-add_back-2.ensures.size ∙ (c.in_ok-add_back.ensures.size ∙ c.loop-number.invariant.size);
      turned = turned_more table number steps c.loop-number.back.items c.add_back.new.back.items
          c.add_back-in-loop-number.new.back.items stands
          (subst (λ xs. AreAdded c.loop-number.back.items c.add_back.new.back.items xs number)
          c.as_slice.ensures.value c.in_ok-add_back.ensures.steps)
          (subst (λ xs. AreAdded c.add_back.new.back.items c.add_back-in-loop-number.new.back.items xs number)
          c.as_slice-in-loop-number.ensures.value c.in_ok-add_back-2.ensures.steps)
          c.loop-number.invariant.turned;
    }

pub returns : goal.returns
returns c = turned_all c.args.table.now c.loop-number.back.items c.loop-number.number c.loop-number.invariant.size
    (omega arith) (omega arith) c.loop-number.invariant.turned
