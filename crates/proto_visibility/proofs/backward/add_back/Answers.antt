use Rattle.std.proofs.Common.{◌<◌, length, get_or, refl, sym, ◌∙◌, subst, arith}
use Rattle.std.specs.Prelude.{slice_set}
use Rattle.std.proofs.lemmas.List.{take_all}
use Rattle.std.proofs.lemmas.Option.{slice_get_read}
use Rattle.proto_visibility.proofs.BackwardLemmas.{AreAdded, added_none, added_more, one_added}
use Rattle.proto_visibility.proofs.PassLemmas.{length_set}
use Rattle.proto_visibility.proofs.backward.add_back.Goals as goal

pub loop-number-init : goal.loop-number-init
loop-number-init c = record { size = refl; added = added_none c.args.back.now.items c.args.to }

pub loop-number-preserved : goal.loop-number-preserved
loop-number-preserved c =
    let from = c.args.from.now in
    let k = c.loop-number.number-index in
    let now = c.loop-number.back.items in
    let one = get_or from k 0 in
    let inside = subst (λ n. one < n) (sym c.loop-number.invariant.size) (c.requires k 0 (omega arith)) in
    let stands = slice_get_read now (length now) one c.index_mut.result.now refl inside c.index_mut.ensures.value in
    record {
      size = length_set now one c.add.new.self ∙ c.loop-number.invariant.size;
      added = added_more c.args.back.now.items now (slice_set now one c.add.new.self) from k c.args.to (omega arith)
          (one_added now one c.args.to c.index_mut.result.now c.add.new.self stands c.in_ok-add.ensures.public
          c.in_ok-add.ensures.plain) c.loop-number.invariant.added;
    }

pub returns-clause-steps : goal.returns-clause-steps
returns-clause-steps c =
    subst (λ xs. AreAdded c.args.back.now.items c.loop-number.back.items xs c.args.to)
    (take_all c.loop-number.number-index c.args.from.now (omega arith)) c.loop-number.invariant.added
