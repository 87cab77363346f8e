use Rattle.std.proofs.Common.{◌≡◌, ◌≤◌, ◌+◌, ◌++◌, ◌∷◌, [], Some, None, length, get_or, ap, ◌∙◌, sym, subst, arith}
use Rattle.std.specs.List.{slice_get}
use Rattle.std.proofs.lemmas.Option.{slice_get-get_or}
use Rattle.std.proofs.lemmas.List.{length_push}
use Rattle.proto_visibility.proofs.OptionLemmas.{AreAnswersOf, answers_more}
use Rattle.proto_visibility.proofs.options.answers.Goals as goal

pub loop-index-preserved : goal.loop-index-preserved
loop-index-preserved c =
    let firsts = c.args.firsts.now in
    let lasts = c.args.lasts.now in
    let known = c.loop-index.known.items in
    let index = c.loop-index.index in
    let answer = c.answer.result in
    let count = c.loop-index.invariant.count in
    let items : c.push_reserved.new.self.items ≡ known ++ answer ∷ [] = c.push_reserved.ensures.items in
    let at_first = subst (λ k. slice_get firsts k ≡ Some (get_or firsts index None)) (sym count)
    (slice_get-get_or firsts index None (omega arith)) in
    let at_last = subst (λ k. slice_get lasts k ≡ Some (get_or lasts index None)) (sym count)
    (slice_get-get_or lasts index None (omega (arith, c.requires))) in
    record {
      count = ap length items ∙ (length_push known answer ∙ ap (λ n. n + 1) count);
      room = subst (λ n. length firsts ≤ n) (sym c.push_reserved.ensures.capacity) c.loop-index.invariant.room;
      each = subst (AreAnswersOf firsts lasts c.args.built_in) (sym items)
          (answers_more firsts lasts c.args.built_in known (get_or firsts index None) (get_or lasts index None)
          answer at_first at_last c.answer.ensures c.loop-index.invariant.each);
    }

pub returns : goal.returns
returns c = record { one_each = omega (arith, c.loop-index.invariant.count); each = c.loop-index.invariant.each }
