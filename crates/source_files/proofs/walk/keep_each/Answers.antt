use Rattle.std.proofs.Common.{◌∙◌, ◌++◌, ◌∷◌, [], ap, sym, subst, map, append_assoc, rules}
use Rattle.std.specs.Vec.Iter.{into_iter_items}
use Rattle.std.proofs.lemmas.List.{map-append}
use Rattle.source_files.specs.WalkSteps.{KeepsMore, had_of}
use Rattle.source_files.proofs.WalkLemmas.{none_kept, more_kept}
use Rattle.source_files.proofs.walk.keep_each.Goals as goal

pub loop-found-init : goal.loop-found-init
loop-found-init c = record { all = search rules; kept = none_kept c.args.walk.now }

pub loop-found-preserved : goal.loop-found-preserved
loop-found-preserved c =
    let rest = into_iter_items c.next.new.self in
    let ys = c.loop-found.yielded in
    let found = c.in-Some.found in
    let front = c.loop-found.invariant.all ∙ ap (λ l. ys ++ l) c.in-Some.ensures.steps.0 in record {
      all = front ∙ sym (append_assoc ys (found ∷ []) rest);
      kept = subst (λ l. KeepsMore l c.args.walk.now c.keep_one.new.walk) (sym (map-append had_of ys (found ∷ [])))
          (more_kept (map had_of ys) (had_of found ∷ []) c.args.walk.now c.loop-found.walk c.keep_one.new.walk
          c.loop-found.invariant.kept c.in_ok-keep_one.ensures);
    }
