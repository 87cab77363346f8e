use Rattle.std.proofs.Common.{◌∙◌, ◌++◌, ◌∷◌, [], ap, sym, map, string_bytes, append_assoc, rules}
use Rattle.std.specs.Vec.Iter.{into_iter_items}
use Rattle.source_files.specs.Exclusions.{none_stays}
use Rattle.source_files.proofs.ExclusionLemmas.{more_stay}
use Rattle.source_files.proofs.excluding.left_of.Goals as goal

pub loop-one-init : goal.loop-one-init
loop-one-init g c = record { all = search rules; stay = rw (c.new-left.ensures.items) none_stays }

pub loop-one-preserved : goal.loop-one-preserved
loop-one-preserved g c =
    let rest = into_iter_items c.next.new.self in
    let ys = c.loop-one.yielded in
    let one = c.in-Some.one in
    let front = c.loop-one.invariant.all ∙ ap (λ l. ys ++ l) c.in-Some.ensures.steps.0 in record {
      all = front ∙ sym (append_assoc ys (one ∷ []) rest);
      stay = more_stay g.N.Named.name_of (map string_bytes c.args.patterns.now) c.args.folder.now ys (one ∷ [])
          c.loop-one.left.items _ c.loop-one.invariant.stay c.in_ok-keep_one.ensures;
    }
