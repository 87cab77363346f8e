use Rattle.std.proofs.Common.{◌∙◌, ◌++◌, ◌∷◌, [], ap, sym, append_assoc, rules}
use Rattle.std.specs.Vec.Iter.{into_iter_items}
use Rattle.source_files.proofs.ReadingLemmas.{reads_more, reads_none}
use Rattle.source_files.proofs.reading.add_each.Goals as goal

pub loop-read-init : goal.loop-read-init
loop-read-init c = record { all = search rules; added = reads_none c.args.below.now }

pub loop-read-preserved : goal.loop-read-preserved
loop-read-preserved c =
    let rest = into_iter_items c.next.new.self in
    let ys = c.loop-read.yielded in
    let read = c.in-Some.read in
    let front = c.loop-read.invariant.all ∙ ap (λ l. ys ++ l) c.in-Some.ensures.steps.0 in record {
      all = front ∙ sym (append_assoc ys (read ∷ []) rest);
      added = reads_more ys (read ∷ []) c.args.below.now c.loop-read.below c.add_one.new.below
          c.loop-read.invariant.added c.in_ok-add_one.ensures;
    }
