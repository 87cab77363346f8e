use Rattle.std.proofs.Common.{◌∙◌, ◌++◌, ◌∷◌, [], List, ap, append_assoc, map, rules, subst, sym}
use Rattle.std.specs.Vec.Iter.{into_iter_items}
use Rattle.source_tree.specs.Files.{SourceFile}
use Rattle.source_files.specs.Taken.{AddsTaken}
use Rattle.source_files.specs.Unread.{unread_of}
use Rattle.source_files.proofs.TakenLemmas.{more_added, none_added}
use Rattle.source_files.proofs.taken.take_each.Goals as goal

pub loop-file-init : goal.loop-file-init
loop-file-init c =
    let unread = map unread_of c.args.unread.now.items in record {
      all = search rules;
      added = subst (λ (taken : List SourceFile). AddsTaken c.args.leaves_out [] [] taken unread unread)
          (sym c.new-taken.ensures.items) (none_added c.args.leaves_out [] unread);
    }

pub loop-file-preserved : goal.loop-file-preserved
loop-file-preserved c =
    let rest = into_iter_items c.next.new.self in
    let ys = c.loop-file.yielded in
    let file = c.in-Some.file in
    let front = c.loop-file.invariant.all ∙ ap (λ l. ys ++ l) c.in-Some.ensures.steps.0 in record {
      all = front ∙ sym (append_assoc ys (file ∷ []) rest);
      added = more_added c.args.leaves_out ys (file ∷ []) [] c.loop-file.taken.items c.take_one.new.taken.items
          (map unread_of c.args.unread.now.items) (map unread_of c.loop-file.unread.items)
          (map unread_of c.take_one.new.unread.items) c.loop-file.invariant.added c.in_ok-take_one.ensures;
    }
