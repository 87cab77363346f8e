use Rattle.std.proofs.Common.{arith}
use Rattle.source_tree.proofs.MendedTreeLemmas.{texts_push}
use Rattle.source_tree.proofs.tree.push_texts.Goals as goal

pub loop-file-preserved : goal.loop-file-preserved
loop-file-preserved c = λ before are.
    texts_push before c.args.files.now c.loop-file.texts.items c.push_text.new.texts.items c.loop-file.file-index
    c.file-item.result (omega arith) c.file-item.is (c.loop-file.invariant before are) c.in_ok-push_text.ensures
