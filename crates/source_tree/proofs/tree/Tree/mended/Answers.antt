use Rattle.std.proofs.Common.{subst}
use Rattle.source_tree.specs.Trees.{IsTree}
use Rattle.source_tree.specs.Marks.{files_of, with_texts}
use Rattle.source_tree.proofs.MendedTreeLemmas.{texts_of_both, mended_view, mended_tree}
use Rattle.source_tree.proofs.tree.Tree.mended.Goals as goal

pub invariant_of-result : goal.invariant_of-result
invariant_of-result c =
    let sources = c.self.inside.sources.items in
    let included = c.self.inside.included.items in
    let texts = c.push_texts-2.new.texts.items in
    let are = texts_of_both sources included c.deref.result.now c.deref-2.result.now c.in_ok-texts.texts.items
    c.push_texts.new.texts.items texts c.in_ok-texts.ensures.items c.deref.ensures.value c.deref-2.ensures.value
    c.in_ok-push_texts.ensures c.in_ok-push_texts-2.ensures in
    mended_tree c.args.self (with_texts texts (files_of sources included))
    (mended_view c.args.self c.self.inside.texts.items texts sources included c.self.view_is are)
    (subst IsTree c.self.view_is c.self.invariant)

pub returns : goal.returns
returns c =
    let sources = c.self.inside.sources.items in
    let included = c.self.inside.included.items in
    let texts = c.push_texts-2.new.texts.items in
    let are = texts_of_both sources included c.deref.result.now c.deref-2.result.now c.in_ok-texts.texts.items
    c.push_texts.new.texts.items texts c.in_ok-texts.ensures.items c.deref.ensures.value c.deref-2.ensures.value
    c.in_ok-push_texts.ensures c.in_ok-push_texts-2.ensures in
    mended_view c.args.self c.self.inside.texts.items texts sources included c.self.view_is are
