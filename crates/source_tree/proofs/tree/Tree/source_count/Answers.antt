use Rattle.std.proofs.Common.{◌≡◌, length, subst, arith}
use Rattle.source_tree.specs.Trees.{IsSourceCount}
use Rattle.source_tree.specs.Marks.{files_of}
use Rattle.source_tree.proofs.FilePlaceLemmas.{count_of}
use Rattle.source_tree.proofs.MendedTreeLemmas.{source_count_with}
use Rattle.source_tree.proofs.tree.Tree.source_count.Goals as goal

pub returns : goal.returns
returns c =
    let sources = c.self.inside.sources.items in
    let included = c.self.inside.included.items in
    let count : length sources ≡ c.len.result = omega arith in
    subst (IsSourceCount c.args.self.now) count
    (subst (λ files. IsSourceCount files (length sources)) c.self.view_is
    (source_count_with c.self.inside.texts.items (files_of sources included) (length sources)
    (count_of sources included)))
