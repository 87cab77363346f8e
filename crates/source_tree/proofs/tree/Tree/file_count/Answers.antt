use Rattle.std.proofs.Common.{ap, length, arith}
use Rattle.source_tree.specs.Marks.{files_of}
use Rattle.source_tree.proofs.FilePlaceLemmas.{length-files}
use Rattle.source_tree.proofs.MendedTreeLemmas.{length-with_texts}
use Rattle.source_tree.proofs.tree.Tree.file_count.Goals as goal

pub returns-clause-count : goal.returns-clause-count
returns-clause-count c =
    let sources = c.self.inside.sources.items in
    let included = c.self.inside.included.items in
    let size = ap length c.self.view_is in
    let whole = length-files sources included in
    let plain = length-with_texts c.self.inside.texts.items (files_of sources included) in
    omega arith
