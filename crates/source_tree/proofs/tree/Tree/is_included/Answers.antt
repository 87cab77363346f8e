use Rattle.std.proofs.Common.{◌≡◌, ◌∙◌, ◌<◌, ◌+◌, Some, refl, subst, ap, length, arith}
use Rattle.std.specs.List.{slice_get}
use Rattle.std.specs.Option.{option_map}
use lib.Dec.{leb}
use Rattle.source_tree.specs.Files.{TreeFile}
use Rattle.source_tree.specs.Marks.{files_of}
use Rattle.source_tree.proofs.FilePlaceLemmas.{is_included_at, length-files}
use Rattle.source_tree.proofs.MendedTreeLemmas.{length-with_texts, same_at}
use Rattle.source_tree.proofs.tree.Tree.is_included.Goals as goal

pub returns : goal.returns
returns c =
    let sources = c.self.inside.sources.items in
    let included = c.self.inside.included.items in
    let count : length sources ≡ c.len.result = omega arith in
    let size = ap length c.self.view_is in
    let whole = length-files sources included in
    let texts = c.self.inside.texts.items in
    let plain = length-with_texts texts (files_of sources included) in
    let within : c.args.number < length sources + length included = omega arith in
    subst (λ n. option_map (λ (file : TreeFile). file.is_included) (slice_get c.args.self.now c.args.number)
    ≡ Some (leb n c.args.number)) count
    (subst (λ files. option_map (λ (file : TreeFile). file.is_included) (slice_get files c.args.number)
    ≡ Some (leb (length sources) c.args.number)) c.self.view_is
    (same_at (λ (file : TreeFile). file.is_included) (λ text file. refl) texts (files_of sources included) c.args.number
    ∙ is_included_at sources included c.args.number within))
