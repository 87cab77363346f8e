use Rattle.std.proofs.Common.{[], true, cond, ap, sym, ◌∙◌, arith}
use Rattle.std.specs.Str.{bytes_eq}
use Rattle.std.proofs.lemmas.List.{take_all}
use Rattle.source_tree.specs.Files.{paths_of}
use Rattle.source_tree.specs.Marks.{is_taken, has_path}
use Rattle.source_tree.proofs.CountingLemmas.{taken_step}
use Rattle.source_tree.proofs.counting.taken_paths.Goals as goal

pub loop-source-preserved : goal.loop-source-preserved
loop-source-preserved c = λ path.
    let files = c.args.sources.now in
    let file = c.source-item.result in
    let count = c.loop-source.source-index in
    c.in_ok-insert.ensures.updates.0 (record { ref_ptr = (0, 0); now = path })
    ∙ ap (λ key. cond (bytes_eq key path) true (has_path c.loop-source.taken path)) c.path.ensures
    ∙ ap (λ b. cond (bytes_eq file.path path) true b) (c.loop-source.invariant path)
    ∙ sym (taken_step [] files count file path (omega arith) c.source-item.is)

pub returns : goal.returns
returns c = λ path. c.loop-source.invariant path
    ∙ ap (λ files. is_taken (paths_of files) path)
    (take_all c.loop-source.source-index c.args.sources.now (omega arith))
