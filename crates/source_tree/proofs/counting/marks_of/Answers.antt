use Rattle.std.proofs.Common.{◌≡◌, ◌<◌, ◌≤◌, ◌+◌, ◌++◌, true, not, take, drop, length, cond, ap, subst, sym, ◌∙◌, arith}
use Rattle.std.specs.Str.{bytes_eq}
use Rattle.std.proofs.lemmas.List.{length_push}
use Rattle.source_tree.specs.Files.{paths_of}
use Rattle.source_tree.specs.Marks.{has_path, marks_of}
use Rattle.source_tree.proofs.CountingLemmas.{taken_step, marks_more, marks_end}
use Rattle.source_tree.proofs.counting.marks_of.Goals as goal

pub loop-file-preserved : goal.loop-file-preserved
loop-file-preserved c =
    let files = c.args.included.now in
    let file = c.file-item.result in
    let count = c.loop-file.file-index in
    let taken = c.loop-file.taken in
    let marks = c.loop-file.marks.items in
    let mark = c.in_ok-insert.field-0 in
    let within : count < length files = omega arith in
    let items = c.push_reserved.ensures.items in
    record {
      count = ap length items ∙ (length_push marks mark ∙ ap (λ n. n + 1) c.loop-file.invariant.count);
      room = subst (λ n. length files ≤ n) (sym c.push_reserved.ensures.capacity) c.loop-file.invariant.room;
      marked = λ paths given. let old = c.loop-file.invariant.marked paths given in (
        λ path. c.in_ok-insert.ensures.updates.0 (record { ref_ptr = (0, 0); now = path })
            ∙ ap (λ key. cond (bytes_eq key path) true (has_path taken path)) c.path.ensures
            ∙ ap (λ b. cond (bytes_eq file.path path) true b) (old.0 path)
            ∙ sym (taken_step paths files count file path within c.file-item.is),
        subst (λ l. l ++ marks_of (paths ++ paths_of (take (count + 1) files)) (drop (count + 1) files)
            ≡ marks_of paths files) (sym items)
            (marks_more paths marks files count file mark within c.file-item.is
            (c.in_ok-insert.ensures.added ∙ ap (λ p. not (has_path taken p)) c.path.ensures ∙ ap not (old.0 file.path))
            old.1),
      );
    }

pub returns : goal.returns
returns c = λ paths given.
    let files = c.args.included.now in
    let count = c.loop-file.file-index in
    marks_end c.loop-file.marks.items (paths ++ paths_of (take count files)) files count (marks_of paths files)
    (omega arith) (c.loop-file.invariant.marked paths given).1
