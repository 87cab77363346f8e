use Rattle.std.proofs.Common.{◌∙◌, ◌++◌, ap, append_assoc, ℕ, List, map}
use Rattle.std.specs.Borrow.{Bor}
use Rattle.std.specs.List.{flat_map}
use Rattle.std.proofs.lemmas.Result.{on_ok_weaker}
use Rattle.scip_pages.specs.Snapshot.{lines_of, note_head, note_line}
use Rattle.scip_pages.proofs.about.push_note.Goals as goal

pub returns : goal.returns
returns c =
    let head = c.args.head.now in
    let before = c.args.before.now in
    let lines = lines_of c.args.shown.now in
    on_ok_weaker c.push_note_lines.result
    (λ e. e
    ∙ ap (λ (ls : List (List ℕ)). c.push_note_head.new.text.items ++ flat_map (note_line before) ls)
    (ap (map (λ (line : Bor (List ℕ)). line.now)) c.as_slice.ensures.value ∙ c.in_ok-lines.ensures)
    ∙ ap (λ (x : List ℕ). x ++ flat_map (note_line before) lines) c.in_ok-push_note_head.ensures
    ∙ append_assoc c.args.text.now.items (note_head head before) (flat_map (note_line before) lines))
    c.push_note_lines.ensures
