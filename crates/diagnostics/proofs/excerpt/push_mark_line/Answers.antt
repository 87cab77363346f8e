use Rattle.std.proofs.Common.{◌∙◌, ap, ap₂, ℕ, take, ◌++◌}
use Rattle.std.specs.Prelude.{codes, length, nat_lt}
use Rattle.std.specs.String.{string_bytes}
use Rattle.std.proofs.lemmas.Result.{on_ok_weaker}
use Rattle.diagnostics.specs.Excerpts.{carets, last_of, parts_in, room, shown_marked, where_cut}
use Rattle.diagnostics.specs.Shown.{marks, shown_text}
use Rattle.diagnostics.proofs.ExcerptMarkLemmas.{mark_line_is}
use Rattle.diagnostics.proofs.excerpt.push_mark_line.Goals as goal

pub returns : goal.returns
returns c =
    let parts = parts_in c.args.before.now c.args.marked.now c.args.behind.now in
    let text = string_bytes c.args.out.now in
    let next = string_bytes c.push_where_cut.new.out in
    let spaces = string_bytes c.push_spaces.new.out in
    on_ok_weaker c.push_carets.result (λ h.
    h ∙ ap (λ (r : ℕ). spaces ++ carets (shown_text (take r parts.marked))) c.room-room.ensures
    ∙ mark_line_is text (carets (shown_marked parts)) (nat_lt (room parts) (length parts.before))
    (last_of (room parts) parts.before) next spaces
    (c.in_ok-push_where_cut.ensures
    ∙ ap₂ (λ (r n : ℕ). text ++ where_cut (nat_lt r n) (codes "   ")) c.room-room.ensures
    c.count_characters.ensures.count)
    (c.in_ok-push_spaces.ensures
    ∙ ap (λ (r : ℕ). next ++ marks (codes " ") (shown_text (last_of r parts.before))) c.room-room.ensures))
    c.push_carets.ensures
