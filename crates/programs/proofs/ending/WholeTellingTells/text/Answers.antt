use Rattle.std.proofs.Common.{sym, ◌∙◌}
use Rattle.std.specs.String.{string_bytes}
use Rattle.programs.proofs.TreeRunOmissionLemmas.{no_text, some_text}
use Rattle.programs.proofs.ending.WholeTellingTells.text.Goals as goal

pub returns-then-omits_nothing : goal.returns-then-omits_nothing
returns-then-omits_nothing c =
    let whole = c.args.self.now in
    no_text whole.closing.explain whole.closing.is_real c.args.tree.now whole.unread.now c.args.told.now
    (sym c.omits_nothing.ensures ∙ c.if-omits_nothing.true)

pub returns : goal.returns
returns c =
    let whole = c.args.self.now in
    some_text whole.closing.explain whole.closing.is_real c.args.tree.now whole.unread.now c.args.told.now
    (string_bytes c.in_ok-whole_text.field-0) (sym c.omits_nothing.ensures ∙ c.if-omits_nothing.false)
    c.in_ok-whole_text.ensures
