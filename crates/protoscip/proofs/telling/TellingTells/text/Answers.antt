use Rattle.std.proofs.Common.{sym, ◌∙◌}
use Rattle.std.specs.String.{string_bytes}
use Rattle.protoscip.proofs.ToldLineOmissionLemmas.{nothing, something}
use Rattle.protoscip.proofs.telling.TellingTells.text.Goals as goal

pub returns-then-omits_nothing : goal.returns-then-omits_nothing
returns-then-omits_nothing c =
    nothing c.args.self.now.explain c.args.tree.now c.args.self.now.unread.now c.args.told.now
    (sym c.omits_nothing.ensures ∙ c.if-omits_nothing.true)

pub returns : goal.returns
returns c =
    something c.args.self.now.explain c.args.tree.now c.args.self.now.unread.now c.args.told.now
    (string_bytes c.in_ok-told_text_with.field-0) (sym c.omits_nothing.ensures ∙ c.if-omits_nothing.false)
    c.in_ok-told_text_with.ensures
