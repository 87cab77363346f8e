use Rattle.diagnostics.proofs.ExcerptMarkLemmas.{some_carets}
use Rattle.std.proofs.Common.{◌∙◌, sym}
use Rattle.diagnostics.proofs.excerpt.push_carets.Goals as goal

pub returns-else-is_empty : goal.returns-else-is_empty
returns-else-is_empty c =
    rw (some_carets c.args.marked.now c.args.most (sym c.is_empty.ensures ∙ c.if-is_empty.false) c.requires)
    c.push_marks.ensures
