use Rattle.std.proofs.Common.{◌∙◌, ap, sym, subst, ◌<◌, ℕ, List, length}
use Rattle.std.specs.Borrow.{Bor}
use Rattle.std.specs.List.{filter}
use Rattle.scip_pages.specs.CodeText.{begins_on}
use Rattle.scip_pages.proofs.code_table.table_of.Goals as goal

pub returns : goal.returns
returns c = λ line inside.
    let P : List (Bor (List ℕ)) → Type 0 = λ lines. line < length lines in
    c.in_ok-table.ensures.listed line (subst P (sym c.texts.ensures) inside)
    ∙ ap (filter (begins_on c.args.code.now.occurrences.now line)) (c.deref.ensures.value ∙ c.in_ok-listed.ensures)
