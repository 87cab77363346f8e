use Rattle.std.proofs.Common.{sym, ◌∙◌}
use Rattle.option_link.proofs.PathLemmas.{inside_by}
use Rattle.option_link.proofs.paths.is_inside.Goals as goal

pub returns : goal.returns
returns c =
    inside_by c.args.inner.now.path c.parts.result.0.now c.args.outer.now.path c.parts-2.result.0.now
    c.parts.result.1.now c.parts-2.result.1.now c.are_with_last.result
    (sym c.path-inner_path.ensures ∙ c.parts.ensures) (sym c.path-outer_path.ensures ∙ c.parts-2.ensures)
    c.are_with_last.ensures
