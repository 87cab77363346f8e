use Rattle.std.proofs.Common.{◌∙◌, ◌++◌, ap, ℕ, List, arith}
use Rattle.std.specs.Prelude.{codes}
use Rattle.std.specs.Fmt.{decimal}
use Rattle.scip_pages.proofs.DecimalLemmas.{line_mark_behind}
use Rattle.scip_pages.proofs.code.push_line_mark.Goals as goal

pub returns : goal.returns
returns c =
    let number : ℕ = c.args.number in
    c.in_ok-extend_from_slice-2.ensures.items ∙ ap (λ (l : List ℕ). l ++ codes "\"></a>") c.in_ok-push_decimal.ensures
    ∙ ap (λ (l : List ℕ). (l ++ decimal number) ++ codes "\"></a>") c.in_ok-extend_from_slice.ensures.items
    ∙ line_mark_behind c.args.page.now.items number (omega arith)
