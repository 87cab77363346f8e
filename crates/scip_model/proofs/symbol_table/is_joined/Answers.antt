use Rattle.std.proofs.Common.{◌∙◌, ◌++◌, List, ℕ, ap, sym}
use Rattle.std.proofs.lemmas.List.{append_cancel_left}
use Rattle.std.proofs.lemmas.Slice.Eq.{bytes_eq-Decides}
use Rattle.scip_model.proofs.SymbolTableOrderLemmas.{stripped}
use Rattle.scip_model.proofs.symbol_table.is_joined.Goals as goal

pub returns-in-Some : goal.returns-in-Some
returns-in-Some c =
    let front = c.args.front.now in
    let rest = c.args.rest.now in
    let more = c.in-Some.behind.now in
    let is = stripped front c.args.text.now more c.in-Some.ensures.cases in (
      λ same. ap (λ (its : List ℕ). front ++ its) (sym ((bytes_eq-Decides more rest).0 (sym c.eq.ensures ∙ same)))
          ∙ sym is,
      λ joined. c.eq.ensures
          ∙ (bytes_eq-Decides more rest).1 (sym (append_cancel_left front rest more (joined ∙ is))),
    )
