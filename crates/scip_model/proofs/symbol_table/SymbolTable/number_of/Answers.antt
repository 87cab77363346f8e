use Rattle.std.proofs.Common.{◌++◌, ◌∙◌, ap, subst, Some, List, ℕ, map, arith}
use Rattle.std.specs.String.{string_bytes}
use Rattle.scip_model.specs.Tables.Plans.{Grown, IsNumberOf}
use Rattle.scip_model.proofs.PlanLemmas.{grown_same, grown_behind, own_number, other_number, unsaturated}
use Rattle.scip_model.proofs.symbol_table.SymbolTable.number_of.Goals as goal

pub returns-then-has-clause-grown : goal.returns-then-has-clause-grown
returns-then-has-clause-grown c = grown_same c.args.self.now

pub returns-then-has-clause-number : goal.returns-then-has-clause-number
returns-then-has-clause-number c =
    subst (λ (texts : List (List ℕ)). IsNumberOf texts c.args.text c.in_ok-number.number) c.self.view_is
    (own_number c.self.inside.own (map string_bytes c.self.inside.others.keys) c.args.own c.in_ok-number.number
    c.args.text (c.has.ensures.0 c.if-has.true ∙ ap Some c.as_str.ensures) c.in_ok-number.ensures.number)

pub returns-clause-grown : goal.returns-clause-grown
returns-clause-grown c =
    let own = c.self.inside.own in
    let old = map string_bytes c.self.inside.others.keys in
    let new = map string_bytes c.place_of.new.others.keys in
    subst (λ (texts : List (List ℕ)). Grown texts (own ++ new)) c.self.view_is
    (grown_behind own old new c.in_ok-index.ensures.grown)

pub returns-clause-number : goal.returns-clause-number
returns-clause-number c =
    other_number c.self.inside.own (map string_bytes c.place_of.new.others.keys) c.in_ok-index.index
    c.in_ok-number-2.number c.args.text (c.in_ok-index.ensures.stored ∙ ap Some c.into_string.ensures)
    (omega (
      arith,
      unsaturated _ c.in_ok-number-2.number (c.in_ok-number-2.ensures.number ∙ c.saturating_add.ensures)
          (omega (arith, c.in_ok-number-2.ensures.number, c.in_ok-number-2.ensures.within)),
      c.len.ensures,
    ))
