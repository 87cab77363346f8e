use Rattle.std.proofs.Common.{◌∙◌, ◌-◌, List, ℕ, ap, map}
use Rattle.std.specs.String.{string_bytes}
use Rattle.scip_model.specs.Tables.Plans.{text_at}
use Rattle.scip_model.proofs.OwnTextJoinedLemmas.{none_past}
use Rattle.scip_model.proofs.PlanLemmas.{text_of_own, text_of_other}
use Rattle.scip_model.proofs.symbol_table.SymbolTable.at.Goals as goal

pub returns-in-Some : goal.returns-in-Some
returns-in-Some c =
    text_of_own c.self.inside.own (map string_bytes c.self.inside.others.keys) c.args.number c.in-Some.symbol
    c.in-Some.ensures
    ∙ ap (λ (texts : List (List ℕ)). text_at texts c.args.number) c.self.view_is

pub returns-in-None : goal.returns-in-None
returns-in-None c =
    let own = c.self.inside.own in
    let others = map string_bytes c.self.inside.others.keys in
    c.other_symbol.ensures
    ∙ (ap (λ (place : ℕ). text_at others place)
    (c.saturating_sub.ensures ∙ ap (λ (n : ℕ). c.args.number - n) c.len.ensures)
    ∙ (text_of_other own others c.args.number (none_past own c.args.number c.in-None.ensures)
    ∙ ap (λ (texts : List (List ℕ)). text_at texts c.args.number) c.self.view_is))
