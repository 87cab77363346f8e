use Rattle.std.proofs.Common.{◌≡◌, ◌∙◌, ap, sym, ℕ, List, map}
use Rattle.std.specs.Prelude.{Option, None}
use Rattle.std.specs.Borrow.{Bor}
use Rattle.scip_records.specs.declared.records.Occurrence.{Occurrence}
use Rattle.scip_records.specs.declared.records.SymbolInformation.{SymbolInformation}
use Rattle.scip_query.specs.BySymbol.{entry_in}
use Rattle.scip_pages.specs.declared.columns.ColumnUnit.{ColumnUnit}
use Rattle.scip_pages.specs.Snapshot.{beginning, misfit, text_of, text_or_misfit}
use Rattle.scip_pages.proofs.snapshots.snapshot_of_lines.Goals as goal

pub returns-in_ok-text_of-in-None-clause-gives : goal.returns-in_ok-text_of-in-None-clause-gives
returns-in_ok-text_of-in-None-clause-gives c =
    let unit : ColumnUnit = c.args.shown.now.unit in
    let entries : List ℕ → Option SymbolInformation =
    entry_in c.args.shown.now.queries.now c.args.shown.now.number in
    let os : List Occurrence = c.args.occurrences.now in
    let shown : List (Bor (List ℕ)) → List (List ℕ) = λ lines. map (λ (l : Bor (List ℕ)). l.now) lines in
    let lines : List (Bor (List ℕ)) = c.args.lines.now.lines in
    let fit : misfit unit (shown lines) os ≡ None =
    ap (λ (u : ColumnUnit). misfit u (shown lines) os) (sym c.requires) ∙ sym c.misfit.ensures ∙ c.in-None.is in
    let text : text_of unit entries (beginning os) (shown lines) ≡ c.in_ok-text_of-in-None.field-0.items =
    ap (λ (ls : List (Bor (List ℕ))). text_of unit entries (beginning os) (shown ls)) (sym c.texts.ensures)
    ∙ sym c.in_ok-text_of-in-None.ensures in
    ap (text_or_misfit (text_of unit entries (beginning os) (shown lines))) fit
    ∙ ap (λ (t : List ℕ). text_or_misfit t None) text
