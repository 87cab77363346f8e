use Rattle.std.proofs.Common.{◌≡◌, ◌∙◌, ◌+◌, ◌++◌, sym, ap, append_assoc, ℕ, List, [], map, drop, get_or}
use Rattle.std.specs.Borrow.{Bor}
use Rattle.std.specs.List.{flat_map, enumerate_from}
use Rattle.scip_query.specs.BySymbol.{entry_in}
use Rattle.std.specs.Prelude.{Option}
use Rattle.scip_records.specs.declared.records.Occurrence.{Occurrence}
use Rattle.scip_records.specs.declared.records.SymbolInformation.{SymbolInformation}
use Rattle.scip_pages.specs.Listed.{listed_on, listed_or_none}
use Rattle.scip_pages.specs.Snapshot.{line_text}
use Rattle.scip_pages.proofs.SnapshotLemmas.{lines_next}
use Rattle.scip_pages.proofs.snapshots.push_lines.Goals as goal

pub loop-number-preserved : goal.loop-number-preserved
loop-number-preserved c =
    let unit = c.args.shown.now.unit in
    let entries : List ℕ → Option SymbolInformation =
    entry_in c.args.shown.now.queries.now c.args.shown.now.number in
    let on : ℕ → List Occurrence = listed_on c.args.table.now in
    let n : ℕ = c.loop-number.number in
    let text : List ℕ = c.loop-number.text.items in
    let none : Bor (List ℕ) = record { ref_ptr = (0, 0); now = [] } in
    let line : List ℕ = (get_or c.args.lines.now n none).now in
    let rest : List ℕ =
    flat_map (λ (x : ℕ × List ℕ). line_text unit entries (on x.0) x.1)
    (enumerate_from (n + 1) (map (λ (t : Bor (List ℕ)). t.now) (drop (n + 1) c.args.lines.now))) in
    let pushed : c.push_line_with_marks.new.text.items ≡ text ++ line_text unit entries (on n) line =
    c.in_ok-push_line_with_marks.ensures
    ∙ ap (λ (l : List Occurrence). text ++ line_text unit entries l c.as_bytes.result.now)
    (ap listed_or_none c.listed.ensures)
    ∙ ap (λ (l : List ℕ). text ++ line_text unit entries (on n) l) c.as_bytes.ensures.value in
    ap (λ (l : List ℕ). l ++ rest) pushed
    ∙ append_assoc text (line_text unit entries (on n) line) rest
    ∙ ap (λ (l : List ℕ). text ++ l)
    (sym (lines_next unit entries on c.args.lines.now n n none c.loop-number-test.true))
    ∙ c.loop-number.invariant
