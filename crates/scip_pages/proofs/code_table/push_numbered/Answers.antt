use Rattle.std.proofs.Common.{◌≡◌, ◌∙◌, ap, ℕ, List, map, length, ◌-◌}
use Rattle.std.specs.Borrow.{Bor}
use Rattle.std.proofs.lemmas.Result.{on_ok_weaker}
use Rattle.scip_records.specs.declared.records.Occurrence.{Occurrence}
use Rattle.scip_pages.specs.declared.columns.ColumnUnit.{ColumnUnit}
use Rattle.scip_pages.specs.declared.runs.Span.{Span}
use Rattle.scip_pages.specs.declared.runs.Run.{Run}
use Rattle.scip_pages.specs.declared.code.Link.{Link}
use Rattle.scip_pages.specs.Runs.{marks_of, runs_of}
use Rattle.scip_pages.specs.Code.{line_code, pieces_of}
use Rattle.scip_pages.specs.CodeText.{lead, line_at, spans_of, pieces_with}
use Rattle.basics.proofs.AppendedLemmas.{more_by}
use Rattle.scip_pages.proofs.code_table.push_numbered.Goals as goal

pub returns : goal.returns
returns c =
    let code = c.args.code.now in
    let number : ℕ = c.args.number in
    let marking : List ℕ = c.args.marking.now in
    let occurrences : List Occurrence = code.occurrences.now in
    let links : List Link = code.links.now in
    let unit : ColumnUnit = code.lines.now.unit in
    let lines : List (List ℕ) = map (λ (l : Bor (List ℕ)). l.now) code.lines.now.lines in
    let line : List ℕ = line_at lines (number - 1) in
    let here : List ℕ = c.text-text.result.now in
    let same : c.line-line.result.text ≡ line =
    c.line-line.ensures.text ∙ ap (line_at lines) c.saturating_sub.ensures in
    let shown : here ≡ line = c.text-text.ensures ∙ same in
    let marked : List Span = spans_of unit occurrences line marking in
    let spans : c.deref.result.now ≡ marked =
    c.deref.ensures.value ∙ c.in_ok-spans.ensures
    ∙ ap (λ (u : ColumnUnit). spans_of u occurrences c.line-line.result.text marking) c.line-line.ensures.unit
    ∙ ap (λ (l : List ℕ). spans_of unit occurrences l marking) same in
    let runs : c.deref-2.result.now ≡ runs_of (marks_of marked (length line)) =
    c.deref-2.ensures.value ∙ c.in_ok-runs.ensures
    ∙ ap (λ (ss : List Span). runs_of (marks_of ss (length here))) spans
    ∙ ap (λ (l : List ℕ). runs_of (marks_of marked (length l))) shown in
    on_ok_weaker c.push_line.result
    (λ e. more_by c.args.page.now.items (lead number)
    (line_code number (pieces_with unit occurrences links line marking))
    c.in_ok-push_lead.ensures e
    (ap (λ (rs : List Run). line_code number (pieces_of links here rs)) runs
    ∙ ap (λ (l : List ℕ). line_code number (pieces_of links l (runs_of (marks_of marked (length line))))) shown))
    c.push_line.ensures
