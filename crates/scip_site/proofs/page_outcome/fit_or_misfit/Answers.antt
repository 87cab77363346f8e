use Rattle.std.proofs.Common.{◌≡◌, ◌∙◌, ap, sym, ℕ, List, map, Ok}
use Rattle.std.specs.Borrow.{Bor}
use Rattle.scip_pages.specs.declared.columns.ColumnUnit.{ColumnUnit}
use Rattle.scip_pages.specs.Snapshot.{lines_of, misfit}
use Rattle.scip_site.specs.Reading.{fit_or_misfit}
use Rattle.scip_site.proofs.page_outcome.fit_or_misfit.Goals as goal

pub returns-in-Some : goal.returns-in-Some
returns-in-Some c =
    let d = c.args.document.now in
    let source : List ℕ = c.args.source.now in
    let made = c.in_ok-lines.lines in
    let lines : map (λ (l : Bor (List ℕ)). l.now) made.lines ≡ lines_of source =
    ap (map (λ (l : Bor (List ℕ)). l.now)) (c.in_ok-lines.ensures.lines ∙ c.deref.ensures.value)
    ∙ c.in_ok-texts.ensures in
    let due : c.misfit.result ≡ misfit c.args.unit (lines_of source) d.occurrences =
    c.misfit.ensures
    ∙ ap (λ (u : ColumnUnit). misfit u (map (λ (l : Bor (List ℕ)). l.now) made.lines) c.as_slice.result.now)
    c.in_ok-lines.ensures.unit
    ∙ ap (λ (ls : List (List ℕ)). misfit c.args.unit ls c.as_slice.result.now) lines
    ∙ ap (misfit c.args.unit (lines_of source)) c.as_slice.ensures in
    sym (ap (fit_or_misfit source) (sym due ∙ c.in-Some.is))

pub returns : goal.returns
returns c =
    let d = c.args.document.now in
    let source : List ℕ = c.args.source.now in
    let made = c.in_ok-lines.lines in
    let lines : map (λ (l : Bor (List ℕ)). l.now) made.lines ≡ lines_of source =
    ap (map (λ (l : Bor (List ℕ)). l.now)) (c.in_ok-lines.ensures.lines ∙ c.deref.ensures.value)
    ∙ c.in_ok-texts.ensures in
    let due : c.misfit.result ≡ misfit c.args.unit (lines_of source) d.occurrences =
    c.misfit.ensures
    ∙ ap (λ (u : ColumnUnit). misfit u (map (λ (l : Bor (List ℕ)). l.now) made.lines) c.as_slice.result.now)
    c.in_ok-lines.ensures.unit
    ∙ ap (λ (ls : List (List ℕ)). misfit c.args.unit ls c.as_slice.result.now) lines
    ∙ ap (misfit c.args.unit (lines_of source)) c.as_slice.ensures in
    ap (λ (s : List ℕ). Ok s) c.in_ok-copy_of-in-None.ensures
    ∙ sym (ap (fit_or_misfit source) (sym due ∙ c.in-None.is))
