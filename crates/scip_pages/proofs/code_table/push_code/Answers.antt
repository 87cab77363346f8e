use Rattle.std.proofs.Common.{◌∙◌, ap, sym, ℕ, List, map, length, ◌++◌}
use Rattle.std.specs.Borrow.{Bor}
use Rattle.std.specs.List.{flat_map, range_with_len}
use Rattle.std.proofs.lemmas.List.{length-map}
use Rattle.scip_pages.specs.CodeText.{line_by, beginning}
use Rattle.scip_pages.specs.ListedNumbers.{listed_on}
use Rattle.scip_pages.proofs.CodeTextLemmas.{same_lines}
use Rattle.scip_pages.proofs.code_table.push_code.Goals as goal

pub returns : goal.returns
returns c =
    let code = c.args.code.now in
    let lines : List (List ℕ) = map (λ (l : Bor (List ℕ)). l.now) code.lines.now.lines in
    let page : List ℕ = c.args.page.now.items in
    let by : (ℕ → List ℕ) → ℕ → List ℕ =
    line_by code.lines.now.unit code.occurrences.now code.links.now lines in
    let on : ℕ → List ℕ = listed_on c.deref.result.now in
    c.in_ok-push_all_numbered.ensures
    ∙ ap (λ (ns : List ℕ). page ++ flat_map (by on) ns) (c.deref-2.ensures.value ∙ c.in_ok-numbers.ensures
    ∙ ap (λ (ls : List (Bor (List ℕ))). range_with_len 1 (length ls)) c.texts.ensures)
    ∙ ap (λ (l : List ℕ). page ++ l) (same_lines code.lines.now.unit code.occurrences.now code.links.now lines on
    (length code.lines.now.lines)
    (λ line inside. ap (λ t. listed_on t line) c.deref.ensures.value ∙ c.in_ok-table.ensures line inside))
    ∙ ap (λ (n : ℕ). page ++ flat_map (by (beginning code.occurrences.now)) (range_with_len 1 n))
    (sym (length-map code.lines.now.lines (λ (l : Bor (List ℕ)). l.now)))
