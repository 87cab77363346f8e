use Rattle.std.proofs.Common.{◌++◌, ◌∙◌, ap, append_assoc, ℕ, List, length}
use Rattle.std.specs.Borrow.{Bor}
use Rattle.std.specs.List.{flat_map}
use Rattle.std.specs.String.{string_bytes}
use Rattle.std.proofs.lemmas.Result.{on_ok_weaker}
use Rattle.scip_records.specs.declared.records.SymbolInformation.{SymbolInformation}
use Rattle.scip_query.specs.AnswerText.{count_line, quoted, site_line, symbol_line}
use Rattle.scip_query.specs.CommandViews.{text_of}
use Rattle.scip_query.specs.MoreAnswers.{found_lines, outline_line}
use Rattle.scip_query.specs.MoreViews.{entry_view, found_view, outlined_view, site_view}
use Rattle.scip_query.specs.declared.finding.Found.{Found}
use Rattle.scip_query.specs.declared.outline.Outlined.{Outlined}
use Rattle.scip_query.specs.declared.site.Site.{Site}
use Rattle.scip_query.proofs.AnswerLemmas.{listing_found}
use Rattle.scip_query.proofs.answer.push_answer.Goals as goal

pub returns-in-Sites : goal.returns-in-Sites
returns-in-Sites c =
    let old = string_bytes c.args.text.now in
    let lines : List (Site) → List ℕ = λ found. flat_map (λ x. site_line (site_view x)) found ++ count_line (length found) in
    rw c.in-Sites.is (on_ok_weaker c.push_sites.result
    (λ e. e ∙ append_assoc old (flat_map (λ x. site_line (site_view x)) c.as_slice.result.now) (count_line (length c.as_slice.result.now))
    ∙ ap (λ l. old ++ l) (ap lines c.as_slice.ensures.value ∙ listing_found site_line site_view c.in-Sites.sites.items))
    c.push_sites.ensures)

pub returns-in-Texts : goal.returns-in-Texts
returns-in-Texts c =
    let old = string_bytes c.args.text.now in
    let lines : List (Bor (List ℕ)) → List ℕ = λ found. flat_map (λ x. quoted (text_of x)) found ++ count_line (length found) in
    rw c.in-Texts.is (on_ok_weaker c.push_texts.result
    (λ e. e ∙ append_assoc old (flat_map (λ x. quoted (text_of x)) c.as_slice-in-Texts.result.now) (count_line (length c.as_slice-in-Texts.result.now))
    ∙ ap (λ l. old ++ l) (ap lines c.as_slice-in-Texts.ensures.value ∙ listing_found quoted text_of c.in-Texts.texts.items))
    c.push_texts.ensures)

pub returns-in-Entries : goal.returns-in-Entries
returns-in-Entries c =
    let old = string_bytes c.args.text.now in
    let lines : List (Bor SymbolInformation) → List ℕ = λ found. flat_map (λ x. symbol_line (entry_view x)) found ++ count_line (length found) in
    rw c.in-Entries.is (on_ok_weaker c.push_symbols.result
    (λ e. e ∙ append_assoc old (flat_map (λ x. symbol_line (entry_view x)) c.as_slice-in-Entries.result.now) (count_line (length c.as_slice-in-Entries.result.now))
    ∙ ap (λ l. old ++ l) (ap lines c.as_slice-in-Entries.ensures.value ∙ listing_found symbol_line entry_view c.in-Entries.entries.items))
    c.push_symbols.ensures)

pub returns-in-Outline : goal.returns-in-Outline
returns-in-Outline c =
    let old = string_bytes c.args.text.now in
    let lines : List (Outlined) → List ℕ = λ found. flat_map (λ x. outline_line (outlined_view x)) found ++ count_line (length found) in
    rw c.in-Outline.is (on_ok_weaker c.push_outline.result
    (λ e. e ∙ append_assoc old (flat_map (λ x. outline_line (outlined_view x)) c.as_slice-in-Outline.result.now) (count_line (length c.as_slice-in-Outline.result.now))
    ∙ ap (λ l. old ++ l) (ap lines c.as_slice-in-Outline.ensures.value ∙ listing_found outline_line outlined_view c.in-Outline.outline.items))
    c.push_outline.ensures)

pub returns-in-Found : goal.returns-in-Found
returns-in-Found c =
    let old = string_bytes c.args.text.now in
    let lines : List (Found) → List ℕ = λ found. flat_map (λ x. found_lines (found_view x)) found ++ count_line (length found) in
    rw c.in-Found.is (on_ok_weaker c.push_all_found.result
    (λ e. e ∙ append_assoc old (flat_map (λ x. found_lines (found_view x)) c.as_slice-in-Found.result.now) (count_line (length c.as_slice-in-Found.result.now))
    ∙ ap (λ l. old ++ l) (ap lines c.as_slice-in-Found.ensures.value ∙ listing_found found_lines found_view c.in-Found.found.items))
    c.push_all_found.ensures)
