use Rattle.std.proofs.Common.{◌++◌, ◌∙◌, ap, ℕ, List}
use Rattle.std.specs.Borrow.{Bor}
use Rattle.std.specs.List.{flat_map}
use Rattle.std.proofs.lemmas.Result.{on_ok_weaker}
use Rattle.scip_records.specs.declared.records.SymbolInformation.{SymbolInformation}
use Rattle.scip_query.specs.CommandViews.{text_of}
use Rattle.scip_query.specs.MoreViews.{entry_view, found_view, outlined_view, site_view}
use Rattle.scip_query.specs.declared.finding.Found.{Found}
use Rattle.scip_query.specs.declared.outline.Outlined.{Outlined}
use Rattle.scip_query.specs.declared.site.Site.{Site}
use Rattle.scip_pages.specs.Told.{entry_told, found_told, outlined_told, site_told, told_text}
use Rattle.scip_pages.proofs.ToldLemmas.{lines_map}
use Rattle.scip_pages.proofs.told.push_told.Goals as goal

pub returns-in-Sites : goal.returns-in-Sites
returns-in-Sites c =
    let lines : List Site → List ℕ = λ found. flat_map (λ x. site_told c.args.sources.now (site_view x)) found in
    rw c.in-Sites.is (on_ok_weaker c.push_sites.result
    (λ e. e ∙ ap (λ l. c.args.text.now.items ++ l) (ap lines c.as_slice.ensures.value
    ∙ lines_map (site_told c.args.sources.now) site_view c.in-Sites.sites.items))
    c.push_sites.ensures)

pub returns-in-Texts : goal.returns-in-Texts
returns-in-Texts c =
    let lines : List (Bor (List ℕ)) → List ℕ = λ found. flat_map (λ x. told_text (text_of x)) found in
    rw c.in-Texts.is (on_ok_weaker c.push_texts.result
    (λ e. e ∙ ap (λ l. c.args.text.now.items ++ l) (ap lines c.as_slice-in-Texts.ensures.value
    ∙ lines_map told_text text_of c.in-Texts.texts.items))
    c.push_texts.ensures)

pub returns-in-Entries : goal.returns-in-Entries
returns-in-Entries c =
    let lines : List (Bor SymbolInformation) → List ℕ = λ found. flat_map (λ x. entry_told (entry_view x)) found in
    rw c.in-Entries.is (on_ok_weaker c.push_entries.result
    (λ e. e ∙ ap (λ l. c.args.text.now.items ++ l) (ap lines c.as_slice-in-Entries.ensures.value
    ∙ lines_map entry_told entry_view c.in-Entries.entries.items))
    c.push_entries.ensures)

pub returns-in-Outline : goal.returns-in-Outline
returns-in-Outline c =
    let lines : List Outlined → List ℕ =
    λ found. flat_map (λ x. outlined_told c.args.sources.now c.args.path.now (outlined_view x)) found in
    rw c.in-Outline.is (on_ok_weaker c.push_outline.result
    (λ e. e ∙ ap (λ l. c.args.text.now.items ++ l) (ap lines c.as_slice-in-Outline.ensures.value
    ∙ lines_map (outlined_told c.args.sources.now c.args.path.now) outlined_view c.in-Outline.outline.items))
    c.push_outline.ensures)

pub returns-in-Found : goal.returns-in-Found
returns-in-Found c =
    let lines : List Found → List ℕ = λ found. flat_map (λ x. found_told c.args.sources.now (found_view x)) found in
    rw c.in-Found.is (on_ok_weaker c.push_all_found.result
    (λ e. e ∙ ap (λ l. c.args.text.now.items ++ l) (ap lines c.as_slice-in-Found.ensures.value
    ∙ lines_map (found_told c.args.sources.now) found_view c.in-Found.found.items))
    c.push_all_found.ensures)
