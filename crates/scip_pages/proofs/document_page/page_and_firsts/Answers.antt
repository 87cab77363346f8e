use Rattle.std.proofs.Common.{◌≡◌, ◌∙◌, ◌++◌, ap, ℕ, List, map}
use Rattle.std.specs.List.{filter}
use Rattle.std.specs.Borrow.{Bor}
use Rattle.std.proofs.lemmas.Result.{IfOk-weaker}
use Rattle.scip_records.specs.declared.records.Occurrence.{Occurrence}
use Rattle.scip_query.specs.declared.place.Place.{Place}
use Rattle.scip_query.specs.Tables.{places_in}
use Rattle.scip_pages.specs.declared.code.Link.{Link}
use Rattle.scip_pages.specs.Targets.{link_at, is_first}
use Rattle.scip_pages.specs.Page.{links_of, firsts_of, start_text, main_text}
use Rattle.scip_pages.proofs.document_page.page_and_firsts.Goals as goal

pub returns-clause-page : goal.returns-clause-page
returns-clause-page c =
    let index = c.args.site.now.queries.now in
    let sources = c.args.site.now.sources.now in
    let asked = c.args.asked.now in
    let d = asked.document.now in
    let lines : List (List ℕ) = map (λ (l : Bor (List ℕ)). l.now) asked.lines.now.lines in
    let start : List ℕ = start_text d.relative_path in
    let occurrences : List Occurrence = c.as_slice.result.now in
    let links : List Link = c.deref-2.result.now in
    let firsts : List Place = c.as_slice-firsts.result.now in
    let places : c.deref.result.now ≡ places_in asked.number d = c.deref.ensures.value ∙ c.in_ok-places.ensures in
    let linked : links ≡ links_of index sources asked.number d =
    c.deref-2.ensures.value ∙ c.in_ok-linked.ensures.links ∙ ap (map (link_at index sources)) places in
    let listed : firsts ≡ firsts_of index sources asked.number d =
    c.as_slice-firsts.ensures.value ∙ c.in_ok-linked.ensures.firsts ∙ ap (filter (is_first index sources)) places in
    IfOk-weaker c.page_with.result _ _
    (λ page h. h
    ∙ ap (λ (path : List ℕ). start_text path ++ main_text index sources asked.lines.now.unit occurrences links
    lines firsts) c.as_str-path.ensures
    ∙ ap (λ (os : List Occurrence). start ++ main_text index sources asked.lines.now.unit os links lines firsts)
    c.as_slice.ensures
    ∙ ap (λ (ls : List Link). start ++ main_text index sources asked.lines.now.unit d.occurrences ls lines
    firsts) linked
    ∙ ap (λ (fs : List Place). start ++ main_text index sources asked.lines.now.unit d.occurrences
    (links_of index sources asked.number d) lines fs) listed) c.page_with.ensures

pub returns-clause-firsts : goal.returns-clause-firsts
returns-clause-firsts c =
    let index = c.args.site.now.queries.now in
    let sources = c.args.site.now.sources.now in
    let asked = c.args.asked.now in
    let d = asked.document.now in
    let firsts : List Place = c.as_slice-firsts.result.now in
    let places : c.deref.result.now ≡ places_in asked.number d = c.deref.ensures.value ∙ c.in_ok-places.ensures in
    let listed : firsts ≡ firsts_of index sources asked.number d =
    c.as_slice-firsts.ensures.value ∙ c.in_ok-linked.ensures.firsts
    ∙ ap (filter (is_first index sources)) places in
    IfOk-weaker c.page_with.result _ _
    (λ page h. c.in_ok-extend_from_slice.ensures.items
    ∙ ap (λ (fs : List Place). c.args.defined.now.items ++ fs) listed)
    c.page_with.ensures
