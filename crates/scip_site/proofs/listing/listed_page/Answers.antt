use Rattle.std.proofs.Common.{◌≡◌, ◌∙◌, ◌++◌, ap, ℕ, List, map}
use Rattle.std.specs.Borrow.{Bor}
use Rattle.scip_query.specs.declared.place.Place.{Place}
use Rattle.scip_pages.specs.Page.{firsts_of}
use Rattle.scip_site.specs.Script.{listing_text}
use Rattle.scip_site.proofs.listing.listed_page.Goals as goal

pub returns-clause-listed : goal.returns-clause-listed
returns-clause-listed c =
    let index = c.args.site.now.queries.now in
    let sources = c.args.site.now.sources.now in
    let asked = c.args.asked.now in
    let d = asked.document.now in
    let lines : List (List ℕ) = map (λ (l : Bor (List ℕ)). l.now) asked.lines.now.lines in
    let firsts : List Place = c.deref.result.now in
    let listed : firsts ≡ firsts_of index sources asked.number d =
    c.deref.ensures.value ∙ c.in_ok-page.ensures.firsts
    ∙ ap (λ (fs : List Place). fs ++ firsts_of index sources asked.number d) c.new-firsts.ensures.items in
    c.in_ok-push_listing.ensures
    ∙ ap (λ (path : List ℕ). c.args.script.now.items ++ listing_text index asked.lines.now.unit lines path firsts)
    c.as_str-path.ensures
    ∙ ap (λ (fs : List Place). c.args.script.now.items ++ listing_text index asked.lines.now.unit lines
    d.relative_path fs) listed
