use Rattle.std.proofs.Common.{◌∙◌, ap, arith, map}
use Rattle.std.proofs.lemmas.List.{take_all}
use Rattle.std.specs.List.{flat_map}
use Rattle.scip_query.specs.MoreViews.{site_view}
use Rattle.scip_query.specs.Named.{is_defining, references_named}
use Rattle.scip_query.specs.Tables.Named.{kept_if}
use Rattle.scip_query.proofs.NamedLemmas.{kept_all}
use Rattle.scip_query.proofs.queries.Queries.definitions_named.Goals as goal

pub returns : goal.returns
returns c =
    let items = c.as_slice-site-items.result.now in
    let all = take_all c.loop-site.site-index items (omega arith) in
    c.loop-site.invariant
    ∙ ap (λ l. flat_map (kept_if is_defining) (map site_view l)) (all ∙ c.as_slice-site-items.ensures.value)
    ∙ ap (flat_map (kept_if is_defining)) c.in_ok-sites.ensures
    ∙ kept_all is_defining (references_named c.args.self.now c.args.text.now)
