use Rattle.std.proofs.Common.{◌≡◌, ◌++◌, map}
use Rattle.std.specs.List.{flat_map}
use Rattle.scip_query.specs.MoreViews.{site_view}
use Rattle.scip_query.specs.Named.{has_name}
use Rattle.scip_query.specs.Sites.{numbered_documents}
use Rattle.scip_query.specs.Tables.Named.{kept_in}
use Rattle.scip_query.specs.Tables.Searches.{numbered_from}
use Rattle.scip_query.proofs.queries.Queries.references_named.Given as goal

-- those of the documents so far, and those of the others
abbrev pub invariant-loop-number : goal.invariant-loop-number
invariant-loop-number l =
    map site_view l.sites.items
    ++ flat_map (kept_in (has_name l.self l.text)) (numbered_from l.number l.self.documents)
    ≡ flat_map (kept_in (has_name l.self l.text)) (numbered_documents l.self)
