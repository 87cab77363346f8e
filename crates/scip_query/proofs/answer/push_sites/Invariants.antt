use Rattle.std.proofs.Common.{◌≡◌, ◌++◌, take}
use Rattle.std.specs.List.{flat_map}
use Rattle.std.specs.String.{string_bytes}
use Rattle.scip_query.specs.AnswerText.{site_line}
use Rattle.scip_query.specs.MoreViews.{site_view}
use Rattle.scip_query.proofs.answer.push_sites.Given as goal

-- the lines of the occurrences so far
abbrev pub invariant-loop-site : goal.invariant-loop-site
invariant-loop-site l =
    string_bytes l.text ≡ string_bytes l.fn.text
    ++ flat_map (λ site. site_line (site_view site)) (take l.site-index l.sites)
