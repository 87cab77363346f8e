use Rattle.std.proofs.Common.{◌≡◌, drop}
use Rattle.std.specs.List.{find}
use Rattle.scip_pages.specs.Targets.{is_shown_definition}
use Rattle.scip_pages.proofs.definitions.definition_among.Given as goal

-- none so far
abbrev pub invariant-loop-place : goal.invariant-loop-place
invariant-loop-place l =
    find (is_shown_definition l.site.queries.now l.site.sources.now) (drop l.place-index l.places)
    ≡ find (is_shown_definition l.site.queries.now l.site.sources.now) l.places
