use Rattle.std.proofs.Common.{◌≡◌, map, take}
use Rattle.std.specs.List.{filter}
use Rattle.scip_pages.specs.Targets.{link_at, is_first}
use Rattle.scip_pages.specs.Facts.{AreRight}
use Rattle.scip_pages.proofs.links.linked_of.Given as goal

-- the places so far
abbrev pub invariant-loop-place : goal.invariant-loop-place
invariant-loop-place l = record {
  right : AreRight l.site.queries.now l.site.sources.now l.facts.facts.items;
  links : l.linked.links.items ≡ map (link_at l.site.queries.now l.site.sources.now) (take l.place-index l.places);
  firsts : l.linked.firsts.items
      ≡ filter (is_first l.site.queries.now l.site.sources.now) (take l.place-index l.places);
}
