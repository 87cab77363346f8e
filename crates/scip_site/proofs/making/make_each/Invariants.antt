use Rattle.std.proofs.Common.{◌≡◌, ◌++◌, map}
use Rattle.source_files.specs.Makers.{making}
use Rattle.scip_query.specs.Tables.{numbers}
use Rattle.scip_pages.specs.Facts.{AreRight}
use Rattle.scip_site.specs.Making.{AllOf, in_folder, pages, listings}
use Rattle.scip_site.proofs.making.make_each.Given as goal

-- the pages so far are made, and their symbols are listed
abbrev pub invariant-loop-number : goal.invariant-loop-number
invariant-loop-number g l = record {
  right : AreRight l.site.queries.now l.site.sources.now l.listed.facts.facts.items;
  files : AllOf (making g.O.MakeFiles l.fn.made l.made)
      (map (in_folder l.folder) (pages l.site.queries.now l.site.sources.now (numbers l.number)));
  listed : l.listed.script.items
      ≡ l.fn.listed.script.items ++ listings l.site.queries.now l.site.sources.now (numbers l.number);
}
