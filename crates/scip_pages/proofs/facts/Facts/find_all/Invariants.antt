use Rattle.scip_pages.specs.Facts.{AreRight}
use Rattle.scip_pages.proofs.facts.Facts.find_all.Given as goal

-- all facts so far are right
abbrev pub invariant-loop-number : goal.invariant-loop-number
invariant-loop-number l = AreRight l.site.queries.now l.site.sources.now l.self.facts.items
