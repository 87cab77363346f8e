use Rattle.std.proofs.Common.{◌≡◌, ◌++◌, List, ℕ, drop, map}
use Rattle.scip_model.specs.Named.{Home}
use Rattle.scip_model.specs.Tables.Listing.{each_from, at_package}
use Rattle.scip_model.specs.Tables.Plans.{Grown, around_in, occurrence_of, own_texts}
use Rattle.scip_model.proofs.occurrences.package_occurrences.Given as goal

abbrev pub invariant-loop-index : goal.invariant-loop-index
invariant-loop-index l = (home : Home) (later : List (List ℕ))
    → Grown (own_texts home l.maker.package.now.ids.run l.facts) later
    → map (occurrence_of (around_in l.maker.encoding l.maker.text.now l.facts) later) l.list.items
    ++ each_from (at_package l.maker.package.now.ids.run l.maker.encoding l.maker.text.now l.facts) l.index
    (drop l.index l.component-items)
    ≡ each_from (at_package l.maker.package.now.ids.run l.maker.encoding l.maker.text.now l.facts) 0 l.component-items
