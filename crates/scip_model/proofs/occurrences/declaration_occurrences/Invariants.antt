use Rattle.std.proofs.Common.{◌≡◌, ◌++◌, List, ℕ, drop, map}
use Rattle.scip_symbol.specs.Package.{Package}
use Rattle.scip_model.specs.Makers.{source_home}
use Rattle.scip_model.specs.Tables.Listing.{each_from, at_declaration}
use Rattle.scip_model.specs.Tables.Plans.{Grown, around_in, occurrence_of, own_texts}
use Rattle.scip_model.proofs.occurrences.declaration_occurrences.Given as goal

abbrev pub invariant-loop-index : goal.invariant-loop-index
invariant-loop-index l = (run : Package) (later : List (List ℕ))
    → Grown (own_texts (source_home l.maker) run l.facts) later
    → map (occurrence_of (around_in l.maker.encoding l.maker.text.now l.facts) later) l.list.items ++ each_from
    (at_declaration (source_home l.maker) l.maker.encoding l.maker.text.now l.maker.choices.now l.maker.source
    l.facts) l.index (drop l.index l.declaration-items)
    ≡ each_from (at_declaration (source_home l.maker) l.maker.encoding l.maker.text.now l.maker.choices.now l.maker.source
    l.facts) 0 l.declaration-items
