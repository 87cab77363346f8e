use Rattle.std.proofs.Common.{◌≡◌, ◌++◌, List, ℕ, drop, map}
use Rattle.scip_model.specs.Tables.Listing.{each_from, at_component}
use Rattle.scip_model.specs.Tables.Plans.{Around, Grown, occurrence_of}
use Rattle.scip_model.proofs.use_occurrences.add_target.Given as goal

abbrev pub invariant-loop-index : goal.invariant-loop-index
invariant-loop-index l = record {
  grown : Grown l.fn.texts l.texts;
  added : (around : Around) (later : List (List ℕ)) → Grown l.texts later
      → map (occurrence_of around later) l.list.items ++ each_from
      (at_component l.maker.package.now.ids l.maker.encoding l.maker.text.now l.maker.package.now.files
      l.maker.choices.now l.target) l.index (drop l.index l.component-items)
      ≡ map (occurrence_of around later) l.fn.list.items ++ each_from
      (at_component l.maker.package.now.ids l.maker.encoding l.maker.text.now l.maker.package.now.files
      l.maker.choices.now
      l.target) 0 l.component-items;
}
