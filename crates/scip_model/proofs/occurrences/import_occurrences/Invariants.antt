use Rattle.std.proofs.Common.{◌≡◌, ◌++◌, List, ℕ, drop, map}
use Rattle.scip_model.specs.Tables.Listing.{each_from, at_import}
use Rattle.scip_model.specs.Tables.Plans.{Around, Grown, occurrence_of}
use Rattle.scip_model.proofs.occurrences.import_occurrences.Given as goal

abbrev pub invariant-loop-imported : goal.invariant-loop-imported
invariant-loop-imported l = record {
  grown : Grown l.fn.texts l.texts;
  added : (around : Around) (later : List (List ℕ)) → Grown l.texts later
      → map (occurrence_of around later) l.list.items ++ each_from
      (at_import l.maker.package.now.ids l.maker.encoding l.maker.text.now l.maker.package.now.files) l.imported-index
      (drop l.imported-index l.imports)
      ≡ each_from (at_import l.maker.package.now.ids l.maker.encoding l.maker.text.now l.maker.package.now.files) 0 l.imports;
}
