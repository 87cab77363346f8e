use Rattle.std.proofs.Common.{◌≡◌, refl, Some, length, map}
use Rattle.std.specs.List.{slice_get}
use Rattle.std.proofs.lemmas.Option.{slice_get_read}
use Rattle.scip_model.specs.Tables.Listing.{each_from, at_import}
use Rattle.scip_model.specs.Tables.Plans.{occurrence_of}
use Rattle.scip_model.proofs.ListingLemmas.{each_added}
use Rattle.scip_model.proofs.PlanLemmas.{grown_then}
use Rattle.scip_model.proofs.occurrences.import_occurrences.Goals as goal

pub loop-imported-preserved : goal.loop-imported-preserved
loop-imported-preserved c =
    let maker = c.args.maker.now in
    let imports = c.args.imports.now in
    let index = c.loop-imported.imported-index in
    let imported = c.imported-item.result in
    let gives = at_import maker.package.now.ids maker.encoding maker.text.now maker.package.now.files in
    let there : slice_get imports index ≡ Some imported =
    slice_get_read imports (length imports) index imported refl c.loop-imported-test.true c.imported-item.is in
    record {
      grown = grown_then c.args.texts.now c.loop-imported.texts c.add_import.new.texts c.loop-imported.invariant.grown
          c.in_ok-add_import.ensures.grown;
      added = λ around later more.
          each_added gives imports index imported (map (occurrence_of around later) c.loop-imported.list.items)
          (map (occurrence_of around later) c.add_import.new.list.items) (each_from gives 0 imports) there
          (c.in_ok-add_import.ensures.added around later more)
          (c.loop-imported.invariant.added around later
          (grown_then c.loop-imported.texts c.add_import.new.texts later c.in_ok-add_import.ensures.grown more));
    }
