use Rattle.std.proofs.Common.{◌≡◌, map, take}
use Rattle.std.specs.List.{flat_map}
use Rattle.scip_records.specs.declared.records.Document.{Document}
use Rattle.scip_query.specs.CommandViews.{text_of}
use Rattle.scip_survey.specs.Near.{name_in}
use Rattle.scip_survey.proofs.near.names_of.Given as goal

-- the names of the documents so far
abbrev pub invariant-loop-document : goal.invariant-loop-document
invariant-loop-document l =
    map text_of l.names.items
    ≡ flat_map (λ (d : Document). flat_map name_in d.symbols) (take l.document-index l.document-items)
