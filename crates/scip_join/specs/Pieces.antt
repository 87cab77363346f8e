-- The pieces of an index.
use Rattle.std.specs.Prelude.{◌≡◌, map}
use Rattle.scip_records.specs.declared.records.Index.{Index}
use Rattle.scip_wire.specs.Spelling.{document_record}
use Rattle.scip_join.specs.declared.joined.JoinedIndex.{JoinedIndex}

-- its metadata, the records of its documents, and its external entries
pub record ArePiecesOf (whole : JoinedIndex) (index : Index) : Type 0 where
  pub metadata : whole.metadata ≡ index.metadata
  pub documents : whole.documents ≡ map document_record index.documents
  pub external_symbols : whole.external_symbols ≡ index.external_symbols
