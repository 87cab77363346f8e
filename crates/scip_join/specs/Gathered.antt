-- What is kept of indexes.
use Rattle.std.specs.Prelude.{ℕ, Option, List, map, length}
use Rattle.scip_records.specs.declared.records.Index.{Index}
use Rattle.scip_records.specs.declared.records.Metadata.{Metadata}
use Rattle.scip_records.specs.declared.records.Document.{Document}
use Rattle.scip_records.specs.declared.records.SymbolInformation.{SymbolInformation}
use Rattle.scip_wire.specs.Spelling.{document_record}
use Rattle.scip_join.specs.declared.choices.JoinChoices.{JoinChoices}
use Rattle.scip_join.specs.declared.piece.Piece.{Piece}
use Rattle.scip_join.specs.Joined.{numbered_documents, all_externals, first_metadata}

abbrev pub symbols_in : List SymbolInformation → List (List ℕ)
symbols_in entries = map (λ (e : SymbolInformation). e.symbol) entries

-- of a document of the index with a number
abbrev pub piece_of : ℕ × Document → Piece
piece_of d = record {
  index = d.0;
  path = d.1.relative_path;
  symbols = symbols_in d.1.symbols;
  bytes = document_record d.1;
}

-- of documents of an index with a number
abbrev pub pieces_in : ℕ → List Document → List Piece
pieces_in index documents = map (λ (d : Document). piece_of (index, d)) documents

-- of all: what is asked for, how many came, the metadata of the first, the documents and the external entries in order
pub record Gathered : Type 0 where
  pub choices : JoinChoices
  pub count : ℕ
  pub metadata : Option Metadata
  pub pieces : List Piece
  pub externals : List SymbolInformation

-- of these indexes
abbrev pub gathered : JoinChoices → List Index → Gathered
gathered choices indexes = record {
  choices = choices;
  count = length indexes;
  metadata = first_metadata indexes;
  pieces = map piece_of (numbered_documents indexes);
  externals = all_externals indexes;
}
