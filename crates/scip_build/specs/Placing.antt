-- Where the documents of an index are: at the paths of their sources, or below a folder.
use Rattle.std.specs.Prelude.{ℕ, List, [], ◌∷◌, ◌++◌, codes, map}
use Rattle.scip_records.specs.declared.records.Document.{Document}
use Rattle.scip_records.specs.declared.records.Index.{Index}

-- the path below a folder; the path itself, if the folder has no name
abbrev pub path_at : (folder path : List ℕ) → List ℕ
path_at [] path = path
path_at (first ∷ others) path = (first ∷ others) ++ (codes "/" ++ path)

-- the document there: its path alone is another
abbrev pub document_at : (folder : List ℕ) → Document → Document
document_at folder document = record {
  relative_path = path_at folder document.relative_path;
  occurrences = document.occurrences;
  symbols = document.symbols;
  language = document.language;
  position_encoding = document.position_encoding;
}

-- the index with all its documents there, in the same order
abbrev pub index_at : (folder : List ℕ) → Index → Index
index_at folder index = record {
  metadata = index.metadata;
  documents = map (document_at folder) index.documents;
  external_symbols = index.external_symbols;
}

-- this is kept of the document there
abbrev pub kept_at : {Out : Type 0} (folder : List ℕ) → (Document → Out → Type 0) → Document → Out → Type 0
kept_at folder Is document = Is (document_at folder document)
