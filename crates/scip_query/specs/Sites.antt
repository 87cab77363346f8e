-- The occurrences of an index, in the order in which it lists them.
use Rattle.std.specs.Prelude.{ℕ, List, map, Option}
use Rattle.std.specs.List.{flat_map, find, enumerate_from}
use Rattle.std.specs.Str.{bytes_eq}
use Rattle.scip_records.specs.declared.records.Index.{Index}
use Rattle.scip_records.specs.declared.records.Document.{Document}
use Rattle.scip_records.specs.declared.records.Occurrence.{Occurrence}
use Rattle.scip_query.specs.declared.place.Place.{Place}

-- an occurrence, its document, and its place in the index
pub record Site : Type 0 where
  pub place : Place
  pub document : Document
  pub occurrence : Occurrence

-- a document and its number
pub record Numbered : Type 0 where
  pub number : ℕ
  pub document : Document

-- the documents of an index, each with its number from 0
abbrev pub numbered_documents : Index → List Numbered
numbered_documents index =
    map (λ (d : ℕ × Document). record { number = d.0; document = d.1 }) (enumerate_from 0 index.documents)

-- the occurrences of a document
abbrev pub sites_in : Numbered → List Site
sites_in d = map (λ (o : ℕ × Occurrence). record {
  place = record { document = d.number; occurrence = o.0 };
  document = d.document;
  occurrence = o.1;
}) (enumerate_from 0 d.document.occurrences)

-- the occurrences of all documents
abbrev pub sites_of : Index → List Site
sites_of index = flat_map sites_in (numbered_documents index)

-- the document that a path names: the first with that path
abbrev pub document_named : Index → List ℕ → Option Numbered
document_named index path = find (λ (d : Numbered). bytes_eq d.document.relative_path path) (numbered_documents index)
