-- What queries over a join answer, by the definitions of `scip_query`.
use Rattle.std.specs.Prelude.{◌≡◌, ◌↔◌, ℕ, Bool, false, Option, List, Contains, map, filter, flat_map, ◌&&◌}
use Rattle.std.specs.Str.{bytes_eq}
use Rattle.scip_records.specs.declared.records.Index.{Index}
use Rattle.scip_records.specs.declared.records.Document.{Document}
use Rattle.scip_records.specs.declared.records.Occurrence.{Occurrence}
use Rattle.scip_query.specs.Sites.{Site}
use Rattle.scip_query.specs.OccurrenceAt.{Subject}
use Rattle.scip_query.specs.References.{is_local, is_definition, references_of, definitions_of}
use Rattle.scip_join.specs.Joined.{IsJoin, IsLatest}

-- an occurrence, and the document that it is in
abbrev pub shown : Site → Document × Occurrence
shown site = (site.document, site.occurrence)

abbrev pub has : List ℕ → Occurrence → Bool
has symbol occurrence = bytes_eq occurrence.symbol symbol

-- those occurrences of a document that pass a test
abbrev pub in_document : (Occurrence → Bool) → Document → List (Document × Occurrence)
in_document test document = map (λ (o : Occurrence). (document, o)) (filter test document.occurrences)

-- and those of an index, document by document
abbrev pub in_index : (Occurrence → Bool) → Index → List (Document × Occurrence)
in_index test index = flat_map (in_document test) index.documents

-- What is answered of a symbol that isn't local: of each index, its occurrences, document by document. So a join
-- answers in the order of paths.
abbrev pub AnswersByDocument : Type 0
AnswersByDocument = (index : Index) (subject : Subject) → is_local subject.symbol ≡ false
    → (map shown (references_of index subject) ≡ in_index (has subject.symbol) index)
    × (map shown (definitions_of index subject)
    ≡ in_index (λ (o : Occurrence). has subject.symbol o && is_definition o) index)

-- it is in one of the indexes, in a document that is the latest of its path
pub record IsOfLatest (test : Occurrence → Bool) (indexes : List Index) (x : Document × Occurrence) : Type 0 where
  pub latest : IsLatest indexes x.0
  pub index : Index
  pub one : Contains indexes index
  pub found : Contains (in_index test index) x

-- A join answers what the indexes answer together, but for documents that others took the place of.
abbrev pub AnswersTheUnion : Type 0
AnswersTheUnion = (root : Option (List ℕ)) (indexes : List Index) (joined : Index) (test : Occurrence → Bool)
    → IsJoin root indexes joined → (x : Document × Occurrence)
    → Contains (in_index test joined) x ↔ IsOfLatest test indexes x
