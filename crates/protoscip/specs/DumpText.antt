-- What a dump prints of an index.
use Rattle.std.specs.Prelude.{ℕ, List, ◌++◌, length}
use Rattle.std.specs.List.{flat_map}
use Rattle.scip_records.specs.declared.records.Index.{Index}
use Rattle.scip_records.specs.declared.records.Document.{Document}
use Rattle.scip_records.specs.declared.records.Occurrence.{Occurrence}
use Rattle.scip_query.specs.AnswerText.{count_line, line_of}

-- where an occurrence begins and ends, its roles and its symbol: `L C L2 E ROLE SYMBOL`
abbrev pub occurrence_line : Occurrence → List ℕ
occurrence_line o = line_of o.range o.symbol_roles o.symbol

-- the occurrences of all documents
abbrev pub all_occurrences : List Document → List Occurrence
all_occurrences documents = flat_map (λ (d : Document). d.occurrences) documents

-- a line for each occurrence, and how many there are: `= N`
abbrev pub dump_text : Index → List ℕ
dump_text index =
    flat_map occurrence_line (all_occurrences index.documents)
    ++ count_line (length (all_occurrences index.documents))
