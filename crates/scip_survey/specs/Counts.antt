-- How much an index has. (`scip.proto`, Index)
use Rattle.std.specs.Prelude.{ℕ, ◌-◌, ◌^◌, Bool, true, false, min, List, ◌++◌, length, codes}
use Rattle.std.specs.List.{count_by, sum_by}
use Rattle.std.specs.Fmt.{decimal}
use Rattle.serde_json.specs.Data.{Data, object, member, no_members}
use Rattle.scip_records.specs.declared.records.Index.{Index}
use Rattle.scip_records.specs.declared.records.Document.{Document}
use Rattle.scip_query.specs.JsonAnswers.{IsReadBack, count_value, json_line}
use Rattle.scip_query.specs.References.{is_definition}
use Rattle.scip_survey.specs.declared.counts.Counts.{Counts}

-- a count; one past 2^64 - 1 is that
abbrev pub counted : ℕ → ℕ
counted n = min n (2 ^ 64 - 1)

-- so many of all documents
abbrev pub counted_in : (Document → ℕ) → List Document → ℕ
counted_in count documents = counted (sum_by count documents)

abbrev pub occurrences_in : Document → ℕ
occurrences_in d = length d.occurrences

abbrev pub definitions_in : Document → ℕ
definitions_in d = count_by is_definition d.occurrences

abbrev pub symbols_in : Document → ℕ
symbols_in d = length d.symbols

abbrev pub counts_of : Index → Counts
counts_of index = record {
  documents = length index.documents;
  occurrences = counted_in occurrences_in index.documents;
  definitions = counted_in definitions_in index.documents;
  symbols = counted_in symbols_in index.documents;
  external_symbols = length index.external_symbols;
}

-- a line for each, or one object of JSON. (The words are this project's own.)
abbrev pub count_line : List ℕ → ℕ → List ℕ
count_line name n = name ++ codes ": " ++ decimal n ++ codes "\n"

abbrev pub counts_lines : Counts → List ℕ
counts_lines c =
    count_line (codes "documents") c.documents
    ++ count_line (codes "occurrences") c.occurrences
    ++ count_line (codes "definitions") c.definitions
    ++ count_line (codes "symbols") c.symbols
    ++ count_line (codes "external symbols") c.external_symbols

abbrev pub counts_value : Counts → Data
counts_value c = object
    (member (codes "definitions") (count_value c.definitions)
    (member (codes "documents") (count_value c.documents)
    (member (codes "external_symbols") (count_value c.external_symbols)
    (member (codes "occurrences") (count_value c.occurrences)
    (member (codes "symbols") (count_value c.symbols) no_members)))))

abbrev pub counts_text : (json : Bool) → Counts → List ℕ
counts_text true c = json_line (counts_value c)
counts_text false c = counts_lines c

-- the line of counts in JSON is read back as their value
abbrev pub ReadsBack : Counts → Type 0
ReadsBack c = IsReadBack (json_line (counts_value c)) (counts_value c)
