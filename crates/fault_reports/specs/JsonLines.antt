-- A report in JSON (RFC 8259): a line for each finding, and a last one with the counts. Each line is an object, with
-- its keys in the order of their bytes. (The keys are this project's own.)
use Rattle.std.specs.Prelude.{ℕ, List, ◌++◌, Option, None, Some, codes}
use Rattle.std.specs.Str.Lossy.{utf8_lossy}
use Rattle.std.specs.List.{flat_map}
use Rattle.std.specs.Option.{option_and_then, option_map}
use Rattle.diagnostics.specs.Literals.{joined}
use Rattle.serde_json.specs.Data.{Data, null, number, unsigned, string, object, member, no_members}
use Rattle.serde_json.specs.Written.{compact_text}
use Rattle.fault_reports.specs.declared.finding.Counts.{Counts}
use Rattle.fault_reports.specs.Findings.{Found, FoundPlace, column_at, line_at, said_of, word_of}

abbrev pub number_or_null : Option ℕ → Data
number_or_null None = null
number_or_null (Some n) = number (unsigned n)

abbrev pub text_or_null : Option (List ℕ) → Data
text_or_null None = null
text_or_null (Some text) = string text

-- where a full name is first given, or a file that can't be read
abbrev pub first_value : Option FoundPlace → Data
first_value None = null
first_value (Some place) = object
    (member (codes "column") (number_or_null (column_at place))
    (member (codes "end") (number_or_null place.end)
    (member (codes "line") (number_or_null (line_at place))
    (member (codes "offset") (number_or_null place.offset)
    (member (codes "path") (string place.path) no_members)))))

-- a finding
abbrev pub value_of : Found → Data
value_of found = object
    (member (codes "column") (number_or_null (option_and_then column_at found.place))
    (member (codes "end") (number_or_null (option_and_then (λ (place : FoundPlace). place.end) found.place))
    (member (codes "first") (first_value found.first)
    (member (codes "import") (text_or_null (option_map utf8_lossy (option_map joined found.imported)))
    (member (codes "kind") (string (word_of found.kind))
    (member (codes "line") (number_or_null (option_and_then line_at found.place))
    (member (codes "message") (string (said_of found))
    (member (codes "name") (string found.name)
    (member (codes "offset") (number_or_null (option_and_then (λ (place : FoundPlace). place.offset) found.place))
    (member (codes "path") (text_or_null (option_map (λ (place : FoundPlace). place.path) found.place))
    no_members))))))))))

-- the counts
abbrev pub counts_value : Counts → Data
counts_value counts = object
    (member (codes "imports") (number (unsigned counts.imports))
    (member (codes "kind") (string (codes "counts"))
    (member (codes "skipped") (number (unsigned counts.skipped))
    (member (codes "sources") (number (unsigned counts.sources))
    (member (codes "status") (number (unsigned counts.status))
    (member (codes "uses") (number (unsigned counts.uses)) no_members))))))

-- the line of a value: its text, without spaces between tokens, and a line end
abbrev pub line_of : Data → List ℕ
line_of value = compact_text value ++ codes "\n"

-- all lines
abbrev pub report_lines : List Found → Counts → List ℕ
report_lines findings counts = flat_map (λ found. line_of (value_of found)) findings ++ line_of (counts_value counts)
