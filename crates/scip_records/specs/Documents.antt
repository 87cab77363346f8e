-- Documents of which a part was let go.
use Rattle.std.specs.Prelude.{[]}
use Rattle.scip_records.specs.declared.records.Document.{Document}

-- the document without its occurrences
abbrev pub without_occurrences : Document → Document
without_occurrences d = record {
  relative_path = d.relative_path;
  occurrences = [];
  symbols = d.symbols;
  language = d.language;
  position_encoding = d.position_encoding;
}
