-- The fields of a document in two halves, between which its occurrences can be let go.
use Rattle.std.specs.Prelude.{List, ◌++◌}
use Rattle.scip_records.specs.declared.records.Document.{Document}
use Rattle.scip_wire.specs.Fields.{Field}
use Rattle.scip_wire.specs.Spelling.{text_fields, int_fields, repeated_message_fields, occurrence_fields, info_fields}

-- its path and its occurrences
abbrev pub front_fields : Document → List Field
front_fields d = text_fields 1 d.relative_path ++ repeated_message_fields 2 occurrence_fields d.occurrences

-- and what comes behind them
abbrev pub back_fields : Document → List Field
back_fields d =
    repeated_message_fields 3 info_fields d.symbols
    ++ text_fields 4 d.language
    ++ int_fields 6 d.position_encoding
