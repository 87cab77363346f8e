use Rattle.std.proofs.Common.{drop}
use Rattle.scip_wire.specs.Spelling.{bytes_of, repeated_message_fields, info_fields}
use Rattle.scip_wire.specs.Outputs.{IsPut}
use Rattle.scip_wire.proofs.spell.document.encode_entries.Given as goal

-- where the records that are left are put behind those that were, all are
abbrev pub invariant-numbers : goal.invariant-numbers
invariant-numbers g l =
    (sink : g.row.W.Denot) (out : g.row.O.Denot)
    → IsPut g.O.Output.holds l.sink l.out sink out
    (bytes_of (repeated_message_fields 3 info_fields
    (drop l.number (g.D.DocumentParts.document l.document).symbols)))
    → IsPut g.O.Output.holds l.initial.sink l.initial.out sink out
    (bytes_of (repeated_message_fields 3 info_fields (g.D.DocumentParts.document l.document).symbols))
