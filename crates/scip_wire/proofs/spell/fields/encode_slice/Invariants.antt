use Rattle.std.proofs.Common.{drop}
use Rattle.scip_wire.specs.Spelling.{bytes_of, repeated_text_fields}
use Rattle.scip_wire.specs.Outputs.{IsPut}
use Rattle.scip_wire.proofs.spell.fields.encode_slice.Given as goal

-- where the records that are left are put behind those that were, all are
abbrev pub invariant-texts : goal.invariant-texts
invariant-texts g l =
    (sink : g.row.W.Denot) (out : g.row.O.Denot)
    → IsPut g.O.Output.holds l.sink l.out sink out
    (bytes_of (repeated_text_fields l.number (drop l.text-index l.texts)))
    → IsPut g.O.Output.holds l.initial.sink l.initial.out sink out
    (bytes_of (repeated_text_fields l.number l.texts))
