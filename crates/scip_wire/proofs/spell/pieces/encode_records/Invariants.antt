use Rattle.std.proofs.Common.{drop}
use Rattle.std.specs.List.{concat}
use Rattle.scip_wire.specs.Outputs.{IsPut}
use Rattle.scip_wire.proofs.spell.pieces.encode_records.Given as goal

-- where the records that are left are put behind those that were, all are
abbrev pub invariant-records : goal.invariant-records
invariant-records g l =
    (sink : g.row.W.Denot) (out : g.row.O.Denot)
    → IsPut g.O.Output.holds l.sink l.out sink out (concat (drop l.record-index l.records))
    → IsPut g.O.Output.holds l.initial.sink l.initial.out sink out (concat l.records)
