use Rattle.scip_wire.specs.Spelling.{varint}
use Rattle.scip_wire.specs.Outputs.{IsPut}
use Rattle.scip_wire.proofs.spell.varint.encode_varint.Given as goal

-- where the groups that are left are put behind those that were, the whole varint is
abbrev pub invariant-groups : goal.invariant-groups
invariant-groups g l =
    (sink : g.row.W.Denot) (out : g.row.O.Denot)
    → IsPut g.O.Output.holds l.sink l.out sink out (varint l.rest)
    → IsPut g.O.Output.holds l.initial.sink l.initial.out sink out (varint l.number)

abbrev pub decreases-groups : goal.decreases-groups
decreases-groups g l = l.rest
