use Rattle.std.proofs.Common.{◌≡◌, drop}
use Rattle.scip_query.specs.Names.{begins_alike}
use Rattle.scip_query.proofs.names.begins_alike.Given as goal

-- what is left of the text is compared with what is left of the name
abbrev pub invariant-loop-byte : goal.invariant-loop-byte
invariant-loop-byte l = begins_alike (drop l.byte-index l.text) l.rest ≡ begins_alike l.text l.name
