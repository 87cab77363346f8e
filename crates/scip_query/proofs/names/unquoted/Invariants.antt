use Rattle.std.proofs.Common.{◌≡◌, false, ◌++◌, drop}
use Rattle.scip_query.specs.Names.{unquoted_from}
use Rattle.scip_query.proofs.names.unquoted.Given as goal

-- what is kept so far, and what will be of the rest
abbrev pub invariant-loop-byte : goal.invariant-loop-byte
invariant-loop-byte l =
    l.kept.items ++ unquoted_from l.quoted (drop l.byte-index l.text) ≡ unquoted_from false l.text
