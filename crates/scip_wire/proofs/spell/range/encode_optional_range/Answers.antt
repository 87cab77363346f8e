use Rattle.std.proofs.Common.{sym, ap}
use Rattle.scip_wire.specs.Spelling.{bytes_of, optional_range_fields}
use Rattle.scip_wire.proofs.OutputLemmas.{alike, nothing}
use Rattle.scip_wire.proofs.spell.range.encode_optional_range.Goals as goal

pub returns-in_default : goal.returns-in_default
returns-in_default g c =
    alike (ap (λ range. bytes_of (optional_range_fields c.args.number range)) (sym c.in_default.is)) nothing
