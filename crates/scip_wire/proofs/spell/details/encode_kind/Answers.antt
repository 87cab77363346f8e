use Rattle.std.proofs.Common.{sym, ap, Option}
use Rattle.scip_records.specs.Details.{details_if_any}
use Rattle.scip_records.specs.declared.details.Details.{Details}
use Rattle.scip_wire.specs.Spelling.{bytes_of, int_fields}
use Rattle.scip_wire.proofs.OutputLemmas.{alike, nothing}
use Rattle.scip_wire.proofs.spell.details.encode_kind.Goals as goal

pub returns-in_default : goal.returns-in_default
returns-in_default g c =
    alike (ap (λ (details : Option Details). bytes_of (int_fields c.args.number (details_if_any details).kind)) (sym c.in_default.is)) nothing
