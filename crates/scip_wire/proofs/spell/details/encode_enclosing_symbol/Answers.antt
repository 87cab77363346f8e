use Rattle.std.proofs.Common.{sym, ap, Option}
use Rattle.scip_records.specs.Details.{details_if_any}
use Rattle.scip_records.specs.declared.details.Details.{Details}
use Rattle.scip_wire.specs.Spelling.{bytes_of, text_fields}
use Rattle.scip_wire.proofs.OutputLemmas.{alike, nothing}
use Rattle.scip_wire.proofs.spell.details.encode_enclosing_symbol.Goals as goal

pub returns-in_default : goal.returns-in_default
returns-in_default g c =
    alike (ap (λ (details : Option Details). bytes_of (text_fields c.args.number (details_if_any details).enclosing_symbol)) (sym c.in_default.is)) nothing
