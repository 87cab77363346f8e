use Rattle.std.proofs.Common.{refl}
use Rattle.std.proofs.lemmas.Int.{to_z-of_z}
use Rattle.std.specs.Int.{w32}
use Rattle.scip_query.proofs.queries.Queries.outlined.Goals as goal

pub returns : goal.returns
returns c =
    rw (
      to_z-of_z w32 c.kind_of.result (record { sfits = c.kind_of.type_inv }),
      c.depth_in.ensures c.args.named.document.now c.requires.table,
      c.kind_of.ensures,
      c.as_bytes.ensures.value,
      c.as_str-symbol.ensures,
    ) refl
