use Rattle.std.proofs.Common.{◌≤◌, length, arith}
use Rattle.std.specs.Prelude.{vec_capacity}
use Rattle.scip_wire.specs.Spelling.{spelling_of}
use Rattle.scip_wire.proofs.OutputLemmas.{all_filled}
use Rattle.scip_wire.proofs.write.spell_index.Goals as goal

pub returns-clause-bytes : goal.returns-clause-bytes
returns-clause-bytes c =
    let made = c.in_ok-bytes.ensures in
    let room : length (spelling_of c.args.index.now) ≤ vec_capacity c.in_ok-bytes.bytes =
    omega (arith, c.in-Ok.ensures.len.1, made.exact) in
    all_filled _ _ _ _ _ made.items made.len room c.encode.ensures
