use Rattle.std.proofs.Common.{arith, length-append}
use Rattle.std.proofs.lemmas.Str.{IsUtf8-append}
use Rattle.scip_wire.proofs.spell.symbols.parts_len.Goals as goal

pub returns-clause-value : goal.returns-clause-value
returns-clause-value c =
    omega (arith, c.saturating_add.ensures, length-append c.args.front.now c.args.rest.now)

pub returns-clause-fit : goal.returns-clause-fit
returns-clause-fit c = IsUtf8-append c.args.front.now c.args.rest.now c.utf8.front c.utf8.rest
