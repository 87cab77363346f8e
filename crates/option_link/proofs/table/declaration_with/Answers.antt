use Rattle.std.proofs.Common.{length, refl, arith}
use Rattle.std.proofs.lemmas.Option.{slice_get_past, slice_get_read}
use Rattle.option_link.proofs.table.declaration_with.Goals as goal

pub returns-then-index-declarations-clause-listed : goal.returns-then-index-declarations-clause-listed
returns-then-index-declarations-clause-listed c = slice_get_past c.args.declarations.now c.args.index (omega arith)

pub returns-clause-listed : goal.returns-clause-listed
returns-clause-listed c =
    let declarations = c.args.declarations.now in
    slice_get_read declarations (length declarations) c.args.index c.index-declarations-index.result refl (omega arith)
    c.index-declarations-index.is
