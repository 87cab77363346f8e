use Rattle.std.proofs.Common.{◌≡◌}
use Rattle.option_link.specs.Tables.{HasName}
use Rattle.option_link.proofs.LoopLemmas.{iff_as, never_so}
use Rattle.option_link.proofs.table.DeclarationTable.is_in.Goals as goal

pub returns-then-place-file : goal.returns-then-place-file
returns-then-place-file c = never_so _ (λ its. c.if-place-file.true its.0)

pub returns : goal.returns
returns c =
    let has = HasName c.args.self.now c.args.name.now c.args.place in
    iff_as c.has_name.result has ((c.args.place.file ≡ c.args.file) × has) (λ its. (c.if-place-file.false, its))
    (λ its. its.1) c.has_name.ensures
