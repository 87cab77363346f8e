use Rattle.option_link.specs.Tables.{IsOnly}
use Rattle.std.proofs.Common.{subst}
use Rattle.option_link.proofs.LoopLemmas.{fails, never_so}
use Rattle.option_link.proofs.SoughtLemmas.{none_named, not_named, named_by}
use Rattle.option_link.proofs.table.DeclarationTable.is_message_named.Goals as goal

pub returns-then-not-is_same : goal.returns-then-not-is_same
returns-then-not-is_same c =
    let only = c.in-Some.ensures in
    never_so _ (not_named c.args.self.now c.args.name.now c.args.place c.in-Some.only only
    (fails c.is_same.result _ c.is_same.ensures c.if-not-is_same.true))

pub returns-else-not-is_same : goal.returns-else-not-is_same
returns-else-not-is_same c =
    let only = c.in-Some.ensures in
    named_by c.args.self.now c.args.name.now c.args.place c.is_message_at.result
    (subst (IsOnly c.args.self.now c.args.place.file c.args.name.now) (c.is_same.ensures.0 c.if-not-is_same.false) only)
    c.is_message_at.ensures

pub returns-in-None : goal.returns-in-None
returns-in-None c =
    never_so _ (none_named c.args.self.now c.args.name.now c.args.place c.in-None.ensures)
