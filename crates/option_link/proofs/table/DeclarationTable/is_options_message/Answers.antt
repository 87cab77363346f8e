use Rattle.std.proofs.Common.{refl}
use Rattle.option_link.specs.Contexts.{options_message}
use Rattle.option_link.proofs.LoopLemmas.{fails, never_so, some_of, none_of}
use Rattle.option_link.proofs.MessageKindLemmas.{other_there, same_there, present_iff}
use Rattle.option_link.proofs.TableLemmas.{within_files}
use Rattle.option_link.proofs.table.DeclarationTable.is_options_message.Goals as goal

pub returns-then-not-is_same : goal.returns-then-not-is_same
returns-then-not-is_same c =
    never_so _ (λ both. other_there c.args.self.now (options_message c.args.element) c.args.message c.in-Some.found
    (some_of _ _ _ c.in-Some.is c.in_ok-found.ensures)
    (fails c.is_same.result _ c.is_same.ensures c.if-not-is_same.true) both.0)

pub is_present-requires : goal.is_present-requires
is_present-requires c =
    let named = same_there c.args.self.now (options_message c.args.element) c.args.message c.in-Some.found
    (some_of _ _ _ c.in-Some.is c.in_ok-found.ensures) (c.is_same.ensures.0 c.if-not-is_same.false) in
    within_files c.args.self.now c.args.message named.declaration named.stands.stands

pub returns-else-not-is_same : goal.returns-else-not-is_same
returns-else-not-is_same c =
    present_iff c.args.self.now (options_message c.args.element) c.args.message c.is_present.result
    (same_there c.args.self.now (options_message c.args.element) c.args.message c.in-Some.found
    (some_of _ _ _ c.in-Some.is c.in_ok-found.ensures) (c.is_same.ensures.0 c.if-not-is_same.false))
    c.is_present.ensures

pub returns-in-None : goal.returns-in-None
returns-in-None c =
    never_so _ (λ both. none_of _ _ c.in-None.is c.in_ok-found.ensures c.args.message
    (record { named = both.0; in_file = refl }))
