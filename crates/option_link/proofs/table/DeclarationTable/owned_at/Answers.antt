use Rattle.option_link.specs.Lookups.{admits}
use Rattle.option_link.proofs.LoopLemmas.{fails}
use Rattle.option_link.proofs.OwnerLemmas.{not_sought, left_out, owned_there}
use Rattle.option_link.proofs.TableLemmas.{within_files}
use Rattle.option_link.proofs.table.DeclarationTable.owned_at.Goals as goal

pub returns-then-not-is_sought : goal.returns-then-not-is_sought
returns-then-not-is_sought c =
    not_sought c.args.self.now c.args.file (admits c.args.sought) c.requires.declared c.args.name.now c.args.place
    c.requires.near (fails c.is_sought.result _ c.is_sought.ensures c.if-not-is_sought.true)

pub is_present-requires : goal.is_present-requires
is_present-requires c =
    let at = (c.is_sought.ensures.0 c.if-not-is_sought.false).at in
    within_files c.args.self.now c.args.place at.declaration at.stands

pub returns-then-not-is_present : goal.returns-then-not-is_present
returns-then-not-is_present c =
    left_out c.args.self.now c.args.file (admits c.args.sought) c.requires.declared c.args.name.now c.args.place
    c.requires.near (c.is_sought.ensures.0 c.if-not-is_sought.false)
    (fails c.is_present.result _ c.is_present.ensures c.if-not-is_present.true)

pub returns : goal.returns
returns c =
    owned_there c.args.self.now c.args.file (admits c.args.sought) c.requires.declared c.args.name.now c.args.place
    c.requires.near (c.is_sought.ensures.0 c.if-not-is_sought.false)
    (c.is_present.ensures.0 c.if-not-is_present.false)
