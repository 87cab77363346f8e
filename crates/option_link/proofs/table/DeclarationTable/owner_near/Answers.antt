use Rattle.option_link.specs.Lookups.{admits}
use Rattle.option_link.proofs.LoopLemmas.{fails}
use Rattle.option_link.proofs.TableLemmas.{within_files}
use Rattle.option_link.proofs.OwnerLemmas.{none_owner, not_all_owned, not_there, owner_here}
use Rattle.option_link.proofs.table.DeclarationTable.owner_near.Goals as goal

pub returns-then-not-is_owner : goal.returns-then-not-is_owner
returns-then-not-is_owner c =
    not_all_owned c.args.self.now c.args.file (admits c.args.sought) c.requires.declared c.args.name.now c.in-Some.first
    c.in-Some.ensures (fails c.is_owner.result _ c.is_owner.ensures c.if-not-is_owner.true)

pub is_present-requires : goal.is_present-requires
is_present-requires c =
    let at = c.in-Some.ensures.at in
    within_files c.args.self.now c.in-Some.first at.declaration at.stands

pub returns-then-not-is_present : goal.returns-then-not-is_present
returns-then-not-is_present c =
    not_there c.args.self.now c.args.file (admits c.args.sought) c.requires.declared c.args.name.now c.in-Some.first
    c.in-Some.ensures (fails c.is_present.result _ c.is_present.ensures c.if-not-is_present.true)

pub returns-else-not-is_present : goal.returns-else-not-is_present
returns-else-not-is_present c =
    owner_here c.args.self.now c.args.file (admits c.args.sought) c.requires.declared c.args.name.now c.in-Some.first
    c.in-Some.ensures (c.is_owner.ensures.0 c.if-not-is_owner.false)
    (c.is_present.ensures.0 c.if-not-is_present.false)

pub returns-in-None : goal.returns-in-None
returns-in-None c =
    none_owner c.args.self.now c.args.file (admits c.args.sought) c.requires.declared c.args.name.now c.in-None.ensures
