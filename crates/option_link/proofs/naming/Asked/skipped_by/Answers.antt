use Rattle.option_link.specs.Found.LeadsUnnamed.{reserved}
use Rattle.option_link.proofs.GivingLemmas.{message_leads}
use Rattle.option_link.proofs.LoopLemmas.{fails}
use Rattle.option_link.proofs.naming.Asked.skipped_by.Goals as goal

pub returns-then-not-is_reserved : goal.returns-then-not-is_reserved
returns-then-not-is_reserved c =
    let self = c.args.self in
    λ inner x. fails c.is_reserved.result _ c.is_reserved.ensures c.if-not-is_reserved.true
    (message_leads self.files.names.now self.files.known.now self.file self.text.now self.option.now c.args.number
    c.args.name.now c.args.message inner x)

pub returns : goal.returns
returns c = reserved (c.is_reserved.ensures.0 c.if-not-is_reserved.false)
