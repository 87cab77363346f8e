use Rattle.option_link.specs.Found.LeadsUnnamed.{without_message}
use Rattle.option_link.proofs.GivingLemmas.{options_lead}
use Rattle.option_link.proofs.LoopLemmas.{fails}
use Rattle.option_link.proofs.naming.Asked.options_give.Goals as goal

pub returns-then-not-is : goal.returns-then-not-is
returns-then-not-is c =
    let self = c.args.self in
    λ inner x. fails c.in_ok-is.is' _ c.in_ok-is.ensures c.if-not-is.true
    (options_lead self.files.names.now self.files.known.now self.file self.text.now self.option.now c.args.number
    c.args.name.now
    inner x)

pub returns : goal.returns
returns c = without_message (c.in_ok-is.ensures.0 c.if-not-is.false)
