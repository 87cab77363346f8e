use Rattle.std.proofs.Common.{ap}
use Rattle.option_link.specs.declared.contexts.Context.TheVariants as inside
use Rattle.option_link.proofs.LoopLemmas.{some_of, none_of}
use Rattle.option_link.proofs.fields.KnownFiles.group_gives.Goals as goal

pub returns-in-Some : goal.returns-in-Some
returns-in-Some c =
    let its = some_of _ _ _ c.in-Some.is c.in_ok-message.ensures in
    (ap inside.Message its.0, its.1)

pub returns-in-None : goal.returns-in-None
returns-in-None c = none_of _ _ c.in-None.is c.in_ok-message.ensures
