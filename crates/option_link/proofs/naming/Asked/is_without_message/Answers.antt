use Rattle.std.proofs.Common.{◌↔◌, IsTrue}
use Rattle.option_link.specs.Contexts.{LacksMessage, options_message}
use Rattle.option_link.specs.Found.{IsWithoutMessage}
use Rattle.option_link.proofs.LoopLemmas.{fails, iff_as, never_so, ok_as}
use Rattle.option_link.proofs.naming.Asked.is_without_message.Goals as goal

pub returns-then-not-is_as : goal.returns-then-not-is_as
returns-then-not-is_as c = never_so _ (λ is. fails c.is_as.result _ c.is_as.ensures c.if-not-is_as.true is.plain)

pub returns : goal.returns
returns c =
    let self = c.args.self in
    let files = self.files.names.now in
    let option = self.option.now in
    let name = c.args.name.now in
    ok_as c.lacks_message.result (λ is. IsTrue is ↔ LacksMessage files self.file (options_message option.element))
    (λ is. IsTrue is ↔ IsWithoutMessage files self.file option name)
    (λ is iff. iff_as is (LacksMessage files self.file (options_message option.element))
    (IsWithoutMessage files self.file option name)
    (λ lacks. record { plain = c.is_as.ensures.0 c.if-not-is_as.false; lacks = lacks }) (λ its. its.lacks) iff)
    c.lacks_message.ensures
