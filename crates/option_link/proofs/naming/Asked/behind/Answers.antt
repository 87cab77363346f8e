use Rattle.std.proofs.Common.{IfOk, subst, sym}
use Rattle.proto_options.specs.declared.names.OptionRole.{OptionRole}
use Rattle.proto_options.specs.declared.names.OptionRole.TheVariants as role
use Rattle.option_link.specs.Found.{IsBehind}
use Rattle.option_link.proofs.ItemLemmas.{none_behind, no_extension_behind}
use Rattle.option_link.proofs.LoopLemmas.{fails}
use Rattle.option_link.proofs.naming.Asked.behind.Goals as goal

pub returns-then-not-is_as : goal.returns-then-not-is_as
returns-then-not-is_as c =
    let self = c.args.self in
    no_extension_behind self.files.names.now self.files.known.now self.file self.text.now self.option.now c.args.number
    c.args.name.now c.args.name.now.role c.args.context
    (fails c.is_as.result _ c.is_as.ensures c.if-not-is_as.true)

pub returns-in-Some : goal.returns-in-Some
returns-in-Some c =
    let self = c.args.self in
    subst (λ (acting : OptionRole). IfOk c.behind_in_set.result (IsBehind self.files.names.now self.files.known.now
    self.file self.text.now self.option.now c.args.number c.args.name.now acting c.args.context))
    (sym (c.is_as.ensures.0 c.if-not-is_as.false)) c.behind_in_set.ensures

pub returns-in-None : goal.returns-in-None
returns-in-None c =
    let self = c.args.self in
    none_behind self.files.names.now self.files.known.now self.file self.text.now self.option.now c.args.number
    c.args.name.now c.args.name.now.role c.args.context c.in-None.ensures
