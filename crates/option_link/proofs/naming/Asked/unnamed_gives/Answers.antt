use Rattle.std.proofs.Common.{MatchOption, IfOk, sym, subst}
use Rattle.option_link.specs.Found.{LeadsUnnamed}
use Rattle.option_link.specs.Found.LeadsUnnamed.{skipped}
use Rattle.option_link.specs.declared.contexts.Context.{Context}
use Rattle.option_link.specs.declared.contexts.Context.TheVariants as inside
use Rattle.option_link.proofs.GivingLemmas.{enum_leads_none, scalar_leads_none}
use Rattle.option_link.proofs.TableLemmas.{links_within}
use Rattle.option_link.proofs.naming.Asked.unnamed_gives.Goals as goal

pub returns-in-Entries : goal.returns-in-Entries
returns-in-Entries c =
    let self = c.args.self in
    subst (λ (context : Context). IfOk c.entry_gives.result (λ found. MatchOption found
    ((inner : Context) → LeadsUnnamed self.files.names.now self.files.known.now self.file self.text.now self.option.now
    c.args.number c.args.name.now context inner → ⊥)
    (LeadsUnnamed self.files.names.now self.files.known.now self.file self.text.now self.option.now c.args.number
    c.args.name.now
    context))) (sym c.in-Entries.is) c.entry_gives.ensures

pub untold_gives-requires : goal.untold_gives-requires
untold_gives-requires c = links_within c.args.self.files.names.now c.args.self.file c.requires

pub returns-in-Untold : goal.returns-in-Untold
returns-in-Untold c =
    let self = c.args.self in
    subst (λ (context : Context). IfOk c.untold_gives.result (λ found. MatchOption found
    ((inner : Context) → LeadsUnnamed self.files.names.now self.files.known.now self.file self.text.now self.option.now
    c.args.number c.args.name.now context inner → ⊥)
    (LeadsUnnamed self.files.names.now self.files.known.now self.file self.text.now self.option.now c.args.number
    c.args.name.now
    context))) (sym c.in-Untold.is) c.untold_gives.ensures

pub returns-in-Options : goal.returns-in-Options
returns-in-Options c =
    let self = c.args.self in
    subst (λ (context : Context). IfOk c.options_give.result (λ found. MatchOption found
    ((inner : Context) → LeadsUnnamed self.files.names.now self.files.known.now self.file self.text.now self.option.now
    c.args.number c.args.name.now context inner → ⊥)
    (LeadsUnnamed self.files.names.now self.files.known.now self.file self.text.now self.option.now c.args.number
    c.args.name.now
    context))) (sym c.in-Options.is) c.options_give.ensures

pub returns-in-Message : goal.returns-in-Message
returns-in-Message c =
    let self = c.args.self in
    subst (λ (context : Context). MatchOption c.skipped_by.result
    ((inner : Context) → LeadsUnnamed self.files.names.now self.files.known.now self.file self.text.now self.option.now
    c.args.number c.args.name.now context inner → ⊥)
    (LeadsUnnamed self.files.names.now self.files.known.now self.file self.text.now self.option.now c.args.number
    c.args.name.now context)) (sym c.in-Message.is) c.skipped_by.ensures

pub returns-in-Skipped : goal.returns-in-Skipped
returns-in-Skipped c =
    let self = c.args.self in
    subst (λ (context : Context). LeadsUnnamed self.files.names.now self.files.known.now self.file self.text.now
    self.option.now c.args.number c.args.name.now context inside.Skipped) (sym c.in-Skipped.is) skipped

pub returns-in-Enum : goal.returns-in-Enum
returns-in-Enum c =
    let self = c.args.self in
    subst (λ (context : Context). (inner : Context) → LeadsUnnamed self.files.names.now self.files.known.now self.file
    self.text.now self.option.now c.args.number c.args.name.now context inner → ⊥) (sym c.in-Enum.is)
    (enum_leads_none self.files.names.now self.files.known.now self.file self.text.now self.option.now
    c.args.number c.args.name.now c.in-Enum.field-0)

pub returns-in-Scalar : goal.returns-in-Scalar
returns-in-Scalar c =
    let self = c.args.self in
    subst (λ (context : Context). (inner : Context) → LeadsUnnamed self.files.names.now self.files.known.now self.file
    self.text.now self.option.now c.args.number c.args.name.now context inner → ⊥) (sym c.in-Scalar.is)
    (scalar_leads_none self.files.names.now self.files.known.now self.file self.text.now self.option.now
    c.args.number c.args.name.now)
