use Rattle.option_link.specs.Fields.{ValueGives}
use Rattle.option_link.specs.Found.{LeadsUnnamed}
use Rattle.option_link.specs.Found.LeadsUnnamed.{key, map_value}
use Rattle.option_link.specs.declared.contexts.Context.{Context}
use Rattle.option_link.specs.declared.contexts.Context.TheVariants as inside
use Rattle.option_link.proofs.GivingLemmas.{entry_plain, entry_word, entry_value}
use Rattle.option_link.proofs.LoopLemmas.{fails, found_as}
use Rattle.option_link.proofs.naming.Asked.entry_gives.Goals as goal

pub returns-then-not-is_as : goal.returns-then-not-is_as
returns-then-not-is_as c =
    let self = c.args.self in
    λ inner x. fails c.is_as.result _ c.is_as.ensures c.if-not-is_as.true
    (entry_plain self.files.names.now self.files.known.now self.file self.text.now self.option.now c.args.number
    c.args.name.now
    c.args.map inner x)

pub returns-then-is_word : goal.returns-then-is_word
returns-then-is_word c = key (c.is_as.ensures.0 c.if-not-is_as.false) (c.is_word.ensures.0 c.if-is_word.true)

pub returns-then-not-is_word : goal.returns-then-not-is_word
returns-then-not-is_word c =
    let self = c.args.self in
    entry_word self.files.names.now self.files.known.now self.file self.text.now self.option.now c.args.number
    c.args.name.now
    c.args.map (fails c.is_word.result _ c.is_word.ensures c.if-is_word.false)
    (fails c.is_word-2.result _ c.is_word-2.ensures c.if-not-is_word.true)

pub returns : goal.returns
returns c =
    let self = c.args.self in
    let files = self.files.names.now in
    let known = self.files.known.now in
    let text = self.text.now in
    let option = self.option.now in
    let number = c.args.number in
    let name = c.args.name.now in
    let holder = c.args.map in
    found_as c.value_gives.result ((inner : Context) → ValueGives files known holder inner → ⊥)
    ((inner : Context) → LeadsUnnamed files known self.file text option number name (inside.Entries holder) inner → ⊥)
    (ValueGives files known holder) (LeadsUnnamed files known self.file text option number name (inside.Entries holder))
    (λ none inner x. none inner (entry_value files known self.file text option number name holder
    (fails c.is_word.result _ c.is_word.ensures c.if-is_word.false) inner x))
    (λ inner x. map_value (c.is_as.ensures.0 c.if-not-is_as.false) (c.is_word-2.ensures.0
    c.if-not-is_word.false) x)
    c.value_gives.ensures
