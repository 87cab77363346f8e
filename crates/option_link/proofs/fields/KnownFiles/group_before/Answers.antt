use Rattle.option_link.specs.Found.IsMemberHere.{group}
use Rattle.option_link.proofs.LoopLemmas.{fails}
use Rattle.option_link.proofs.OwnFieldLemmas.{no_group_before, none_before, not_group_before, not_in_braces}
use Rattle.option_link.proofs.OwnFieldLemmas.{place_before}
use Rattle.option_link.proofs.fields.KnownFiles.group_before.Goals as goal

pub returns-then-not-in_braces : goal.returns-then-not-in_braces
returns-then-not-in_braces c =
    let self = c.args.self in
    not_in_braces self.names.now self.known.now self.in_order c.args.place c.args.in_braces c.requires
    c.if-not-in_braces.true

pub returns-then-place-eq0 : goal.returns-then-place-eq0
returns-then-place-eq0 c =
    let self = c.args.self in
    none_before self.names.now self.known.now self.in_order c.args.place c.args.in_braces c.requires
    c.if-place-eq0.true

pub returns-then-not-is_own_group : goal.returns-then-not-is_own_group
returns-then-not-is_own_group c =
    let self = c.args.self in
    not_group_before self.names.now self.known.now self.in_order c.args.place c.args.in_braces
    c.requires _ (place_before c.args.place c.if-place-eq0.false) c.in-Some.fact c.in-Some.ensures.field
    (fails c.is_own_group.result _ c.is_own_group.ensures c.if-not-is_own_group.true)

pub returns-else-not-is_own_group : goal.returns-else-not-is_own_group
returns-else-not-is_own_group c =
    let its = c.is_own_group.ensures.0 c.if-not-is_own_group.false in
    group c.if-not-in_braces.false (place_before c.args.place c.if-place-eq0.false) c.requires c.in-Some.ensures.field
    its.0 its.1

pub returns-in-None : goal.returns-in-None
returns-in-None c =
    let self = c.args.self in
    no_group_before self.names.now self.known.now self.in_order c.args.place c.args.in_braces
    c.requires _ (place_before c.args.place c.if-place-eq0.false) c.in-None.ensures.field
