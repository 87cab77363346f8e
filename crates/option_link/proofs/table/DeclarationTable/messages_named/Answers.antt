use Rattle.std.proofs.Common.{List, ℕ, get_or, sym, subst, arith}
use Rattle.std.proofs.lemmas.Option.{slice_get-get_or}
use Rattle.option_link.specs.declared.table.Listed.{Listed}
use Rattle.option_link.specs.Contexts.{IsMessageNamed}
use Rattle.option_link.specs.Tables.{AreNear}
use Rattle.option_link.proofs.LoopLemmas.{Kept, kept_none, kept_more, kept_all}
use Rattle.option_link.proofs.OwnerLemmas.{nothing}
use Rattle.option_link.proofs.SoughtLemmas.{messages_by}
use Rattle.option_link.proofs.table.DeclarationTable.messages_named.Goals as goal

pub loop-one-init : goal.loop-one-init
loop-one-init c =
    let is = IsMessageNamed c.args.self.now c.args.name.now in
    let listed = c.near-listed.result.now in
    subst (Kept (λ (one : Listed). one.place) is listed 0) (sym c.new-messages.ensures.items)
    (kept_none (λ (one : Listed). one.place) is listed)

pub loop-one-preserved : goal.loop-one-preserved
loop-one-preserved c =
    let listed = c.near-listed.result.now in
    let index = c.loop-one.one-index in
    kept_more (λ (one : Listed). one.place) (IsMessageNamed c.args.self.now c.args.name.now) listed index
    (get_or listed index nothing) c.loop-one.messages.items c.push_if.new.places.items c.is_message_named-is.result
    (slice_get-get_or listed index nothing (omega arith)) c.is_message_named-is.ensures c.in_ok-push_if.ensures
    c.loop-one.invariant

pub returns : goal.returns
returns c =
    let listed = c.near-listed.result.now in
    let near = subst (λ (n : List ℕ). AreNear c.args.self.now n listed) c.whole.ensures c.near-listed.ensures in
    messages_by c.args.self.now c.args.name.now listed c.loop-one.messages.items near
    (kept_all (λ (one : Listed). one.place) (IsMessageNamed c.args.self.now c.args.name.now) listed
    c.loop-one.one-index c.loop-one.messages.items (omega arith) c.loop-one.invariant)
