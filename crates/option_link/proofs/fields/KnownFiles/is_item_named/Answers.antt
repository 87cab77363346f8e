use Rattle.std.proofs.Common.{◌≡◌, Some}
use Rattle.option_link.specs.Fields.{FieldGives, IsFieldOf, IsItem}
use Rattle.option_link.specs.Typed.{IsAroundIn}
use Rattle.option_link.specs.declared.contexts.Context.TheVariants as inside
use Rattle.option_link.specs.declared.place.DeclaredPlace.{DeclaredPlace}
use Rattle.option_link.proofs.ItemLemmas.{found_is, item_around, item_by, item_extends, one_around_message}
use Rattle.option_link.proofs.LoopLemmas.{fails, iff_as, never_so}
use Rattle.option_link.proofs.MemberLemmas.{one_message}
use Rattle.option_link.proofs.TypeLemmas.{one_field_gives}
use Rattle.option_link.proofs.fields.KnownFiles.is_item_named.Goals as goal

pub returns-then-not-is_inside : goal.returns-then-not-is_inside
returns-then-not-is_inside c =
    let self = c.args.self in
    let files = self.names.now in
    let stands = c.requires.stands in
    never_so _ (λ x. fails c.is_place-is_inside.result _ c.is_place-is_inside.ensures c.if-not-is_inside.true
    ((found_is c.message_around.result (IsAroundIn files c.args.field.file c.args.full_name.now)
    c.message_around.ensures (one_around_message files c.args.field.file c.args.full_name.now) c.args.message).1
    (item_around files c.linked.ensures.origins c.facts_are_filled.ensures.names self.known.now c.args.set
    c.args.message c.args.field stands.0 stands.1 c.args.full_name.now stands.2 x)))

pub returns-then-not-is_of_set : goal.returns-then-not-is_of_set
returns-then-not-is_of_set c =
    let self = c.args.self in
    let files = self.names.now in
    let known = self.known.now in
    let field = c.args.field in
    never_so _ (λ x. fails c.is_place-is_of_set.result _ c.is_place-is_of_set.ensures c.if-not-is_of_set.true
    ((found_is c.in_ok-extended.extended (λ (m : DeclaredPlace). IsFieldOf files known m field)
    c.in_ok-extended.ensures
    (λ m n p q. one_message files c.linked.ensures.origins c.facts_are_filled.ensures.names known self.in_order
    c.facts_in_order.ensures.uses c.facts_are_filled.ensures.uses m n field p q) c.args.set).1
    (item_extends files known c.args.set c.args.message field x)))

pub returns : goal.returns
returns c =
    let self = c.args.self in
    let files = self.names.now in
    let known = self.known.now in
    let field = c.args.field in
    let set = c.args.set in
    let message = c.args.message in
    let stands = c.requires.stands in
    let its = c.requires.extends in
    let around = (found_is c.message_around.result (IsAroundIn files field.file c.args.full_name.now)
    c.message_around.ensures (one_around_message files field.file c.args.full_name.now) message).0
    (c.is_place-is_inside.ensures.0 c.if-not-is_inside.false) in
    let extends = (found_is c.in_ok-extended.extended (λ (m : DeclaredPlace). IsFieldOf files known m field)
    c.in_ok-extended.ensures
    (λ m n p q. one_message files c.linked.ensures.origins c.facts_are_filled.ensures.names known self.in_order
    c.facts_in_order.ensures.uses c.facts_are_filled.ensures.uses m n field p q) set).0
    (c.is_place-is_of_set.ensures.0 c.if-not-is_of_set.false) in
    let given = found_is c.in_ok-given.given (FieldGives files known field) c.in_ok-given.ensures
    (one_field_gives files c.linked.ensures.origins known self.in_order c.facts_in_order.ensures.uses
    c.facts_are_filled.ensures.uses field) (inside.Message message) in
    iff_as c.is_message.result (c.in_ok-given.given ≡ Some (inside.Message message))
    (IsItem files known set message field)
    (λ is. item_by files c.linked.ensures.origins c.facts_are_filled.ensures.names known set message field stands.0
    stands.1 c.args.full_name.now stands.2 self.in_order its.0 its.1 its.2 its.3 around extends (given.0 is))
    (λ x. given.1 x.of_type) c.is_message.ensures
