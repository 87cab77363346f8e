use Rattle.std.proofs.Common.{List, ◌∙◌, ap, map, subst, rules}
use Rattle.std.proofs.lemmas.List.Sorted.{IsNonDecreasingBy-from_sort_by_key}
use Rattle.proto_decl.specs.declared.uses.Component.{Component}
use Rattle.proto_visibility.specs.Clashes.{Item}
use Rattle.proto_visibility.specs.Tables.FileItems.{declared_item, AreWithPackage}
use Rattle.proto_visibility.proofs.ItemLemmas.{same_items, in_place}
use Rattle.proto_visibility.proofs.items.file_items.Goals as goal

pub returns-clause-order : goal.returns-clause-order
returns-clause-order c =
    let facts = c.args.facts.now in
    let declared = c.in_ok-items.items.items in
    let all = c.add_package.new.items.items in
    in_place c.args.number facts declared all c.sort_by_key.new.self.items
    (c.in_ok-items.ensures ∙ ap (map (declared_item c.args.number)) c.declarations.ensures)
    (subst (λ (cs : List Component). AreWithPackage c.args.number cs declared all) c.package_name.ensures
    c.in_ok-add_package.ensures) c.sort_by_key.ensures.permutation
    (c.facts_in_order.ensures.package_name facts c.origin.ensures)
    (IsNonDecreasingBy-from_sort_by_key
    (λ (item : Item). item.place.span.start) c.sort_by_key.new.self.items c.in_ok-sort_by_key.ensures.sorted
    (λ a r q k. search rules))

pub returns-clause-items : goal.returns-clause-items
returns-clause-items c =
    let facts = c.args.facts.now in
    let declared = c.in_ok-items.items.items in
    let all = c.add_package.new.items.items in
    same_items c.args.number facts declared all c.sort_by_key.new.self.items
    (c.in_ok-items.ensures ∙ ap (map (declared_item c.args.number)) c.declarations.ensures)
    (subst (λ (cs : List Component). AreWithPackage c.args.number cs declared all) c.package_name.ensures
    c.in_ok-add_package.ensures) c.sort_by_key.ensures.permutation
