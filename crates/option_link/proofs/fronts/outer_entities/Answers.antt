use Rattle.std.proofs.Common.{◌-◌, ◌<◌, length, refl, ap, arith}
use Rattle.std.proofs.lemmas.List.{length_push}
use Rattle.option_link.proofs.FrontLemmas.{front_is, front_is_entity, front_is_prefix, front_some, next_front}
use Rattle.option_link.proofs.FrontLemmas.{from_inside_none, from_inside_more, outer_from_inside}
use Rattle.option_link.proofs.fronts.outer_entities.Goals as goal

pub loop-done-init : goal.loop-done-init
loop-done-init c = (
  c.utf8.name,
  ap length c.in_ok-parts.ensures.items,
  omega (arith, c.count_components-left.ensures),
  from_inside_none c.args.file c.args.facts.now c.args.name.now c.count_components-left.result
      c.in_ok-parts.parts.items c.count_components-left.ensures c.in_ok-parts.ensures.items,
)

pub outer_of-front-requires : goal.outer_of-front-requires
outer_of-front-requires c =
    let so_far = c.loop-done.invariant in
    let several : 1 < c.loop-done.left = omega (arith, so_far.2, c.loop-done-test.true, c.requires.few) in
    front_some c.args.name.now c.loop-done.front.now c.loop-done.left so_far.3.is several

pub front_entity-requires-clause-short : goal.front_entity-requires-clause-short
front_entity-requires-clause-short c =
    let facts = c.args.facts.now in
    let name = c.args.name.now in
    let so_far = c.loop-done.invariant in
    let left = c.loop-done.left in
    let front = c.outer_of-front.result.now in
    let several : 1 < left = omega (arith, so_far.2, c.loop-done-test.true, c.requires.few) in
    let origin = c.origin.ensures in
    front_is_prefix facts (c.prefixes_are_entities.ensures facts origin)
    (c.scopes_are_known.ensures.package_name facts origin) (c.names_are_identifiers.ensures.held facts origin) name
    c.requires.declared (left - 1) (omega (arith, several)) front (front_is name front (left - 1)
    (next_front name c.loop-done.front.now front left so_far.3.is several c.outer_of-front.ensures))

pub front_entity-requires-clause-entity : goal.front_entity-requires-clause-entity
front_entity-requires-clause-entity c =
    let facts = c.args.facts.now in
    let name = c.args.name.now in
    let so_far = c.loop-done.invariant in
    let left = c.loop-done.left in
    let front = c.outer_of-front.result.now in
    let several : 1 < left = omega (arith, so_far.2, c.loop-done-test.true, c.requires.few) in
    let origin = c.origin.ensures in
    front_is_entity facts (c.prefixes_are_entities.ensures facts origin)
    (c.scopes_are_known.ensures.package_name facts origin) (c.names_are_identifiers.ensures.held facts origin) name
    c.requires.declared (left - 1) (omega (arith, several)) front (front_is name front (left - 1)
    (next_front name c.loop-done.front.now front left so_far.3.is several c.outer_of-front.ensures))
    (omega (arith, so_far.2))

pub loop-done-preserved : goal.loop-done-preserved
loop-done-preserved c =
    let so_far = c.loop-done.invariant in
    let left = c.loop-done.left in
    let parts = c.loop-done.parts.items in
    let several : 1 < left = omega (arith, so_far.2, c.loop-done-test.true, c.requires.few) in (
      c.outer_of-front.utf8,
      omega (arith, so_far.1, ap length c.in_ok-push.ensures.items, length_push parts c.front_entity.result),
      omega (arith, so_far.2, several),
      from_inside_more c.args.file c.args.facts.now c.args.name.now c.loop-done.front.now
          c.outer_of-front.result.now left (left - 1) parts c.push.new.self.items c.front_entity.result so_far.3 several
          refl c.outer_of-front.ensures c.front_entity.ensures c.in_ok-push.ensures.items,
    )

pub returns : goal.returns
returns c =
    let so_far = c.loop-done.invariant in
    outer_from_inside c.args.file c.args.facts.now c.args.name.now c.loop-done.front.now c.loop-done.left c.args.count
    c.loop-done.parts.items c.reverse.new.self.items c.reverse.ensures.items c.requires.few
    (omega (arith, so_far.1, c.loop-done-test.false, c.loop-done.auto._done-end, c.requires.some)) so_far.3
