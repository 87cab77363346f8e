use Rattle.std.proofs.Common.{◌≡◌, ◌<◌, ◌+◌, ◌∷◌, [], ◌++◌, length, map, take, ◌∙◌, ap, arith}
use Rattle.std.specs.String.{string_bytes}
use Rattle.proto_decl.specs.Names.{dotted}
use Rattle.proto_decl.specs.declared.uses.Component.{Component}
use Rattle.proto_visibility.proofs.ItemLemmas.{joined_more}
use Rattle.option_link.proofs.PackageLemmas.{up_to_first, up_to_more, up_to_all}
use Rattle.option_link.proofs.packages.add_behind.Goals as goal

pub loop-component-init : goal.loop-component-init
loop-component-init c =
    let name : string_bytes c.in_ok-name.name ≡ c.args.first.now.name = c.in_ok-name.ensures.ok ∙ c.as_str.ensures in (
      name,
      up_to_first c.args.first.now c.args.others.now c.args.marks.now.items c.add_name.new.marks.items
          c.as_str-2.result.now (c.as_str-2.ensures.value ∙ name) c.add_name.ensures,
    )

pub loop-component-preserved : goal.loop-component-preserved
loop-component-preserved c =
    let first = c.args.first.now in
    let others = c.args.others.now in
    let index = c.loop-component.component-index in
    let x = c.component-item.result in
    let old = string_bytes c.loop-component.name in
    let new = string_bytes c.push_str-in-loop-component.new.self in
    let within : index < length others = omega arith in
    let dot : string_bytes c.push_str.new.self ≡ old ++ 46 ∷ [] = c.in_ok-push_str.ensures.bytes in
    let pushed : new ≡ string_bytes c.push_str.new.self ++ c.as_str-in-loop-component.result.now =
    c.in_ok-push_str-2.ensures.bytes in
    let named : new ≡ (old ++ 46 ∷ []) ++ x.name =
    pushed ∙ (ap (λ t. t ++ c.as_str-in-loop-component.result.now) dot
    ∙ ap (λ t. (old ++ 46 ∷ []) ++ t) c.as_str-in-loop-component.ensures) in
    let is : new ≡ dotted (map (λ (k : Component). k.name) (first ∷ take (index + 1) others)) =
    joined_more first x others index old new within c.component-item.is c.loop-component.invariant.0 named in (
      is,
      up_to_more first others index c.args.marks.now.items c.loop-component.marks.items
          c.add_name-in-loop-component.new.marks.items c.as_str-in-loop-component-2.result.now (c.as_str-in-loop-component-2.ensures.value ∙ is)
          c.add_name-in-loop-component.ensures c.loop-component.invariant.1,
    )

pub returns : goal.returns
returns c =
    up_to_all c.args.first.now c.args.others.now c.loop-component.component-index c.args.marks.now.items
    c.loop-component.marks.items (omega arith) c.loop-component.invariant.1
