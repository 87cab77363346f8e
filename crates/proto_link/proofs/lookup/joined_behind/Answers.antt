use Rattle.std.proofs.Common.{◌≡◌, ◌<◌, ◌∷◌, [], ◌++◌, length, ◌∙◌, ap, arith}
use Rattle.std.specs.String.{string_bytes}
use Rattle.proto_visibility.proofs.ItemLemmas.{joined_more}
use Rattle.proto_link.proofs.lookup.joined_behind.Goals as goal

pub loop-component-preserved : goal.loop-component-preserved
loop-component-preserved c =
    let first = c.args.first.now in
    let others = c.args.others.now in
    let index = c.loop-component.component-index in
    let x = c.component-item.result in
    let old = string_bytes c.loop-component.text in
    let new = string_bytes c.push_str-in-loop-component.new.self in
    let within : index < length others = omega arith in
    let dot : string_bytes c.push_str.new.self ≡ old ++ 46 ∷ [] = c.in_ok-push_str.ensures.bytes in
    let pushed : new ≡ string_bytes c.push_str.new.self ++ c.as_str-in-loop-component.result.now =
    c.in_ok-push_str-2.ensures.bytes in
    let named : new ≡ (old ++ 46 ∷ []) ++ x.name =
    pushed ∙ (ap (λ t. t ++ c.as_str-in-loop-component.result.now) dot
    ∙ ap (λ t. (old ++ 46 ∷ []) ++ t) c.as_str-in-loop-component.ensures) in
    joined_more first x others index old new within c.component-item.is c.loop-component.invariant named
