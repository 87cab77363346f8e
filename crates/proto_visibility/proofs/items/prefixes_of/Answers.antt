use Rattle.std.proofs.Common.{◌≡◌, ◌<◌, ◌+◌, ◌∷◌, [], ◌++◌, length, map, take, sym, ◌∙◌, ap, subst, arith}
use Rattle.std.specs.String.{string_bytes}
use Rattle.proto_decl.specs.Names.{dotted}
use Rattle.proto_visibility.proofs.ItemLemmas.{ArePrefixesOf, joined_more, prefix_first, prefix_more}
use Rattle.proto_visibility.proofs.items.prefixes_of.Goals as goal

pub loop-component-preserved : goal.loop-component-preserved
loop-component-preserved c =
    let first = c.args.first.now in
    let others = c.args.others.now in
    let index = c.loop-component.component-index in
    let x = c.component-item.result in
    let old = string_bytes c.loop-component.prefix in
    let new = string_bytes c.push_str-in-loop-component.new.self in
    let prefixes = c.loop-component.prefixes.items in
    let prefix = c.in_ok-copy_of-2.field-0 in
    let within : index < length others = omega arith in
    let dot : string_bytes c.push_str.new.self ≡ old ++ 46 ∷ [] = c.in_ok-push_str.ensures.bytes in
    let pushed : new ≡ string_bytes c.push_str.new.self ++ c.as_str-in-loop-component.result.now =
    c.in_ok-push_str-2.ensures.bytes in
    let named : new ≡ (old ++ 46 ∷ []) ++ x.name =
    pushed ∙ (ap (λ t. t ++ c.as_str-in-loop-component.result.now) dot
    ∙ ap (λ t. (old ++ 46 ∷ []) ++ t) c.as_str-in-loop-component.ensures) in
    let joined : new ≡ dotted (map (λ component. component.name) (first ∷ take (index + 1) others)) =
    joined_more first x others index old new within c.component-item.is c.loop-component.invariant.prefix named in
    let copied : prefix ≡ new = c.in_ok-copy_of-2.ensures ∙ c.as_str-in-loop-component-2.ensures.value in
    let items : c.push-in-loop-component.new.self.items ≡ prefixes ++ prefix ∷ [] = c.in_ok-push-2.ensures.items in
    record {
      prefix = joined;
      prefixes = subst (λ fs. ArePrefixesOf (first ∷ others) fs (index + 1 + 1)) (sym items)
          (prefix_more (first ∷ others) prefixes (index + 1) prefix
          (copied ∙ (joined ∙ sym (prefix_first first others (index + 1)))) c.loop-component.invariant.prefixes);
    }
