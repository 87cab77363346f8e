use Rattle.std.proofs.Common.{◌≡◌, ◌<◌, ◌+◌, ◌∷◌, [], ◌++◌, Some, false, length, refl, ap, sym, ◌∙◌, subst, arith}
use Rattle.std.specs.List.{slice_get}
use Rattle.std.proofs.lemmas.Option.{slice_get_read}
use Rattle.proto_visibility.specs.Clashes.{Item}
use Rattle.proto_visibility.specs.Tables.FileItems.{packaged_item}
use Rattle.proto_visibility.proofs.ItemLemmas.{AreWithFirst, with_more, with_all}
use Rattle.proto_visibility.proofs.items.add_package.Goals as goal

pub loop-index-preserved : goal.loop-index-preserved
loop-index-preserved c =
    let components = c.args.components.now in
    let component = c.index-components-index.result in
    let prefixes = c.args.prefixes.now in
    let prefix = c.index-prefixes-index.result in
    let index = c.loop-index.index in
    let old = c.args.items.now.items in
    let now = c.loop-index.items.items in
    let within : index < length components = omega arith in
    let stands : slice_get components index ≡ Some component =
    slice_get_read components (length components) index component refl within c.index-components-index.is in
    let prefix_stands : slice_get prefixes index ≡ Some prefix =
    slice_get_read prefixes (length components) index prefix
    (sym c.requires.one_each) within c.index-prefixes-index.is in
    let name = c.whole.ensures ∙ (c.as_str.ensures ∙ c.requires.each index prefix prefix_stands) in
    let item : Item = record {
      place = record { file = c.args.number; span = component.span };
      full_name = c.whole.result;
      is_declaration = false;
    } in
    let is : item ≡ packaged_item c.args.number components index component =
    ap (λ n. record {
      place = record { file = c.args.number; span = component.span };
      full_name = n;
      is_declaration = false;
    }) name in
    let items : c.push.new.self.items ≡ now ++ item ∷ [] = c.in_ok-push.ensures.items in
    subst (λ xs. AreWithFirst c.args.number components old xs (index + 1)) (sym items)
    (with_more c.args.number components old now index component item within c.index-components-index.is stands is
    c.loop-index.invariant)

pub returns : goal.returns
returns c = with_all c.args.number c.args.components.now c.args.items.now.items c.loop-index.items.items
    c.loop-index.index (omega arith) c.loop-index.invariant
