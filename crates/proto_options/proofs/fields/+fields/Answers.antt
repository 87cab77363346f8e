use Rattle.std.proofs.Common.{◌≡◌, ◌+◌, ◌∷◌, ◌∙◌, ap, drop, arith}
use Rattle.proto_parse.specs.tree.Item.TheVariants.{Block}
use Rattle.proto_parse.specs.Tree.{BlockTree, body_size}
use Rattle.proto_parse.specs.Items.{body_of}
use Rattle.proto_decl.proofs.OutlineLemmas.{left_at, nested-smaller}
use Rattle.proto_options.proofs.fields.+fields.Goals as goal

pub add_items-add_block-requires : goal.add_items-add_block-requires
add_items-add_block-requires t c =
    let items = c.args.items.now in
    let rest = drop (c.loop-item.item-index + 1) items in
    let left : drop c.loop-item.item-index items ≡ Block c.in-Block.block ∷ rest =
    left_at items c.loop-item.item-index c.item-item.result c.loop-item-test.true c.item-item.is
    ∙ ap (λ x. x ∷ rest) c.in-Block.is in
    let smaller = nested-smaller items rest c.loop-item.item-index c.in-Block.block left in
    omega (arith, smaller)

pub add_block-add_items-requires : goal.add_block-add_items-requires
add_block-add_items-requires t c =
    let same : body_of c.deref.result.now ≡ c.args.block.now.body =
    ap body_of c.deref.ensures.value ∙ ap (λ (b : BlockTree). b.body) c.block.view_is in
    let smaller = ap body_size same in
    omega (arith, smaller)
