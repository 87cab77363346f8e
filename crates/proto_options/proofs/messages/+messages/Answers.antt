use Rattle.std.proofs.Common.{◌≡◌, ◌+◌, ◌∷◌, ◌∙◌, ap, drop, arith}
use Rattle.proto_parse.specs.tree.Item.TheVariants.{Block}
use Rattle.proto_parse.specs.Tree.{BlockTree, body_size}
use Rattle.proto_parse.specs.Items.{body_of}
use Rattle.proto_decl.proofs.OutlineLemmas.{left_at, nested-smaller}
use Rattle.proto_grammar.specs.Lexeme.{lexemes_of}
use Rattle.proto_options.proofs.MessageLemmas.{leaf_more, block_more}
use Rattle.proto_options.proofs.messages.+messages.Goals.{add_items-in-Block+in_ok-add_block-in-Block}
use Rattle.proto_options.proofs.messages.+messages.Goals.{add_items-in-Leaf}
use Rattle.proto_options.proofs.messages.+messages.Goals as goal

pub add_items-add_block-requires : goal.add_items-add_block-requires
add_items-add_block-requires t c =
    let items = c.args.items.now in
    let rest = drop (c.loop-item.item-index + 1) items in
    let left : drop c.loop-item.item-index items ≡ Block c.in-Block.block ∷ rest =
    left_at items c.loop-item.item-index c.item-item.result c.loop-item-test.true c.item-item.is
    ∙ ap (λ x. x ∷ rest) c.in-Block.is in
    let smaller = nested-smaller items rest c.loop-item.item-index c.in-Block.block left in
    omega (arith, smaller)

pub add_block-add_items-requires : goal.add_block-add_items-requires
add_block-add_items-requires t c =
    let same : body_of c.deref.result.now ≡ c.args.block.now.body =
    ap body_of c.deref.ensures.value ∙ ap (λ (b : BlockTree). b.body) c.block.view_is in
    let smaller = ap body_size same in
    omega (arith, smaller)

pub add_items-loop-item-preserved : goal.add_items-loop-item-preserved
add_items-loop-item-preserved t c =
    let tokens = lexemes_of c.args.lexed.now.text c.args.lexed.now.tokens in
    let items = c.args.items.now in
    let index = c.loop-item.item-index in
    let rest = drop (index + 1) items in
    let left = left_at items index c.item-item.result c.loop-item-test.true c.item-item.is in
    elim c.match-item.branch [
      | add_items-in-Block+in_ok-add_block-in-Block w ↦ block_more tokens c.loop-item.facts.items
          c.match-item.facts.items _ (drop index items) rest w.in-Block.block
          (left ∙ ap (λ x. x ∷ rest) w.in-Block.is)
          (ap (λ v. v.items) w.facts-is ∙ w.in_ok-add_block-in-Block.ensures) c.loop-item.invariant
      | add_items-in-Leaf w ↦ rw w.facts-is
          (leaf_more tokens c.loop-item.facts.items _ (drop index items) rest w.in-Leaf.field-0
          (left ∙ ap (λ x. x ∷ rest) w.in-Leaf.is) c.loop-item.invariant)
    ]
