use Rattle.std.proofs.Common.{◌≡◌, ◌+◌, ◌∷◌, ◌∙◌, ap, drop, sym, subst, arith}
use Rattle.std.specs.List.{AllByRecursion}
use Rattle.std.proofs.lemmas.List.Elements.{All-get_or}
use Rattle.proto_parse.specs.tree.Item.{Item}
use Rattle.proto_parse.specs.tree.Item.TheVariants.{Block}
use Rattle.proto_lex.specs.Lexed.{IsPart}
use Rattle.proto_parse.specs.Tree.{BlockTree, Body, body_size}
use Rattle.proto_parse.specs.Items.{body_of}
use Rattle.proto_parse.specs.Parts.{anywhere, of_body, one_part}
use Rattle.proto_decl.specs.Spans.{OfPart, OfParts}
use Rattle.proto_decl.specs.Walked.{parts_of_inner}
use Rattle.proto_decl.proofs.OutlineLemmas.{left_at, nested-smaller, parts-inner}
use Rattle.proto_decl.proofs.walk.+walk.Goals as goal

pub walk_items-walk_block-requires : goal.walk_items-walk_block-requires
walk_items-walk_block-requires t c =
    let items = c.args.items.now in
    let rest = drop (c.loop-item.item-index + 1) items in
    let left : drop c.loop-item.item-index items ≡ Block c.in-Block.block ∷ rest =
    left_at items c.loop-item.item-index c.item-item.result c.loop-item-test.true c.item-item.is
    ∙ ap (λ x. x ∷ rest) c.in-Block.is in
    let smaller = nested-smaller items rest c.loop-item.item-index c.in-Block.block left in
    let of_parts = λ (item : Item). OfParts (IsPart c.args.text.now) (parts_of_inner item) in
    let here = All-get_or of_parts items c.loop-item.item-index c.item-item.result c.loop-item-test.true c.requires.1.1 in
    (omega (arith, smaller), subst of_parts c.in-Block.is (subst of_parts (sym c.item-item.is) here))

pub walk_block-walk_items-requires : goal.walk_block-walk_items-requires
walk_block-walk_items-requires t c =
    let Q = OfPart (IsPart c.args.text.now) in
    let same : body_of c.deref.result.now ≡ c.args.block.now.body =
    ap body_of c.deref.ensures.value ∙ ap (λ (b : BlockTree). b.body) c.block.view_is in
    let smaller = ap body_size same in (
      omega (arith, smaller),
      parts-inner Q c.deref.result.now
          (subst (λ (body : Body). AllByRecursion Q (of_body anywhere one_part tt body)) (sym same) c.requires.1.1.1),
    )

pub walk_block-walk_items-requires-in-None : goal.walk_block-walk_items-requires-in-None
walk_block-walk_items-requires-in-None t c =
    let Q = OfPart (IsPart c.args.text.now) in
    let same : body_of c.deref-in-None.result.now ≡ c.args.block.now.body =
    ap body_of c.deref-in-None.ensures.value ∙ ap (λ (b : BlockTree). b.body) c.block.view_is in
    let smaller = ap body_size same in (
      omega (arith, smaller),
      parts-inner Q c.deref-in-None.result.now
          (subst (λ (body : Body). AllByRecursion Q (of_body anywhere one_part tt body)) (sym same) c.requires.1.1.1),
    )
