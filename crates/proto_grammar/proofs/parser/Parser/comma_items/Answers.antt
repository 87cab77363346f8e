use Rattle.std.proofs.Common.{◌≡◌, true, false, refl}
use Rattle.std.proofs.lemmas.Result.{err_from_is_err_and}
use Rattle.proto_lex.specs.declared.token.TokenKind.TheVariants.{Comma}
use Rattle.proto_grammar.specs.Terminal.{first_is, of_kind, not_next}
use Rattle.proto_grammar.specs.Reading.Repetition.{passing}
use Rattle.proto_grammar.specs.Reading.Reserved.{comma_item_at, comma_items_at}
use Rattle.proto_grammar.proofs.RepetitionUntilLemmas.{Fails-of, goes_on, is_done, stops}
use Rattle.proto_grammar.proofs.RepetitionFallLemmas.{comma_items_fall}
use Rattle.proto_grammar.proofs.parser.Parser.comma_items.Goals as goal

pub items-smaller : goal.items-smaller
items-smaller c = comma_items_fall c.args.negative c.args.names tt c.items.self
    (tt, c.comma_item.new.self) c.in_ok-comma_item.ensures

pub items-preserved : goal.items-preserved
items-preserved c =
    let is : first_is (of_kind Comma) c.items.self.left ≡ true = cc in
    let further : not_next Comma c.items.self.left ≡ false = rw is refl in
    goes_on (not_next Comma) (passing (comma_item_at c.args.negative c.args.names))
    (comma_items_fall c.args.negative c.args.names) tt tt c.items.self c.comma_item.new.self _
    c.items.invariant
    further c.in_ok-comma_item.ensures

pub returns-in_err-comma_item : goal.returns-in_err-comma_item
unfolding comma_items_at
returns-in_err-comma_item c =
    let is : first_is (of_kind Comma) c.items.self.left ≡ true = cc in
    let further : not_next Comma c.items.self.left ≡ false = rw is refl in
    let p = err_from_is_err_and c.from_residual.result c.from_residual.ensures.1 in
    rw (p.1, p.2)
    (Fails-of _ _ (passing (comma_item_at c.args.negative c.args.names) tt c.items.self) _
    (stops (not_next Comma) (passing (comma_item_at c.args.negative c.args.names))
    (comma_items_fall c.args.negative c.args.names) tt c.items.self _ c.items.invariant further)
    c.in_err-comma_item.ensures)

pub returns : goal.returns
unfolding comma_items_at
returns c =
    let is : first_is (of_kind Comma) c.items.self.left ≡ false = cc in
    let past : not_next Comma c.items.self.left ≡ true = rw is refl in
    is_done (not_next Comma) (passing (comma_item_at c.args.negative c.args.names))
    (comma_items_fall c.args.negative c.args.names) tt c.items.self _ c.items.invariant past
