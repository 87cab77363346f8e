use Rattle.std.proofs.Common.{◌≡◌, true, false}
use Rattle.std.proofs.lemmas.Result.{err_from_is_err_and}
use Rattle.proto_options.specs.Grammar.Aggregates.{list_is_over, is_over}
use Rattle.proto_options.specs.Reading.Aggregates.{element_at, elements_at, item_at, items_at, message_at}
use Rattle.proto_grammar.proofs.RepetitionUntilLemmas.{Fails-of, goes_on, is_done, stops}
use Rattle.proto_options.proofs.MessageFallLemmas.{elements_fall, items_fall}
use Rattle.proto_options.proofs.aggregates.+aggregates.Goals as goal

pub elements-elements-smaller : goal.elements-elements-smaller
elements-elements-smaller t c =
    elements_fall c.args.levels c.args.around c.elements.names c.elements.cursor (_, c.element.new.cursor)
    c.in_ok-element.ensures

pub elements-elements-preserved : goal.elements-elements-preserved
elements-elements-preserved t c =
    let further : list_is_over c.elements.cursor.left ≡ false = cc in
    goes_on list_is_over (element_at (message_at c.args.levels) c.args.around)
    (elements_fall c.args.levels c.args.around) c.elements.names _ c.elements.cursor c.element.new.cursor _
    c.elements.invariant further c.in_ok-element.ensures

pub elements-returns-in_err-element : goal.elements-returns-in_err-element
unfolding elements_at
elements-returns-in_err-element t c =
    let further : list_is_over c.elements.cursor.left ≡ false = cc in
    let step = element_at (message_at c.args.levels) c.args.around in
    let p = err_from_is_err_and c.from_residual.result c.from_residual.ensures.1 in
    rw (p.1, p.2)
    (Fails-of _ _ (step c.elements.names c.elements.cursor) _
    (stops list_is_over step (elements_fall c.args.levels c.args.around) c.elements.names c.elements.cursor _
    c.elements.invariant further) c.in_err-element.ensures)

pub elements-returns : goal.elements-returns
unfolding elements_at
elements-returns t c =
    let past : list_is_over c.elements.cursor.left ≡ true = cc in
    is_done list_is_over (element_at (message_at c.args.levels) c.args.around)
    (elements_fall c.args.levels c.args.around) c.elements.names c.elements.cursor _ c.elements.invariant past

pub items-items-smaller : goal.items-items-smaller
items-items-smaller t c =
    items_fall c.args.levels c.args.around c.items.names c.items.cursor (_, c.item.new.cursor) c.in_ok-item.ensures

pub items-items-preserved : goal.items-items-preserved
items-items-preserved t c =
    let further : is_over c.args.closing c.items.cursor.left ≡ false = cc in
    goes_on (is_over c.args.closing) (item_at (message_at c.args.levels) c.args.around)
    (items_fall c.args.levels c.args.around) c.items.names _ c.items.cursor c.item.new.cursor _ c.items.invariant
    further c.in_ok-item.ensures

pub items-returns-in_err-item : goal.items-returns-in_err-item
unfolding items_at
items-returns-in_err-item t c =
    let further : is_over c.args.closing c.items.cursor.left ≡ false = cc in
    let step = item_at (message_at c.args.levels) c.args.around in
    let p = err_from_is_err_and c.from_residual.result c.from_residual.ensures.1 in
    rw (p.1, p.2)
    (Fails-of _ _ (step c.items.names c.items.cursor) _
    (stops (is_over c.args.closing) step (items_fall c.args.levels c.args.around) c.items.names c.items.cursor _
    c.items.invariant further) c.in_err-item.ensures)

pub items-returns : goal.items-returns
unfolding items_at
items-returns t c =
    let past : is_over c.args.closing c.items.cursor.left ≡ true = cc in
    is_done (is_over c.args.closing) (item_at (message_at c.args.levels) c.args.around)
    (items_fall c.args.levels c.args.around) c.items.names c.items.cursor _ c.items.invariant past
