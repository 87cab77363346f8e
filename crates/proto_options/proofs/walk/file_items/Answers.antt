use Rattle.std.proofs.Common.{◌≡◌, true, false}
use Rattle.std.proofs.lemmas.Result.{err_from_is_err_and}
use Rattle.proto_grammar.specs.Terminal.{is_end}
use Rattle.proto_options.specs.declared.statements.Within.TheVariants.{File}
use Rattle.proto_options.specs.Reading.Walk.{item_at, file_items_at, inside_at}
use Rattle.proto_grammar.proofs.RepetitionUntilLemmas.{Fails-of, goes_on, is_done, stops}
use Rattle.proto_options.proofs.WalkFallLemmas.{items_fall}
use Rattle.proto_options.proofs.walk.file_items.Goals as goal

pub items-smaller : goal.items-smaller
items-smaller c =
    items_fall File c.args.levels c.args.scope.now c.args.scope.now c.items.options c.items.cursor
    (_, c.item.new.cursor)
    c.in_ok-item.ensures

pub items-preserved : goal.items-preserved
items-preserved c =
    let further : is_end c.items.cursor.left ≡ false = cc in
    goes_on is_end (item_at File (inside_at c.args.levels) c.args.scope.now c.args.scope.now)
    (items_fall File c.args.levels c.args.scope.now c.args.scope.now) c.items.options _ c.items.cursor
    c.item.new.cursor _ c.items.invariant further c.in_ok-item.ensures

pub returns-in_err-item : goal.returns-in_err-item
unfolding file_items_at
returns-in_err-item c =
    let further : is_end c.items.cursor.left ≡ false = cc in
    let step = item_at File (inside_at c.args.levels) c.args.scope.now c.args.scope.now in
    let p = err_from_is_err_and c.from_residual.result c.from_residual.ensures.1 in
    rw (p.1, p.2)
    (Fails-of _ _ (step c.items.options c.items.cursor) _
    (stops is_end step (items_fall File c.args.levels c.args.scope.now c.args.scope.now) c.items.options
    c.items.cursor _ c.items.invariant further) c.in_err-item.ensures)

pub returns : goal.returns
unfolding file_items_at
returns c =
    let past : is_end c.items.cursor.left ≡ true = cc in
    is_done is_end (item_at File (inside_at c.args.levels) c.args.scope.now c.args.scope.now)
    (items_fall File c.args.levels c.args.scope.now c.args.scope.now) c.items.options c.items.cursor _
    c.items.invariant past
