use Rattle.std.proofs.Common.{◌≡◌, true, false}
use Rattle.std.proofs.lemmas.Result.{err_from_is_err_and}
use Rattle.proto_grammar.specs.Terminal.{closes}
use Rattle.proto_options.specs.Reading.Walk.{item_at, items_at, inside_at}
use Rattle.proto_grammar.proofs.RepetitionUntilLemmas.{Fails-of, goes_on, is_done, stops}
use Rattle.proto_options.proofs.WalkFallLemmas.{items_fall}
use Rattle.proto_options.proofs.walk.+walk.Goals as goal

pub items-items-smaller : goal.items-items-smaller
items-items-smaller t c =
    items_fall c.args.within c.args.levels c.args.scopes.around.now c.args.scopes.inner.now c.items.options
    c.items.cursor (_, c.item.new.cursor) c.in_ok-item.ensures

pub items-items-preserved : goal.items-items-preserved
items-items-preserved t c =
    let further : closes c.items.cursor.left ≡ false = cc in
    goes_on closes
    (item_at c.args.within (inside_at c.args.levels) c.args.scopes.around.now c.args.scopes.inner.now)
    (items_fall c.args.within c.args.levels c.args.scopes.around.now c.args.scopes.inner.now) c.items.options _
    c.items.cursor c.item.new.cursor _ c.items.invariant further c.in_ok-item.ensures

pub items-returns-in_err-item : goal.items-returns-in_err-item
unfolding items_at
items-returns-in_err-item t c =
    let further : closes c.items.cursor.left ≡ false = cc in
    let step = item_at c.args.within (inside_at c.args.levels) c.args.scopes.around.now c.args.scopes.inner.now in
    let p = err_from_is_err_and c.from_residual.result c.from_residual.ensures.1 in
    rw (p.1, p.2)
    (Fails-of _ _ (step c.items.options c.items.cursor) _
    (stops closes step
    (items_fall c.args.within c.args.levels c.args.scopes.around.now c.args.scopes.inner.now) c.items.options
    c.items.cursor _ c.items.invariant further) c.in_err-item.ensures)

pub items-returns : goal.items-returns
unfolding items_at
items-returns t c =
    let past : closes c.items.cursor.left ≡ true = cc in
    is_done closes (item_at c.args.within (inside_at c.args.levels) c.args.scopes.around.now c.args.scopes.inner.now)
    (items_fall c.args.within c.args.levels c.args.scopes.around.now c.args.scopes.inner.now) c.items.options
    c.items.cursor _ c.items.invariant past
