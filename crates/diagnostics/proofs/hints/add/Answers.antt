use Rattle.diagnostics.specs.Hints.{CouldStand}
use Rattle.diagnostics.proofs.HintLemmas.{texts, none_kept, after_first, all_kept}
use Rattle.diagnostics.proofs.hints.add.Goals as goal

pub loop-rest-init : goal.loop-rest-init
loop-rest-init c =
    none_kept (CouldStand c.args.place.now.dialect c.args.place.now.front.now) (texts c.args.candidates.now)
    (texts c.args.found.now.items)

pub loop-rest-preserved : goal.loop-rest-preserved
loop-rest-preserved c =
    after_first (CouldStand c.args.place.now.dialect c.args.place.now.front.now) (texts c.args.candidates.now)
    (texts c.args.found.now.items) c.loop-rest.rest.now _ (texts c.loop-rest.found.items)
    (texts c.add_one.new.found.items) c.in-len1-up.len_at_least c.loop-rest.invariant c.in_ok-add_one.ensures

pub returns : goal.returns
returns c =
    all_kept (CouldStand c.args.place.now.dialect c.args.place.now.front.now) (texts c.args.candidates.now)
    (texts c.args.found.now.items) c.loop-rest.rest.now (texts c.loop-rest.found.items) c.in_default.len_below
    c.loop-rest.invariant
