use Rattle.std.proofs.Common.{List, [], ℕ, get_or}
use Rattle.std.specs.Borrow.{Bor}
use Rattle.scip_survey.proofs.NearestNameLemmas.{found, near_is, no_more, not_found}
use Rattle.scip_survey.proofs.near.nearest_of.Goals as goal

abbrev no_name : Bor (List ℕ)
no_name = record { ref_ptr = (0, 0); now = [] }

pub loop-name-preserved : goal.loop-name-preserved
loop-name-preserved c =
    let text = c.args.text.now in
    let names = c.args.names.now in
    let at = c.loop-name.name-index in
    let name : Bor (List ℕ) = get_or names at no_name in
    no_more text names at no_name c.in_ok-near.near c.loop-name-test.true
    (near_is text names name c.in_ok-least.least c.in_ok-near.near
    c.in_ok-least.ensures c.in_ok-near.ensures.few c.in_ok-near.ensures.near)
    c.if-near.false c.loop-name.invariant

pub returns-then-near : goal.returns-then-near
returns-then-near c =
    let text = c.args.text.now in
    let names = c.args.names.now in
    let at = c.loop-name.name-index in
    let name : Bor (List ℕ) = get_or names at no_name in
    found text names at no_name c.in_ok-near.near c.loop-name-test.true
    (near_is text names name c.in_ok-least.least c.in_ok-near.near
    c.in_ok-least.ensures c.in_ok-near.ensures.few c.in_ok-near.ensures.near)
    c.if-near.true c.loop-name.invariant

pub returns : goal.returns
returns c =
    not_found c.args.text.now c.args.names.now c.loop-name.name-index c.loop-name-test.false c.loop-name.invariant
