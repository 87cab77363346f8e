use Rattle.std.proofs.Common.{◌∷◌, take, subst, sym, List, arith}
use Rattle.std.specs.List.{Contains}
use Rattle.std.proofs.lemmas.List.{take_all}
use Rattle.std.proofs.lemmas.Option.{slice_get-get_or}
use Rattle.basics.proofs.FirstLemmas.{take_next}
use Rattle.proto_visibility.specs.declared.files.FilePlace.{FilePlace}
use Rattle.scip_build.specs.Documents.{IsFirstPlace}
use Rattle.scip_build.proofs.OptionGapLemmas.{first_alone, first_next}
use Rattle.scip_build.proofs.option_gaps.first_of.Goals as goal

pub loop-place-init : goal.loop-place-init
loop-place-init c = first_alone c.args.first

pub loop-place-preserved : goal.loop-place-preserved
loop-place-preserved c =
    let others = c.args.others.now in
    let index = c.loop-place.place-index in
    let First : List FilePlace → Type 0 =
    λ places. IsFirstPlace (Contains (c.args.first ∷ places)) c.earlier-least.result in
    subst First (sym (take_next others index _ (slice_get-get_or others index _ c.loop-place-test.true)))
    (first_next (c.args.first ∷ take index others) c.loop-place.least _ c.loop-place.invariant c.earlier-least.result
    c.earlier-least.ensures)

pub returns : goal.returns
returns c =
    let others = c.args.others.now in
    let index = c.loop-place.place-index in
    let First : List FilePlace → Type 0 =
    λ places. IsFirstPlace (Contains (c.args.first ∷ places)) c.loop-place.least in
    subst First (take_all index others (omega (arith, c.loop-place-test.false))) c.loop-place.invariant
