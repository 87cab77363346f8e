use Rattle.std.proofs.Common.{◌<◌, Bool, arith, false, length, slice_get, subst}
use Rattle.std.specs.Prelude.{All, IfSome}
use Rattle.std.proofs.lemmas.List.{take_all}
use Rattle.source_files.specs.Places.{IsSaid}
use Rattle.source_files.proofs.PlaceLemmas.{one_spared}
use Rattle.source_files.proofs.out_source.is_read_below.Goals as goal

pub loop-number-preserved : goal.loop-number-preserved
loop-number-preserved g c =
    let tree = c.args.tree.now in
    let number = c.loop-number.number in
    let same = g.P.OutPlace.same c.args.place.now in
    let root = c.args.root.now in
    let within : number < length tree =
    omega (arith, c.loop-number-test.true, c.file_count-number-end.ensures.count) in
    one_spared same root tree number within
    (subst (λ (answer : Bool). IfSome (slice_get tree number) (IsSaid same root answer)) c.if-branch.false
    c.in_ok-is_read_at.ensures) c.loop-number.invariant

pub returns : goal.returns
returns g c =
    let tree = c.args.tree.now in
    subst (All (IsSaid (g.P.OutPlace.same c.args.place.now) c.args.root.now false))
    (take_all c.loop-number.number tree
    (omega (arith, c.loop-number-test.false, c.file_count-number-end.ensures.count))) c.loop-number.invariant
