use Rattle.std.proofs.Common.{None, get_or, arith}
use Rattle.std.proofs.lemmas.Option.{slice_get-get_or}
use Rattle.scip_build.specs.Telling.{IsLeftIf}
use Rattle.scip_build.proofs.TellingAddLemmas.{adds_more, adds_all}
use Rattle.scip_build.proofs.telling.push_omissions.Goals as goal

pub push_omission-requires : goal.push_omission-requires
push_omission-requires c =
    let omissions = c.args.omissions.now in
    let number = c.loop-number.number in (
      c.requires.0,
      omissions,
      c.requires.1.each number (get_or omissions number None)
          (slice_get-get_or omissions number None c.loop-number-test.true),
    )

pub loop-number-preserved : goal.loop-number-preserved
loop-number-preserved c =
    let omissions = c.args.omissions.now in
    let number = c.loop-number.number in
    adds_more (IsLeftIf c.args.parsed.now) omissions number (get_or omissions number None)
    c.args.told.now.items c.loop-number.told.items c.push_omission.new.told.items
    (slice_get-get_or omissions number None c.loop-number-test.true) c.loop-number.invariant
    c.in_ok-push_omission.ensures

pub returns : goal.returns
returns c =
    adds_all (IsLeftIf c.args.parsed.now) c.args.omissions.now c.loop-number.number
    c.args.told.now.items c.loop-number.told.items (omega arith) c.loop-number.invariant
