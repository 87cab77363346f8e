use Rattle.protoscip.proofs.LawLemmas.{one_fault}
use Rattle.protoscip.proofs.laws.one_fault.Goals as goal

pub returns : goal.returns
returns g c = one_fault (g.C.Chooses.allows c.args.chooser.now)
    (g.D.Chooses.allows c.args.other.now) c.one_build_fault.ensures c.built_has_no_fault.ensures
    c.built_has_no_fault-2.ensures
