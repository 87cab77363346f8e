use Rattle.protoscip.proofs.LawLemmas.{indexed_has_no_fault}
use Rattle.protoscip.proofs.laws.indexed_has_no_fault.Goals as goal

pub returns : goal.returns
returns g c = indexed_has_no_fault (g.C.Chooses.allows c.args.chooser.now)
    (g.D.Chooses.allows c.args.other.now) c.built_has_no_fault.ensures
