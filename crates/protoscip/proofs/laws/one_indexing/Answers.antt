use Rattle.protoscip.proofs.LawLemmas.{one_indexing_of_choices, one_indexing, no_fault}
use Rattle.protoscip.proofs.laws.one_indexing.Goals as goal

pub returns-clause-of_choices : goal.returns-clause-of_choices
returns-clause-of_choices g c =
    one_indexing_of_choices (g.C.Chooses.allows c.args.chooser.now) (g.D.Chooses.allows c.args.other.now)
    c.one_built.ensures.of_choices

pub returns-clause-one : goal.returns-clause-one
returns-clause-one g c =
    one_indexing (g.C.Chooses.allows c.args.chooser.now) (g.D.Chooses.allows c.args.other.now) c.one_built.ensures.one

pub returns-clause-accepted : goal.returns-clause-accepted
returns-clause-accepted g c =
    no_fault (g.C.Chooses.allows c.args.chooser.now)
    (g.D.Chooses.allows c.args.other.now) c.one_built.ensures.one c.indexed_has_no_fault.ensures
