use Rattle.protoscip.proofs.HeadlineLemmas.{headline}
use Rattle.protoscip.proofs.laws.headline.Goals as goal

pub returns : goal.returns
returns g c = headline (g.C.Chooses.allows c.args.chooser.now) c.laws_of_names.ensures
