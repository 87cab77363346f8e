use Rattle.protoscip.proofs.laws.headline_of_tree.Goals as goal

pub returns : goal.returns
returns g c = c.headline.ensures c.args.settings.now c.args.tree.now c.file_count.ensures.tree c.run.ensures.known
