-- Parts of a tree make its index.
use Rattle.protoscip.proofs.ShardLemmas.{parts_make_the_whole}
use Rattle.protoscip.proofs.laws.parts_make_the_whole.Goals as goal

pub returns : goal.returns
returns g c = parts_make_the_whole (g.C.Chooses.allows c.args.chooser.now) c.parts_are_built_alike.ensures
    c.documents_are_in_order.ensures c.shards_make_the_whole.ensures
