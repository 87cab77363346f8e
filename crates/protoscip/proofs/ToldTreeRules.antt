-- Why what is told of a tree can't be had, for functions that tell it.
use Rattle.protoscip.specs.ToldTrees.MayNotTell.{telling_lacks_thread, telling_lacks_memory}

pub ruleset of_tree = (telling_lacks_thread, telling_lacks_memory)
