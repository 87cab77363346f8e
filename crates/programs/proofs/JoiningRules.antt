-- Why no join is put, for functions that refuse.
use Rattle.programs.specs.IndexFiles.HasNoJoin.{joining_lacks_memory}
use Rattle.programs.specs.Joining.PutsNone.{unjoined}

pub ruleset of_put = (unjoined, joining_lacks_memory)
