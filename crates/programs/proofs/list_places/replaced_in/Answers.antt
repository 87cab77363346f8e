use Rattle.programs.specs.ListPlaces.ReplacesList.{index_replaces}
use Rattle.programs.proofs.list_places.replaced_in.Goals as goal

pub returns-then-is_list_there : goal.returns-then-is_list_there
returns-then-is_list_there g c =
    rw (c.in-Index.is, c.as_str.ensures.value)
    (index_replaces (rw c.if-is_list_there.true at c.is_list_there.ensures))
