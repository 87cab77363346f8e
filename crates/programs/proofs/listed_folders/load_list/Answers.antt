use Rattle.std.proofs.Common.{map, string_bytes}
use Rattle.programs.proofs.ListedFolderLemmas.{stops_list}
use Rattle.programs.proofs.listed_folders.load_list.Goals as goal

pub returns-in-Ok-clause-loaded : goal.returns-in-Ok-clause-loaded
returns-in-Ok-clause-loaded g c = (
  map string_bytes c.in_ok-listed.listed.items,
  rw (c.deref.ensures.value, c.deref-2.ensures.value) at c.in_ok-listed.ensures,
  rw (c.requires, c.deref-3.ensures.value, c.in_ok-roots.ensures) at c.in-Ok.ensures.tree,
)

pub returns-clause-stops : goal.returns-clause-stops
returns-clause-stops g c =
    stops_list (
      map string_bytes c.in_ok-listed.listed.items,
      rw (c.deref.ensures.value, c.deref-2.ensures.value) at c.in_ok-listed.ensures,
      rw (c.requires, c.deref-3.ensures.value, c.in_ok-roots.ensures) at c.in-Err.ensures.refused,
    ) c.fault_of.ensures
