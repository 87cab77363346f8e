-- What is read from a file, why no index comes behind others, and why there is no join.
use Rattle.programs.specs.IndexFiles.HasNoJoin.{joining_lacks_memory}
use Rattle.programs.specs.IndexFiles.HasNoNext.{unread, other_root, other_encoding, adding_lacks_memory}
use Rattle.programs.specs.IndexFiles.IsJoinedIndex.{has_no_join}
use Rattle.programs.specs.IndexFiles.IsOwnIndex.{is_own, has_no_own, own_lacks_memory}
use Rattle.programs.specs.IndexFiles.IsReadFrom.{is_index, is_unreadable, is_no_index, reading_lacks_memory}

pub ruleset of_index = (is_index, is_unreadable, is_no_index, reading_lacks_memory)

pub ruleset of_next = (unread, other_root, other_encoding, adding_lacks_memory)

pub ruleset of_join = (joining_lacks_memory)

pub ruleset of_joined = (has_no_join, joining_lacks_memory)

pub ruleset of_own = (is_own, has_no_own, own_lacks_memory)
