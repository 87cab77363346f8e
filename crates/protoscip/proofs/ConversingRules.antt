-- What becomes of commands about an index that isn't read back, for functions that answer them.
use Rattle.protoscip.specs.Conversing.Converses.{first_lacks_memory, has_too_many_bytes}

pub ruleset of_unread = (first_lacks_memory, has_too_many_bytes)
