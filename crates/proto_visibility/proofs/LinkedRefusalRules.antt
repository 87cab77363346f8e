-- Why files can't be linked, for functions that refuse them.
use Rattle.proto_visibility.specs.Linked.MayRefuse.{broken_file, clashing, absent_import, lacks_memory}

pub ruleset refusals = (broken_file, clashing, absent_import, lacks_memory)
