-- Where a report goes, and whether what is written is synced, by what is asked for.
use Rattle.std.specs.Prelude.{Bool, false, ℕ, List, Option, None, string_bytes}
use Rattle.std.specs.Option.{option_map}
use Rattle.command_line.specs.declared.request.Request.{Request}
use Rattle.command_line.specs.declared.request.Request.TheVariants.{Index, Join, Shell}

-- its path, if one is asked for
abbrev pub report_path : Request → Option (List ℕ)
report_path (Index given) = option_map string_bytes given.options.report.path
report_path (Shell given) = option_map string_bytes given.options.report.path
report_path request = None

-- whether the disk is to have the file of an index or a join, and a report, before the run ends
abbrev pub is_synced : Request → Bool
is_synced (Index given) = given.sync
is_synced (Join options) = options.sync
is_synced request = false
