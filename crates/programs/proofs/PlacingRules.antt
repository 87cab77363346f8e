-- Why no part is begun, and no report is made, for functions that refuse; and what becomes of a place.
use Rattle.protoscip.specs.ToldTrees.MayNotTell.{telling_lacks_thread, telling_lacks_memory}
use Rattle.programs.specs.Placing.MayNotReport.{report_is_source, report_lacks_memory}
use Rattle.programs.specs.Placing.IsOneFile.{report_is_index, path_lacks_memory}
use Rattle.programs.specs.Placing.MayNotBegin.{index_is_source, beginning_lacks_memory}
use Rattle.programs.specs.Placing.Finishes.{part_is_put, part_is_refused, breaks_limit, part_is_unmade}
use Rattle.programs.specs.Paging.Finishes.{folder_is_put, folder_is_refused, folder_is_unmade}

pub ruleset of_report = (report_is_source, report_lacks_memory)

pub ruleset of_two = (report_is_index, path_lacks_memory)

pub ruleset of_beginning = (index_is_source, beginning_lacks_memory)

pub ruleset of_parts = (part_is_put, part_is_refused, breaks_limit, part_is_unmade)

pub ruleset of_folders = (folder_is_put, folder_is_refused, folder_is_unmade)

pub ruleset of_telling = (telling_lacks_thread, telling_lacks_memory)
