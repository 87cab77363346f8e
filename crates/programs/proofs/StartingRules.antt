-- Why a program about a tree doesn't start, for functions that refuse.
use Rattle.programs.specs.ListPlaces.ReplacesList.{index_replaces, report_of_index, report_of_shell}
use Rattle.programs.specs.Starting.NamesNone.{run_is_unnamed, run_lacks_memory}
use Rattle.programs.specs.Starting.IsBadFolder.{folder_is_unnamed, folder_lacks_memory}
use Rattle.programs.specs.Starting.HasNoPackage.{first_is_unnamed, folders_lack_memory}
use Rattle.programs.specs.Starting.IsFaultOf.{is_of_tree, is_of_line, lacks_line}
use Rattle.programs.specs.Starting.MayNotStartList.{list_lacks_memory}
use Rattle.programs.specs.Starting.NameNoPackages.{none_of_folder, none_of_run}
use Rattle.programs.specs.Starting.MayNotStart.{no_package, no_package_of_folder, no_tree, start_lacks_memory}

pub ruleset of_run = (run_is_unnamed, run_lacks_memory)

pub ruleset of_folder = (folder_is_unnamed, folder_lacks_memory)

pub ruleset of_folders = (first_is_unnamed, folders_lack_memory)

pub ruleset of_start = (no_package, no_package_of_folder, no_tree, start_lacks_memory)

pub ruleset of_names = (none_of_folder, none_of_run)

pub ruleset of_list = (is_of_tree, is_of_line, lacks_line)

pub ruleset of_list_place = (index_replaces, report_of_index, report_of_shell)

pub ruleset of_list_tree = (list_lacks_memory)
