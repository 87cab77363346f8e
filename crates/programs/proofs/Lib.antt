-- Each file is named after the spec or source that it serves.
-- Lines that say why the system refused what it was asked for
mod CauseLemmas
-- How a dump ends
mod DumpingEndLemmas
-- The packages of files, by the folders that they are read from
mod FolderLemmas
-- What becomes of the places of folders, by what was answered of the pages made in one
mod FolderPlaceLemmas
-- What texts import that can't be read, and what trees import
mod ImportLemmas
-- What the program `join` makes of the indexes that files hold
mod JoiningLemmas
-- Why no join is put
mod JoiningRules
-- The headline, of the tree of the files that options name
mod LawLemmas
-- The paths of a list that are read, the lines that name them, and options without packages
mod ListedFolderLemmas
-- What is said of a line that is there, or isn't
mod MessageLemmas
-- What is said of a tree without sources
mod NoSourceLemmas
-- What becomes of a place, by what a run answered that wrote to a part of it
mod PlacingLemmas
-- Why no part is begun, and no report is made, and what becomes of a place
mod PlacingRules
-- What files hold together
mod IndexFileLemmas
-- What is read from a file, why no index comes behind others, and why there is no join
mod IndexFileRules
-- What the program `query` answers of the index that files hold
mod QueryLemmas
-- What is reported of a run, by what it answers, and where the report goes
mod ReportingLemmas
-- A run about a tree that ends with the status 0 made an index that navigates the tree
mod ServingNavigableLemmas
-- What is reported of a run that doesn't start
mod StartReportLemmas
-- Why a program about a tree doesn't start
mod StartingRules
-- A run over a tree that hands out more than what is recorded
mod TreeRunLemmas
-- What is said of an index, by what it lacks
mod TreeRunOmissionLemmas
-- The path that is missing by a finding
mod MissingLemmas
-- What is said of the folder with the well-known files, and whether it is one of those that are read
mod WellKnownLemmas
