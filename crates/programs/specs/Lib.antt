-- what is printed and said, and the exit status
pub mod Statuses
pub mod FaultTexts
pub mod Messages
pub mod Printing
-- why the system refuses
pub mod Causes
-- the index that files hold, or why they hold none
pub mod IndexFaults
pub mod FilesFaults
pub mod IndexFiles
-- `query`
pub mod QueryFaults
pub mod Queries
pub mod Answering
-- what asks in one line
pub mod AskedOnce
-- what is told of an index as a whole
pub mod Surveying
pub mod SurveyViews
-- `snapshot`
pub mod ShowFaults
pub mod Snapshotting
-- `pages`
pub mod SiteFaults
pub mod Paging
-- `index` and `shell`: what their options say, why there is no package or no tree, and what they do
pub mod Choices
pub mod Settings
pub mod Imports
pub mod SourceLists
pub mod ListPlaces
pub mod Folders
pub mod StartFaults
pub mod StartExplanations
pub mod Starting
pub mod NoSources
pub mod Missing
pub mod Searches
pub mod Settled
pub mod TreeRuns
pub mod Dumping
pub mod Limits
pub mod Manners
pub mod Asked
pub mod Placing
pub mod WellKnown
pub mod Reporting
-- and what is reported of a run that doesn't start
pub mod StartReports
pub mod Indexing
pub mod Serving
-- `join`
pub mod JoinStops
pub mod Joining
-- the laws
pub mod OptionLaws
