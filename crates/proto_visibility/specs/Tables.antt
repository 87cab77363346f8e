-- the tables by which the code finds names, and the steps of its searches
-- what files import, and which each one sees
pub mod ImportTables
pub mod Rows
pub mod Leading
pub mod Visits
-- where sources have the messages of their options
pub mod OptionTables
-- the items of a file, and their clashes
pub mod FileItems
pub mod ClashTables
pub mod Passes
-- which names files give
pub mod GivenNames
