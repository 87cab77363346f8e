-- how much an index has
pub mod Counts
-- its records, one after another
pub mod RecordLines
pub mod RecordValues
pub mod Records
-- what is wrong with it
pub mod Flaws
pub mod FlawForms
pub mod Views
-- the name nearest to a text
pub mod Near
