-- the names in an option
pub mod Names
pub mod Grammar
-- what has options, and from where they are looked up
pub mod Elements
pub mod Options
-- what fields are of
pub mod Fields
-- what messages say beside their fields, and what literals say
pub mod Escapes
pub mod Messages
-- what the second reading does
pub mod Reading
-- the laws
pub mod Laws
