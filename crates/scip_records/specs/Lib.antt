-- The records.
pub mod Range
pub mod RangeFields
-- What an index says of a symbol besides its documentation.
pub mod Details
pub mod DetailPlaces
-- Texts of which an empty one is left out.
pub mod Texts
-- Documents of which a part was let go.
pub mod Documents
