-- What is known of short lists
pub mod ShortListLemmas
-- What the tests name are entities
pub mod EntityConditions
-- What is known of a source that is linked alone
pub mod OneSourceLemmas
-- The paths of the tests of merging rise
pub mod RisingLemmas
