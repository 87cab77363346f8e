-- One index of several: which it is, and why there is none.
pub mod Joined
pub mod Refused
-- the pieces of an index
pub mod Pieces
-- What is kept of the indexes.
pub mod Gathered
-- What is law of a join.
pub mod Laws
-- what queries over it answer
pub mod Queries
-- what is said about a refusal
pub mod JoinFaults
-- what the code sorts and searches
pub mod Tables
pub mod Steps
