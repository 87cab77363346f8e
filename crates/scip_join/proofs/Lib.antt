-- Each file is named after the spec or source that it serves.
-- What a list in an order has of its first of each that are the same
pub mod TableLemmas
-- The first two neighbours with one path
pub mod TablePairLemmas
-- Texts in order
pub mod NameLemmas
-- The symbols of entries in order
pub mod ExternalLemmas
-- What is kept of one more index
pub mod GatheredLemmas
-- The pieces that are kept are those of the join
pub mod JoinedLemmas
-- Indexes have one join at most
pub mod LawLemmas
-- Pieces are refused just where indexes have no join
pub mod RefusedLemmas
-- What queries over a join answer
pub mod QueryLemmas
-- The join of well-formed indexes is well-formed
pub mod LawWellFormedLemmas
-- The shards of an index in order have it as their join
pub mod LawShardLemmas
