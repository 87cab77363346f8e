-- Reading a feed to its end (`Readers`): what one read takes, and the counts of some reads and of one more
pub mod WholeReadLemmas
-- Whole writes (`Writers`): of one text behind another, and by the loop of `write_all`
pub mod WholeWriteLemmas
