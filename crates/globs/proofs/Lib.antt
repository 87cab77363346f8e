-- What a pattern excludes, by whether it has a `/`
mod ExclusionLemmas
-- The last piece, and the last byte of a text
mod PieceMatchLemmas
-- Bytes at the start of a pattern that mean themselves
mod PlainLemmas
-- One byte more of a row, and one piece more
mod RowLemmas
