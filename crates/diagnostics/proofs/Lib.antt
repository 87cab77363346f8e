-- Each file is named after the spec or source that it serves.
-- The characters of joined bytes, and of what is shown
mod CharacterJoinLemmas
-- The characters of bytes, one after the other
mod CharacterLemmas
-- One byte more: the line and the column behind it
mod CountingLemmas
-- What stands below what is shown
mod ExcerptMarkLemmas
-- What is put behind what is found
mod HintLemmas
-- Nothing that is shown is obeyed by a terminal
mod LawTameLemmas
-- What is shown as it is
mod LawWholeLemmas
-- What stands below is as wide as what stands above
mod LawWidthLemmas
-- How long a string literal is
mod LiteralLemmas
-- Gaps and literals, one after another
mod LiteralTextLemmas
-- What of a long line is near a place
mod NearLemmas
-- Which bytes stand as they are
mod ShownLemmas
-- A list of hints, from its front
mod WordingLemmas
