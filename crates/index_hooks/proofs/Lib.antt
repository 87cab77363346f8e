-- Each file is named after the spec or source that it serves.
-- Names that don't begin with a scope
mod NameLemmas
-- Hooks whose promises allow one answer each allow one choice
mod OneChoiceLemmas
-- Hooks that are asked one after the other: those before a place, the one there, and those behind it
mod RegistryAskedLemmas
-- Answers that are the same
mod WithCommentLemmas
