-- Each file is named after the spec or source that it serves.
-- Counts that stop at the greatest number
mod CountLemmas
-- Records have no floats; those of a document one after another
mod RecordLemmas
-- Names, and the nearest of them
mod NearLemmas
mod NearestNameLemmas
-- The same of what is wrong
mod FlawFormLemmas
-- None of them nests deep
mod ShallowLemmas
-- Records are read back one after another
mod ReadBackLemmas
