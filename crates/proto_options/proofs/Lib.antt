-- What isn't read where no level is left, and what is inside is read a level down
pub mod LevelLemmas
-- Each step of a loop takes a token
pub mod FallLemmas
-- What a step takes of one token
pub mod TokenLemmas
-- The tokens from a place on, by the index of the next one
pub mod CursorLemmas
-- What is taken as the grammar has it
pub mod PassingLemmas
-- What is read past in messages in values
pub mod OddLemmas
-- A field's name with something of a value behind it
pub mod BeginLemmas
-- Each step of the loops over what is in messages takes a token
pub mod MessageFallLemmas
-- What braces may be inside what other braces: the walk over statements ends
pub mod RankLemmas
-- Each step of the loops over options and statements takes a token
pub mod WalkFallLemmas
-- What is in front of a token of a kind, token by token
pub mod NameLemmas
-- What is in the grammar is read
pub mod Exact
-- Whatever is in balanced braces is a message, with names
pub mod GivenLemmas
-- What is in front of the token that tells where options are
pub mod FrontLemmas
-- What is kept of options, by where they are
pub mod KeptLemmas
-- The second reading keeps the options of the derivation
pub mod WalkLemmas
pub mod WalkMessageLemmas
-- Each option of a derivation has names
pub mod NamedLemmas
pub mod EachLemmas
-- The options of a file are those of its derivation
pub mod FileLemmas
-- What messages say
pub mod MessageLemmas
-- Enums and services have no fields
pub mod FieldLemmas
-- Fields start one behind the other
pub mod FieldOrderLemmas
-- What is between braces is read by what they are of
pub mod BodyLemmas
