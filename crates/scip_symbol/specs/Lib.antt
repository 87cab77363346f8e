-- what parts may be
pub mod Names
pub mod Parts
-- the grammar, read and printed
pub mod SpellsSymbol
pub mod SymbolText
-- the entities that symbols name
pub use Rattle.source_tree.specs.Path
pub mod Package
pub mod Entities
pub mod EntityTexts
pub mod OneEntity
-- where a text that spells none stops
pub mod LongestPrefix
-- what the reader's functions give
pub mod Reading
pub mod Gives
