-- Tokens, the tree and its faults
pub use Rattle.proto_grammar.specs.Lexeme
pub use Rattle.proto_grammar.specs.Terminal
pub use Rattle.proto_grammar.specs.Syntax
pub use Rattle.proto_grammar.specs.Tree
pub use Rattle.proto_grammar.specs.Items
pub use Rattle.proto_grammar.specs.FaultNames
pub use Rattle.proto_grammar.specs.declared.dialect
pub use Rattle.proto_grammar.specs.declared.tree
pub use Rattle.proto_grammar.specs.declared.fault
-- The grammar
pub use Rattle.proto_steps.specs.Limits
pub mod Choice
pub mod Grammar
pub mod Derives
pub mod Extends
pub mod Faults
pub mod Refused
-- The parts of a tree, and where their spans are
pub mod Parts
pub mod Walk
-- The lists of a tree that are never empty
pub mod Filled
