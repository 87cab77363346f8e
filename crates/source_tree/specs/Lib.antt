-- files as they are handed in, and as a tree has them
pub mod Files
-- what a good path is
pub mod Path
-- what is kept of a source that is read
pub mod Reading
-- what a tree is, and the tree of files handed in
pub mod Trees
-- what is read of bytes that needn't be UTF-8 in comments
pub mod Mending
-- why files make no tree
pub mod Refusals
-- the laws
pub mod Laws
-- the laws of what is read of bytes
pub mod MendingLaws
-- what the code computes
pub mod Marks
