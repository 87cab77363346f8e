-- texts in the making
pub mod Drafts
-- trees of files as texts
pub mod Trees
