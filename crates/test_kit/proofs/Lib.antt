-- the marks in front of paths: `file_text`
pub mod TreeLemmas
