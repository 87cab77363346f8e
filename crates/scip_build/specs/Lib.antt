-- what the bytes of a file say, and why they say nothing
pub mod Parsed
-- the files of a tree as they are read in a dialect
pub mod AsRead
-- what is known of a file after it was read
pub mod Files
-- what files are read as, and the first that can't be
pub mod ParsedFiles
-- why a file can't be read
pub mod FileFaults
-- what is linked of files that were read
pub mod Linking
-- what holds of files that were read from a tree
pub mod Ready
-- where documents are
pub mod Placing
pub mod PlacingLaws
-- the settings with what is repeated
pub mod Repeating
-- the documents of sources that were read
pub mod Documents
-- what is kept of a tree, and what is told of the rest
pub mod Kept
-- what a use of a kept file names
pub mod KeptUses
-- and that of one that isn't told as uncertain, once files are mended
pub mod CertainUses
-- how files are kept, and how it is told
pub mod Keeping
pub mod Telling
-- what is built from a tree, and why nothing is
pub mod Builds
-- the same for files that were read
pub mod Made
pub mod Making
-- an index in a form
pub mod Forms
pub mod FactForms
-- the same of linked sources as one
pub mod Works
-- parts of a tree, and what is built of them
pub mod Parts
-- the laws
pub mod Laws
pub mod BuildLaws
-- faults of uses
pub mod UseFaults
