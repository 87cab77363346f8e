-- the files that are linked, and what they import
pub mod Files
-- which file sees which, what a source reaches, and which files are reachable
pub mod Sees
pub mod Reaches
-- the first clash of names, and the first import of a file that isn't there
pub mod Clashes
pub mod Absences
-- which files can be linked, and which are kept if not all can
pub mod Linked
pub mod Kept
-- which names a file knows, who gives them, and as what
pub mod Knows
-- files that are a part of others
pub mod Parts
-- the tables by which the code finds them
pub mod Tables
