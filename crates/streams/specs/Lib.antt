-- what one write or read does
pub mod Streams
pub mod StdStreams
-- streams that are written to: what comes of a text, by any number of writes, and of lines
pub mod Writers
-- streams that are read from: what their counts say of reading them to their end, by reads into room for bytes
pub mod Readers
