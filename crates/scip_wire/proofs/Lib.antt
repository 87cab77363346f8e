-- Each file is named after the spec or source that it serves.
-- Which fault a fold over the items in bytes names, and turns of a loop over them
pub mod BlamedFoldLemmas
-- Bytes that are put into a buffer (`Buffered`): one text behind another, and what has gone out at the end
pub mod BufferLemmas
-- What the fields of a message do to one of its parts, against the values of a field number
pub mod DecodesColumnLemmas
-- What the reader computes of each message is what its bytes decode to, and nothing else is
pub mod DecodesLemmas
-- What the payloads of spelled fields are, and what they give
pub mod DecodesSpelledPayloadLemmas
-- The reader of fields finds those that the bytes hold, and no others
pub mod FieldLemmas
-- Spelled fields are the fields of their bytes
pub mod FieldSpelledLemmas
-- `Fails`: what a fault of an inner reading says of an outer one
pub mod GivesLemmas
-- Numbers of which the first four are by themselves
pub mod NumberLemmas
-- What is put into an output (`Outputs`): one text behind another, and what a list then has
pub mod OutputLemmas
-- Packed numbers: whether they can be read, and what is added then
pub mod PackedLemmas
-- An index in pieces: its spelling is theirs, and their lengths
pub mod PieceLemmas
-- `fold_at`, `both` and `parted`: over the items that a reader finds in bytes, and over parts of a whole
pub mod ReadingFoldLemmas
-- What an option or a test that came out so says of its parts
pub mod ReadingOptionLemmas
-- Where a field can't be merged into a message: which of its parts refuses it, and why
pub mod RefusedColumnLemmas
-- Where no record is read, the fault that is named says why there is none; and there is one such fault
pub mod RefusedFieldLemmas
-- The fault that the reader names is why bytes decode to no index; and there is one such fault
pub mod RefusedIndexLemmas
-- The fault that is named is why bytes are no message: of any, of symbol information, tool information and metadata
pub mod RefusedLemmas
-- Where the fields of a message aren't read to their end: the first record at which no reading goes on
pub mod RefusedMessageLemmas
-- Where the numbers of a packed range aren't read to their end: the first number at which no reading goes on
pub mod RefusedPackedLemmas
-- Where no varint is read, the fault that is named says why there is none; and there is one such fault
pub mod RefusedVarintLemmas
-- Steps of a loop that adds up the lengths of records
pub mod SaturatedLemmas
-- Bytes in which a prefix is left out at some places (`Shortened`): what is put behind them
pub mod ShortenedLemmas
-- The fields of a message part by part: those of one number, then those of the next
pub mod SpelledPartLemmas
-- `Encode`: a message is as long as its fields, one after another
pub mod SpellingEncodeLemmas
-- A document's record, of which the front and the back are put by themselves
pub mod SpellingHalfLemmas
-- A spelled message is what its bytes decode to
pub mod SpellingLemmas
-- Lent texts: their records are those of a list of texts
pub mod SpellingRefLemmas
-- Steps of a shortest varint
pub mod SpellingVarintLemmas
-- A fault of a varint by its bytes, each below 256: they end before its last one, or the tenth is over 1
pub mod TenthByteLemmas
-- The test of UTF-8, as the reader of texts uses it
pub mod TextLemmas
