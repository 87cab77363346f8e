-- What the writing of an index answers, and what it leaves of the writer.
use Rattle.std.specs.Prelude.{◌≡◌, ℕ, ◌<◌, ◌≤◌, List, length, Result, Ok, Err}
use Rattle.streams.specs.Writers.{Writer, IsWritten, IsCutOff, IsUntouched}
use Rattle.scip_records.specs.declared.records.Document.{Document}
use Rattle.scip_records.specs.declared.records.Index.{Index}
use Rattle.scip_wire.specs.Spelling.{document_record, spelling_of, max_index_len}
use Rattle.scip_wire.specs.WellFormed.{IsFitDocument}
use Rattle.protoscip.specs.Indexes.{IsSpelled}
use Rattle.protoscip.specs.declared.fault.Fault.{Fault}
use Rattle.protoscip.specs.declared.fault.Fault.TheVariants.{Memory, TooLarge, Write}

-- these bytes are a document's record in an index
pub record IsRecordOf (document : Document) (bytes : List ℕ) : Type 0 where
  pub record_is : bytes ≡ document_record document
  pub fit : IsFitDocument document

-- its bytes are written, all or the first `count`; or it has too many, and the writer is as it was
pub data WritesIndex {W : Type 0} (index : Index) (out : Writer W) : Result (Unit {0}) Fault → Type 0 where
  index_is_written : {done : Unit {0}} → IsSpelled index (spelling_of index) → IsWritten out (spelling_of index)
      → WritesIndex index out (Ok done)
  index_is_cut_off : {count : ℕ} → IsSpelled index (spelling_of index) → IsCutOff out (spelling_of index) count
      → WritesIndex index out (Err (Write count))
  index_is_too_large : max_index_len < length (spelling_of index) → IsUntouched out
      → WritesIndex index out (Err TooLarge)

-- what is read back of an index's bytes is the index
abbrev pub IsReadBack : Index → Index → Type 0
IsReadBack index read = IsSpelled index (spelling_of index) × (read ≡ index)

-- an index has no bytes to read back: it has too many, or, if it hasn't, memory ran out
pub data IsNotReadBack (index : Index) : Fault → Type 0 where
  reading_lacks_memory : length (spelling_of index) ≤ max_index_len → IsNotReadBack index Memory
  has_no_bytes : max_index_len < length (spelling_of index) → IsNotReadBack index TooLarge
