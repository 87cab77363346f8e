-- Why no index is read from a file: what is said about it, and the exit status. (Texts and statuses are this project's
-- own.)
use Rattle.std.specs.Prelude.{ℕ, List, [], codes}
use Rattle.scip_wire.specs.WireFaults.{name_of as wire_name}
use Rattle.scip_wire.specs.declared.wire_fault.WireFault.{WireFault}
use Rattle.scip_wire.specs.declared.wire_fault.WireFault.TheVariants as wire
use Rattle.protoscip.specs.Lines.{line_at, path_line, plain_line}
use Rattle.protoscip.specs.Statuses.{memory_status, stream_status}
use Rattle.programs.specs.declared.index_fault.IndexPlace.{IndexPlace}
use Rattle.programs.specs.declared.index_fault.IndexPlace.TheVariants.{Nowhere, WholeFile, Offset}
use Rattle.programs.specs.declared.index_fault.IndexFault.{IndexFault}
use Rattle.programs.specs.declared.index_fault.IndexFault.TheVariants.{Unreadable, Wire, Memory}
use Rattle.programs.specs.Statuses.{index_status}

-- the name in its line, and where in the index's file that says it is; what explains it, behind a line end, but nothing
-- for lack of memory; and the exit status: 3 if the file can't be read, 5 if the file holds no index, 4 if memory
-- runs out
pub record IndexSaid : Type 0 where
  pub name : List ℕ
  pub place : IndexPlace
  pub explanation : List ℕ
  pub status : ℕ

abbrev pub said : (name : List ℕ) → (place : IndexPlace) → (explanation : List ℕ) → (status : ℕ) → IndexSaid
said name place explanation status =
    record { name = name; place = place; explanation = explanation; status = status }

-- nowhere in the file
abbrev pub nowhere : (name explanation : List ℕ) → (status : ℕ) → IndexSaid
nowhere name explanation status = said name Nowhere explanation status

-- ---- of bytes that decode to no index

-- at the offset of the record that can't be read
abbrev pub no_index : (name : List ℕ) → (at : ℕ) → (explanation : List ℕ) → IndexSaid
no_index name at explanation = said name (Offset at) explanation index_status

abbrev pub wire_said : WireFault → IndexSaid
wire_said (wire.Truncated at) =
    no_index (wire_name (wire.Truncated at)) at
    (codes "\nthis file is no SCIP index, or was cut off: the record here runs past the end")
wire_said (wire.Varint at) =
    no_index (wire_name (wire.Varint at)) at
    (codes "\nthis file is no SCIP index: the number here is too large")
wire_said (wire.FieldZero at) =
    no_index (wire_name (wire.FieldZero at)) at
    (codes "\nthis file is no SCIP index: no field has the number 0")
wire_said (wire.Group at) =
    no_index (wire_name (wire.Group at)) at (codes "\nthis file is no SCIP index: the record here is a group")
wire_said (wire.WireType at) =
    no_index (wire_name (wire.WireType at)) at
    (codes "\nthis file is no SCIP index: no record has this wire type")
wire_said (wire.Repeated at) =
    no_index (wire_name (wire.Repeated at)) at
    (codes "\nthis file is no SCIP index: the record here may come only once")
wire_said (wire.Utf8 at) =
    no_index (wire_name (wire.Utf8 at)) at (codes "\nthis file is no SCIP index: the text here isn't UTF-8")
wire_said (wire.BadRange at) =
    no_index (wire_name (wire.BadRange at)) at
    (codes "\nthis file is no SCIP index: a range has three or four numbers, none of them negative")
wire_said wire.Memory = nowhere (wire_name wire.Memory) [] memory_status

-- ---- of them all

abbrev pub said_of : IndexFault → IndexSaid
said_of Unreadable =
    said (codes "Unreadable") WholeFile (codes "\nit isn't there, or is a folder, or can't be read") stream_status
said_of (Wire fault) = wire_said fault
said_of Memory = nowhere (codes "Memory") [] memory_status

-- a line that says where it is in the file with this path
abbrev pub line_with : (path : List ℕ) → IndexPlace → (name : List ℕ) → List ℕ
line_with path Nowhere name = plain_line name
line_with path WholeFile name = path_line path name
line_with path (Offset at) name = line_at path at name

-- the line of a fault, of the file with this path
abbrev pub line_of : List ℕ → IndexFault → List ℕ
line_of path fault = line_with path (said_of fault).place (said_of fault).name

abbrev pub explanation_of : IndexFault → List ℕ
explanation_of fault = (said_of fault).explanation

abbrev pub status_of : IndexFault → ℕ
status_of fault = (said_of fault).status

-- lack of memory is one fault, whichever step it comes in
abbrev pub fault_of_wire : WireFault → IndexFault
fault_of_wire wire.Memory = Memory
fault_of_wire fault = Wire fault
