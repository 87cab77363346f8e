-- Why a program about a tree doesn't start: what is said about it, and the exit status. (The texts and the statuses are
-- this project's own.)
use Rattle.std.specs.Prelude.{ℕ, List, Option, None, Some, codes, string_bytes}
use Rattle.source_files.specs.LoadFaults.{name_of as load_name}
use Rattle.source_files.specs.declared.load_fault.LoadFault.TheVariants.{Unreadable, TooMany, BadPath, SamePath, Memory}
use Rattle.programs.specs.declared.start_fault.StartFault.{StartFault}
use Rattle.programs.specs.declared.start_fault.StartFault.TheVariants.{BadPart, BadFolder, Load, IsSource}
use Rattle.programs.specs.declared.start_fault.StartFault.TheVariants.{ReportIsSource, ReportIsOut, Unlisted}
use Rattle.programs.specs.Statuses.{command_line_status}
use Rattle.protoscip.specs.Lines.{path_line, plain_line}
use Rattle.protoscip.specs.Unread.{bad_path_sentence}
use Rattle.protoscip.specs.Statuses.{memory_status, sources_status, stream_status}

-- the name in its line, and the path, if it names one; a sentence about it; and the exit status
pub record StartSaid : Type 0 where
  pub name : List ℕ
  pub path : Option (List ℕ)
  pub sentence : List ℕ
  pub status : ℕ

abbrev pub said : (name : List ℕ) → (path : Option (List ℕ)) → (sentence : List ℕ) → (status : ℕ) → StartSaid
said name path sentence status = record { name = name; path = path; sentence = sentence; status = status }

-- the package of a folder is refused as that of the run is
abbrev pub said_of : StartFault → StartSaid
said_of BadPart =
    said (codes "BadPart") None (codes "a part of the package begins with a space or is `.`") command_line_status
said_of (BadFolder path) =
    said (codes "BadPart") (Some (string_bytes path))
    (codes "a part of the package of this folder begins with a space or is `.`") command_line_status
said_of (Unlisted place path) =
    said (codes "Unreadable") (Some (string_bytes place))
    (codes "the source that this line names isn't there, or can't be read") stream_status
said_of (Load (Unreadable path)) =
    said (load_name (Unreadable path)) (Some (string_bytes path))
    (codes "it isn't there, or can't be read, or an entry's name isn't UTF-8") stream_status
said_of (Load TooMany) =
    said (load_name TooMany) None (codes "the sources and the included files are at most 65536") sources_status
said_of (Load (BadPath path)) =
    said (load_name (BadPath path)) (Some (string_bytes path)) bad_path_sentence sources_status
said_of (Load (SamePath path)) =
    said (load_name (SamePath path)) (Some (string_bytes path)) (codes "two sources have this path") sources_status
said_of (Load Memory) = said (load_name Memory) None (codes "memory ran out") memory_status
said_of (IsSource path) =
    said (codes "IsSource") (Some (string_bytes path))
    (codes "it is a source that was read, or a link to one; the index would replace it") stream_status
said_of (ReportIsSource path) =
    said (codes "IsSource") (Some (string_bytes path))
    (codes "it is a source that was read, or a link to one; the report would replace it") stream_status
said_of (ReportIsOut path) =
    said (codes "IsOut") (Some (string_bytes path)) (codes "the index goes there, so its report can't") stream_status

abbrev pub name_of : StartFault → List ℕ
name_of fault = (said_of fault).name

abbrev pub path_of : StartFault → Option (List ℕ)
path_of fault = (said_of fault).path

abbrev pub sentence_of : StartFault → List ℕ
sentence_of fault = (said_of fault).sentence

abbrev pub status_of : StartFault → ℕ
status_of fault = (said_of fault).status

-- a line with a path, if there is one
abbrev pub line_with : Option (List ℕ) → (name : List ℕ) → List ℕ
line_with None name = plain_line name
line_with (Some path) name = path_line path name

abbrev pub line_of : StartFault → List ℕ
line_of fault = line_with (path_of fault) (name_of fault)
