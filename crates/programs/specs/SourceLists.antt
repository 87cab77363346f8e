-- The list of sources that options ask for: how it is read, and what is said if there is none. (The texts and the
-- statuses are this project's own.)
-- `gives` is what reading a file may give, and `input` standard input.
use Rattle.std.specs.Prelude.{◌≡◌, ℕ, ⊤, Bool, true, false, List, [], ◌++◌, Option, Some, None, Result, Ok, Err}
use Rattle.std.specs.Prelude.{codes}
use Rattle.std.specs.Prelude.{string_bytes, if◌then◌else◌}
use Rattle.std.specs.Fmt.{decimal}
use Rattle.std.specs.Str.{bytes_eq}
use Rattle.streams.specs.Writers.{Writer}
use Rattle.streams.specs.Readers.{IsReadFault, IsReadThrough, IsUnread, Reader, known_before}
use Rattle.source_tree.specs.Reading.{kept_bytes}
use Rattle.source_files.specs.Source.{MayKeep}
use Rattle.source_files.specs.SourceLists.{AreListedIn, Listed, MayRefuseList}
use Rattle.source_files.specs.declared.source_list.ListFault.TheVariants as refused
use Rattle.command_line.specs.declared.options.IndexOptions.{IndexOptions}
use Rattle.command_line.specs.declared.options.sources.SourceList.{SourceList}
use Rattle.command_line.specs.declared.request.Request.{Request}
use Rattle.command_line.specs.declared.request.Request.TheVariants as request
use Rattle.protoscip.specs.Lines.{path_line}
use Rattle.protoscip.specs.Statuses.{memory_status, sources_status, stream_status}
use Rattle.programs.specs.Causes.{IsReasoned}
use Rattle.programs.specs.Messages.{TellsOne}
use Rattle.programs.specs.declared.source_lists.NoList.{NoList}
use Rattle.programs.specs.declared.source_lists.NoList.TheVariants.{Unreadable, Refused}

-- ---- what is said

-- the file of a list, or this line of it
abbrev pub place_text : (file : List ℕ) → (line : Option ℕ) → List ℕ
place_text file None = file
place_text file (Some line) = file ++ codes ":" ++ decimal line

-- the name of a fault, the number of the line that it is of, if it is of one, a sentence, and the exit status
pub record Said : Type 0 where
  pub name : List ℕ
  pub line : Option ℕ
  pub sentence : List ℕ
  pub status : ℕ

abbrev pub said : (name : List ℕ) → (line : Option ℕ) → (sentence : List ℕ) → (status : ℕ) → Said
said name line sentence status = record { name = name; line = line; sentence = sentence; status = status }

abbrev pub said_of : NoList → Said
said_of Unreadable =
    said (codes "Unreadable") None (codes "this list of sources isn't there, or can't be read") stream_status
said_of (Refused refused.TooLong) =
    said (codes "TooLong") None (codes "a list of sources has at most 67108864 bytes") sources_status
said_of (Refused (refused.NotUtf8 line)) =
    said (codes "NotUtf8") (Some line) (codes "this line isn't UTF-8") sources_status
said_of (Refused (refused.BadPath line)) =
    said (codes "BadPath") (Some line)
    (codes "a listed path is like `a/b.proto`: no empty name, `.`, `..` or control character; at most 4096 bytes")
    sources_status
said_of (Refused refused.TooMany) =
    said (codes "TooMany") None (codes "a list names at most 65536 paths") sources_status
said_of (Refused refused.Memory) = said (codes "Memory") None (codes "memory ran out") memory_status

-- a line with a path and a name, and a sentence behind it, if that is asked for
abbrev pub line_told : (explain : Bool) → (path name sentence : List ℕ) → List ℕ
line_told explain path name sentence = path_line path name ++ (if explain then codes "\n" ++ sentence else [])

abbrev pub told : (explain : Bool) → (file : List ℕ) → NoList → List ℕ
told explain file fault =
    line_told explain (place_text file (said_of fault).line) (said_of fault).name (said_of fault).sentence

-- the file that can't be read, if that is to be explained; `-` is standard input
abbrev pub unread_file : (explain is_input : Bool) → (file : List ℕ) → NoList → Option (List ℕ)
unread_file true false file Unreadable = Some file
unread_file explain is_input file fault = None

-- and so it is told, with why that can't be read; `blames` is what may be said of a path
abbrev pub IsListTold : (blames : List ℕ → Option (List ℕ) → Type 0) → (explain : Bool) → (file : List ℕ) → NoList
    → (text : List ℕ) → Type 0
IsListTold blames explain file fault text =
    IsReasoned blames (unread_file explain (bytes_eq file (codes "-")) file fault) (told explain file fault) text

-- ---- how it is read

-- what a file of a list holds, up to one byte more than a source may have; `-` is standard input, which is left alone
-- else
abbrev pub ReadsBytes : {R : Type 0} → (gives : List ℕ → Option (List ℕ) → Type 0) → (input : Reader R)
    → (is_input : Bool) → (file : List ℕ) → Option (List ℕ) → Type 0
ReadsBytes gives input true file None = IsReadFault input
ReadsBytes gives input true file (Some bytes) =
    IsReadThrough input × ((all : List ℕ) → known_before input ≡ Some all → bytes ≡ kept_bytes all)
ReadsBytes gives input false file read = MayKeep (gives file) read × IsUnread input

abbrev pub HasRead : {R : Type 0} → (gives : List ℕ → Option (List ℕ) → Type 0) → (input : Reader R)
    → (file : List ℕ) → Option (List ℕ) → Type 0
HasRead gives input file read = ReadsBytes gives input (bytes_eq file (codes "-")) file read

-- the paths that it names, or why it names none; nothing is said about memory
abbrev pub Lists : {R : Type 0} → (gives : List ℕ → Option (List ℕ) → Type 0) → (input : Reader R)
    → (file : List ℕ) → Result (List Listed) NoList → Type 0
Lists gives input file (Ok listed) = (bytes : List ℕ) × HasRead gives input file (Some bytes) × AreListedIn bytes listed
Lists gives input file (Err Unreadable) = HasRead gives input file None
Lists gives input file (Err (Refused refused.Memory)) = ⊤
Lists gives input file (Err (Refused fault)) =
    (bytes : List ℕ) × HasRead gives input file (Some bytes) × MayRefuseList bytes fault

-- the same options, with what the list names, if they ask for one
pub record AreWithList {R : Type 0} (gives : List ℕ → Option (List ℕ) → Type 0) (input : Reader R)
    (list : SourceList) (old new : IndexOptions) : Type 0 where
  pub listed : List Listed
  pub lists : Lists gives input (string_bytes list.file) (Ok listed)
  pub read : (named : SourceList) × (new ≡ record old { sources = Some named }) × (named.file ≡ list.file)
      × (named.listed.items ≡ listed)

abbrev pub ReadsList : {R : Type 0} → (gives : List ℕ → Option (List ℕ) → Type 0) → (input : Reader R)
    → Option SourceList → (old new : IndexOptions) → Type 0
ReadsList gives input None old new = (new ≡ old) × IsUnread input
ReadsList gives input (Some list) old new = AreWithList gives input list old new

-- the same of what is asked for: `index` and `shell` have these options
abbrev pub ReadsListIn : {R : Type 0} → (gives : List ℕ → Option (List ℕ) → Type 0) → (input : Reader R)
    → (asked now : Request) → Type 0
ReadsListIn gives input (request.Index given) (request.Index now) =
    ReadsList gives input given.options.sources given.options now.options
    × (now ≡ record given { options = now.options })
ReadsListIn gives input (request.Shell given) (request.Shell now) =
    ReadsList gives input given.options.sources given.options now.options
    × (now ≡ record given { options = now.options })
ReadsListIn gives input asked now = (now ≡ asked) × IsUnread input

-- there is no list, and it is said why
pub record SaysNoList {R M : Type 0} (gives blames : List ℕ → Option (List ℕ) → Type 0) (input : Reader R)
    (options : IndexOptions) (messages : Writer M) (status : ℕ) : Type 0 where
  pub list : SourceList
  pub asked : options.sources ≡ Some list
  pub fault : NoList
  pub refused : Lists gives input (string_bytes list.file) (Err fault)
  pub said : TellsOne (IsListTold blames options.explain (string_bytes list.file) fault) (said_of fault).status
      messages status

abbrev pub SaysNoListIn : {R M : Type 0} → (gives blames : List ℕ → Option (List ℕ) → Type 0) → (input : Reader R)
    → (asked : Request) → Writer M → (status : ℕ) → Type 0
SaysNoListIn gives blames input (request.Index given) messages status =
    SaysNoList gives blames input given.options messages status
SaysNoListIn gives blames input (request.Shell given) messages status =
    SaysNoList gives blames input given.options messages status
SaysNoListIn gives blames input asked messages status = ⊥
