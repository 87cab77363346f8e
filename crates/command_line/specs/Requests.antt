-- What a request is.
use Rattle.std.specs.Prelude.{◌≡◌, ◌≢◌, ◌⊎◌, ⊤, Bool, true, false, List, Option, Some, None, map, string_bytes}
use Rattle.clap.specs.Words.{Text}
use Rattle.clap.specs.declared.error.kind.ErrorKind.{ErrorKind}
use Rattle.clap.specs.declared.error.kind.ErrorKind.TheVariants as kind
use Rattle.command_line.specs.declared.options.IndexOptions.{IndexOptions}
use Rattle.command_line.specs.declared.options.IndexRequest.{IndexRequest}
use Rattle.command_line.specs.declared.options.AskOptions.{AskOptions}
use Rattle.command_line.specs.declared.options.SnapshotOptions.{SnapshotOptions}
use Rattle.command_line.specs.declared.options.PagesOptions.{PagesOptions}
use Rattle.command_line.specs.declared.options.DumpOptions.{DumpOptions}
use Rattle.command_line.specs.declared.options.JoinOptions.{JoinOptions}
use Rattle.command_line.specs.declared.request.Request.{Request}
use Rattle.command_line.specs.declared.request.Request.TheVariants as request

-- what is done with an answer of this kind: help and the version are printed, the rest is refused
abbrev pub Prints : ErrorKind → Request → Type 0
Prints answer (request.Print text) = (answer ≡ kind.DisplayHelp) ⊎ (answer ≡ kind.DisplayVersion)
Prints answer (request.Refuse text) = (answer ≢ kind.DisplayHelp) × (answer ≢ kind.DisplayVersion)
Prints answer _ = ⊥

-- the text of help or the version
abbrev pub printed_text : Request → Option Text
printed_text (request.Print text) = Some (string_bytes text)
printed_text _ = None

-- the text that says why the command line is refused
abbrev pub refused_text : Request → Option Text
refused_text (request.Refuse text) = Some (string_bytes text)
refused_text _ = None

-- the command line is refused
abbrev pub IsRefused : Request → Type 0
IsRefused (request.Refuse text) = ⊤
IsRefused _ = ⊥

-- what the dump is asked for with
abbrev pub dump_options : Request → Option DumpOptions
dump_options (request.Dump options) = Some options
dump_options _ = None

-- the paths of the indexes about which commands are to be answered
abbrev pub index_paths : Request → Option (List Text)
index_paths (request.Query options) = Some (map string_bytes options.indexes.items)
index_paths _ = None

-- what is asked in one line
abbrev pub ask_options : Request → Option AskOptions
ask_options (request.Ask options) = Some options
ask_options _ = None

-- what the index that is to be written is asked for with
abbrev pub index_request : Request → Option IndexRequest
index_request (request.Index given) = Some given
index_request _ = None

-- the path of the file that it goes to, or the join of several
abbrev pub out_path : Request → Option Text
out_path (request.Index given) = Some (string_bytes given.out)
out_path (request.Join options) = Some (string_bytes options.out)
out_path _ = None

-- the options of the index about which commands are to be answered, and which no file holds
abbrev pub shell_options : Request → Option IndexOptions
shell_options (request.Shell given) = Some given.options
shell_options _ = None

-- what the snapshots of an index are asked for with
abbrev pub snapshot_options : Request → Option SnapshotOptions
snapshot_options (request.Snapshot options) = Some options
snapshot_options _ = None

-- what the pages of an index are asked for with
abbrev pub pages_options : Request → Option PagesOptions
pages_options (request.Pages options) = Some options
pages_options _ = None

-- what the join of several indexes is asked for with
abbrev pub join_options : Request → Option JoinOptions
join_options (request.Join options) = Some options
join_options _ = None

-- whether a fault of the dump or of the answers from a file is explained
abbrev pub explains : Request → Bool
explains (request.Dump options) = options.explain
explains (request.Query options) = options.explain
explains (request.Ask options) = options.explain
explains _ = false

-- whether more commands are known to the program that answers them
abbrev pub knows_more : Request → Bool
knows_more (request.Query options) = options.more
knows_more (request.Shell given) = given.more
knows_more _ = false

-- whether it answers in JSON
abbrev pub answers_json : Request → Bool
answers_json (request.Query options) = options.json
answers_json _ = false

-- whether it reads commands
abbrev pub reads_commands : Request → Bool
reads_commands (request.Query options) = true
reads_commands (request.Shell given) = true
reads_commands _ = false
