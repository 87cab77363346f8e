-- How commands are taken.
use Rattle.std.specs.Prelude.{Bool, true, false, Result, Ok, Err}
use Rattle.std.specs.declared.alloc.AllocError.{AllocError}
use Rattle.command_line.specs.Requests as requests
use Rattle.command_line.specs.declared.request.Request.{Request}
use Rattle.scip_query.specs.declared.manner.Manner.{Manner}
use Rattle.scip_query.specs.declared.manner.Manner.TheVariants.{Plain, More, Spoken, Json}
use Rattle.programs.specs.declared.manners.Prompting.{Prompting}

-- what is asked for, if the command line could be read: whether more commands are known, and whether it reads any
abbrev pub knows_more : Result Request AllocError → Bool
knows_more (Ok request) = requests.knows_more request
knows_more (Err refused) = false

abbrev pub takes_commands : Result Request AllocError → Bool
takes_commands (Ok request) = requests.reads_commands request
takes_commands (Err refused) = false

abbrev pub answers_json : Result Request AllocError → Bool
answers_json (Ok request) = requests.answers_json request
answers_json (Err refused) = false

-- answers are JSON if that is asked for; else on a terminal all commands are known, and faults are sentences, and
-- elsewhere more are known if that is asked for
abbrev pub manner_by : (json is_terminal more : Bool) → Manner
manner_by true is_terminal more = Json
manner_by false true more = Spoken
manner_by false false true = More
manner_by false false false = Plain

abbrev pub manner_of : Result Request AllocError → (is_terminal : Bool) → Manner
manner_of asked is_terminal = manner_by (answers_json asked) is_terminal (knows_more asked)

-- what is read from
abbrev pub feed_of : {T F : Type 0} → Prompting T F → F
feed_of p = p.feed
