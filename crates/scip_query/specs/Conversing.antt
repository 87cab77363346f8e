-- What becomes of the answers to commands that are read.
use Rattle.std.specs.Prelude.{◌≡◌, ℕ, ◌==◌, ◌<◌, min, Bool, List, ◌++◌, length, take, Option, Some, Result, Ok, Err}
use Rattle.std.specs.List.{flat_map, count_by}
use Rattle.streams.specs.Streams.{last_count}
use Rattle.streams.specs.Readers.{Reader, known_before, known_after, IsReadThrough, IsReadFault, IsUnfailed}
use Rattle.streams.specs.Writers.{Writer, IsWritten, IsCutOff}
use Rattle.scip_records.specs.declared.records.Index.{Index}
use Rattle.scip_query.specs.Commands.{command_lines}
use Rattle.scip_query.specs.MoreAnswers.{Asked, reply_to, replies_to}
use Rattle.scip_query.specs.declared.answer_fault.AnswerFault.{AnswerFault}
use Rattle.scip_query.specs.declared.answer_fault.AnswerFault.TheVariants.{Read, Write, Memory}
use Rattle.scip_query.specs.declared.manner.Manner.TheVariants.{Plain}

-- the due text goes out whole, or is cut off when `count` bytes of it went out. (Counts stop at the last u64.)
abbrev pub Replies : {W : Type 0} → Writer W → List ℕ → Result (Unit {0}) AnswerFault → Type 0
Replies answers due (Err (Write count)) = (n : ℕ) × (count ≡ min n last_count) × IsCutOff answers due n
Replies answers due other = IsWritten answers due

abbrev pub is_line_end : ℕ → Bool
is_line_end b = b == 10

-- those lines of bytes that have their `\n`
abbrev pub ended_lines : List ℕ → List (List ℕ)
ended_lines bytes = take (count_by is_line_end bytes) (command_lines bytes)

-- what is due, if `all` was left to read and `left` still is: the answers to all lines; at Read those to the lines
-- that had ended; at Memory those to the lines before some line
abbrev pub IsDue : Asked → List ℕ → Option (List ℕ) → List ℕ → Result (Unit {0}) AnswerFault → Type 0
IsDue asked all left due (Ok done) = due ≡ replies_to asked all
IsDue asked all left due (Err Read) =
    (read : List ℕ) × (rest : List ℕ) × (left ≡ Some rest) × (all ≡ read ++ rest)
    × (due ≡ flat_map (reply_to asked) (ended_lines read))
IsDue asked all left due (Err (Write count)) = due ≡ replies_to asked all
IsDue asked all left due (Err Memory) =
    (k : ℕ) × (k < length (command_lines all)) × (due ≡ flat_map (reply_to asked) (take k (command_lines all)))

-- The answers to commands: `known` tells all bytes before the call, and `left` those after it. Of a text that is due
-- to these bytes so much went out; if the bytes aren't told, of a text that is due to some bytes.
pub record AreAnswersTo {W : Type 0} (asked : Asked) (known left : Option (List ℕ)) (answers : Writer W)
    (result : Result (Unit {0}) AnswerFault) : Type 0 where
  pub due : List ℕ
  pub replies : Replies answers due result
  pub some : (all : List ℕ) × (rest : Option (List ℕ)) × IsDue asked all rest due result
  pub told : (all : List ℕ) → known ≡ Some all → IsDue asked all left due result

-- the answers to the commands that a stream tells, in a manner
abbrev pub IsConversedIn : {R W : Type 0} → Asked → Reader R → Writer W → Result (Unit {0}) AnswerFault → Type 0
IsConversedIn asked commands answers result =
    AreAnswersTo asked (known_before commands) (known_after commands) answers result

-- where no more commands are known
abbrev pub IsConversed : {R W : Type 0} → Index → Reader R → Writer W → Result (Unit {0}) AnswerFault → Type 0
IsConversed index commands answers result =
    IsConversedIn (record { index = index; manner = Plain }) commands answers result

-- the feed: it was read to its end; at Read, why it wasn't; else no read failed
abbrev pub LeavesFeed : {R : Type 0} → Reader R → Result (Unit {0}) AnswerFault → Type 0
LeavesFeed commands (Ok done) = IsReadThrough commands
LeavesFeed commands (Err Read) = IsReadFault commands
LeavesFeed commands (Err other) = IsUnfailed commands
