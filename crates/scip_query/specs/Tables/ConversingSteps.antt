-- What holds while commands are read and answered, a byte at a time, and what a refusal leaves. `sink` is what the
-- trait of the answers says of them; `first` is it before the first byte, `now` it here, and `read` the bytes that were
-- read in between.
use Rattle.std.specs.Prelude.{◌≡◌, ℕ, ◌+◌, nat_le, cond, min, List, [], ◌∷◌, ◌++◌, length, take, Result, Ok}
use Rattle.std.specs.Prelude.{Err}
use Rattle.std.specs.List.{flat_map, count_by}
use Rattle.streams.specs.Streams.{last_count, more_by}
use Rattle.streams.specs.Writers.{SinkOf, Writer, writing, IsWritten, IsCutOff, IsUntouched}
use Rattle.scip_query.specs.Commands.{command_lines, max_command_length}
use Rattle.scip_query.specs.MoreAnswers.{Asked, reply_to, replies_to}
use Rattle.scip_query.specs.Conversing.{is_line_end}
use Rattle.scip_query.specs.declared.answer_fault.AnswerFault.{AnswerFault}
use Rattle.scip_query.specs.declared.answer_fault.AnswerFault.TheVariants.{Read, Write, Memory}
use Rattle.scip_query.specs.declared.conversation.Conversation.{Conversation}

-- what is kept of a line: all of a command, and one byte more of a line that is too long to be one
abbrev pub max_kept_length : ℕ
max_kept_length = max_command_length + 1

abbrev pub kept_line : List ℕ → List ℕ
kept_line line = take max_kept_length line

-- with one byte more
abbrev pub kept_with : List ℕ → ℕ → List ℕ
kept_with kept byte = cond (nat_le (length kept) max_command_length) (kept ++ byte ∷ []) kept

-- the lines that ended are answered, and of the one that is begun so much is kept
pub record Stands {W : Type 0} (sink : SinkOf W) (asked : Asked) (first : W)
    (read : List ℕ) (talk : Conversation) (now : W) : Type 0 where
  pub ended : List (List ℕ)
  pub begun : List ℕ
  pub lines : (behind : List ℕ) → command_lines (read ++ behind) ≡ ended ++ command_lines (begun ++ behind)
  pub ends : count_by is_line_end read ≡ length ended
  pub unended : count_by is_line_end begun ≡ 0
  pub kept : talk.line.items ≡ kept_line begun
  pub answered : IsWritten (writing sink first now) (flat_map (reply_to asked) ended)
  pub written : talk.written ≡ min (length (flat_map (reply_to asked) ended)) last_count

-- a write failed when so many bytes of the answers to some first lines had gone out
pub record IsCutShort {W : Type 0} (sink : SinkOf W) (asked : Asked) (first : W)
    (read : List ℕ) (now : W) (count : ℕ) : Type 0 where
  pub ended : List (List ℕ)
  pub sent : ℕ
  pub lines : (behind : List ℕ) → (others : List (List ℕ)) × (command_lines (read ++ behind) ≡ ended ++ others)
  pub cut_off : IsCutOff (writing sink first now) (flat_map (reply_to asked) ended) sent
  pub counted : count ≡ min sent last_count

-- the lines before some line are answered, and nothing went out of its answer
pub record IsHalted {W : Type 0} (sink : SinkOf W) (asked : Asked) (first : W)
    (read : List ℕ) (now : W) : Type 0 where
  pub ended : List (List ℕ)
  pub lines : (behind : List ℕ)
      → (next : List ℕ) × (others : List (List ℕ)) × (command_lines (read ++ behind) ≡ ended ++ next ∷ others)
  pub answered : IsWritten (writing sink first now) (flat_map (reply_to asked) ended)

-- what a step on the way leaves. (It reads nothing.)
abbrev pub Goes : {W : Type 0} → SinkOf W → Asked → W → List ℕ → Conversation → W → Result (Unit {0}) AnswerFault
    → Type 0
Goes sink asked first read talk now (Ok done) = Stands sink asked first read talk now
Goes sink asked first read talk now (Err Read) = ⊥
Goes sink asked first read talk now (Err (Write count)) =
    IsCutShort sink asked first read now count
Goes sink asked first read talk now (Err Memory) = IsHalted sink asked first read now

-- an answer went out, as a whole or up to a failed write, and is counted after those before it; or memory ran out
-- before it
abbrev pub AnswersNext : {W : Type 0} → Writer W → Conversation → Conversation → List ℕ → Result (Unit {0}) AnswerFault
    → Type 0
AnswersNext answers talk next due (Ok done) =
    IsWritten answers due × (next.line.items ≡ []) × (next.written ≡ more_by (length due) talk.written)
AnswersNext answers talk next due (Err Read) = ⊥
AnswersNext answers talk next due (Err (Write count)) =
    (n : ℕ) × IsCutOff answers due n × (count ≡ more_by n talk.written)
AnswersNext answers talk next due (Err Memory) = IsUntouched answers

-- at the end of the bytes: all lines are answered, the last one too if no `\n` ends it
abbrev pub Concludes : {W : Type 0} → SinkOf W → Asked → W → List ℕ → W → Result (Unit {0}) AnswerFault → Type 0
Concludes sink asked first read now (Ok done) =
    IsWritten (writing sink first now) (replies_to asked read)
Concludes sink asked first read now (Err Read) = ⊥
Concludes sink asked first read now (Err (Write count)) =
    (n : ℕ) × (count ≡ min n last_count) × IsCutOff (writing sink first now) (replies_to asked read) n
Concludes sink asked first read now (Err Memory) = IsHalted sink asked first read now
