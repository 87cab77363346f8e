-- What a session answers, and what it leaves of its reader and its writer.
use Rattle.std.specs.Prelude.{◌⊎◌, ℕ, List, Result, Ok, Err}
use Rattle.proto_decl.specs.Values.{Seen}
use Rattle.index_hooks.specs.declared.choice.Choice.{Choice}
use Rattle.source_tree.specs.Files.{TreeFile}
use Rattle.streams.specs.Readers.{Reader, IsReadBriefly, IsUnread}
use Rattle.streams.specs.Writers.{Writer, IsUntouched}
use Rattle.scip_records.specs.declared.records.Index.{Index}
use Rattle.scip_build.specs.declared.settings.Settings.{Settings}
use Rattle.scip_query.specs.Conversing.{IsConversedIn, LeavesFeed}
use Rattle.scip_query.specs.declared.manner.Manner.{Manner}
use Rattle.scip_query.specs.declared.answer_fault.AnswerFault.{AnswerFault}
use Rattle.scip_query.specs.declared.answer_fault.AnswerFault.TheVariants as answer
use Rattle.protoscip.specs.Indexes.{IsIndexed, IsRefused}
use Rattle.protoscip.specs.declared.recorded.Recorded.{Recorded}
use Rattle.protoscip.specs.declared.fault.Fault.{Fault}
use Rattle.protoscip.specs.declared.fault.Fault.TheVariants.{Memory, Read, Answer}

-- nothing was read or written
pub record AreUntouched {R W : Type 0} (commands : Reader R) (answers : Writer W) : Type 0 where
  pub unread : IsUnread commands
  pub unwritten : IsUntouched answers

module _ {R W : Type 0} (manner : Manner) (commands : Reader R) (answers : Writer W) where
  -- commands are read and answered from an index, in a manner: what is due to them goes out, or that part of it which
  -- the fault leaves
  pub record AreAnswered (index : Index) (answered : Result (Unit {0}) AnswerFault) : Type 0 where
    pub conversed : IsConversedIn (record { index = index; manner = manner }) commands answers answered
    pub feed : LeavesFeed commands answered
    pub briefly : IsReadBriefly commands

  -- they are; or memory runs out before the first
  abbrev pub MayAnswer : Index → Result (Unit {0}) AnswerFault → Type 0
  MayAnswer index (Err answer.Memory) =
      AreUntouched commands answers ⊎ AreAnswered index (Err answer.Memory)
  MayAnswer index answered = AreAnswered index answered

  -- The tree is indexed, this is recorded, and commands are answered from the index that its bytes decode to.
  pub record IsServed (allows : Seen → Choice → Type 0) (settings : Settings) (tree : List TreeFile)
      (recorded : Recorded) (answered : Result (Unit {0}) AnswerFault) : Type 0 where
    pub bytes : List ℕ
    pub indexed : IsIndexed allows settings tree recorded bytes
    pub are : AreAnswered indexed.index answered

  -- All commands are answered; or reading them or writing answers stops; or memory ran out before an answer, or before
  -- the first; or the tree isn't indexed.
  abbrev pub Serves : (allows : Seen → Choice → Type 0) → Settings → List TreeFile → (workers : ℕ)
      → Result Recorded Fault → Type 0
  Serves allows settings tree workers (Ok recorded) =
      IsServed allows settings tree recorded (Ok tt)
  Serves allows settings tree workers (Err Read) =
      (recorded : Recorded) × IsServed allows settings tree recorded (Err answer.Read)
  Serves allows settings tree workers (Err (Answer count)) =
      (recorded : Recorded) × IsServed allows settings tree recorded (Err (answer.Write count))
  Serves allows settings tree workers (Err Memory) =
      AreUntouched commands answers
      ⊎ ((recorded : Recorded) × IsServed allows settings tree recorded (Err answer.Memory))
  Serves allows settings tree workers (Err fault) =
      IsRefused allows settings tree workers fault × AreUntouched commands answers
