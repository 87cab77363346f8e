-- What a session answers, by where it stops.
use Rattle.std.proofs.Common.{◌≡◌, ℕ, List, Result, Ok, Err, inl, inr, subst}
use Rattle.streams.specs.Readers.{Reader}
use Rattle.streams.specs.Writers.{Writer}
use Rattle.proto_decl.specs.Values.{Seen}
use Rattle.index_hooks.specs.declared.choice.Choice.{Choice}
use Rattle.source_tree.specs.Files.{TreeFile}
use Rattle.scip_records.specs.declared.records.Index.{Index}
use Rattle.scip_build.specs.Builds.{IsBuilt, IsBuildFault}
use Rattle.scip_build.specs.declared.built.Built.{Built}
use Rattle.scip_build.specs.declared.fault.BuildFault.{BuildFault}
use Rattle.scip_build.specs.declared.fault.BuildFault.TheVariants as build
use Rattle.scip_build.specs.declared.fault.FileFault.TheVariants as file
use Rattle.scip_build.specs.declared.settings.Settings.{Settings}
use Rattle.scip_query.specs.declared.answer_fault.AnswerFault.{AnswerFault}
use Rattle.scip_query.specs.declared.manner.Manner.{Manner}
use Rattle.scip_query.specs.declared.answer_fault.AnswerFault.TheVariants as answer
use Rattle.scip_wire.specs.Spelling.{spelling_of}
use Rattle.protoscip.specs.Faults.{fault_of_answering, fault_of_build}
use Rattle.protoscip.specs.FaultLines.{HasFilesOf}
use Rattle.protoscip.specs.Indexes.{recorded_of, IsSpelled}
use Rattle.protoscip.specs.Conversing.{AreAnsweredFrom, Converses}
use Rattle.protoscip.specs.Conversing.Converses.{all_are_answered, reading_stops, writing_stops, answer_lacks_memory}
use Rattle.protoscip.specs.Conversing.Converses.{first_lacks_memory, has_too_many_bytes}
use Rattle.protoscip.specs.Sessions.{AreAnswered, AreUntouched, MayAnswer, IsServed, Serves}
use Rattle.protoscip.specs.declared.fault.Fault.{Fault}

module _ {R W : Type 0} (manner : Manner) (commands : Reader R) (answers : Writer W) where
  -- commands are answered from an index that was read back
  module _ (index read : Index) (spelled : IsSpelled index (spelling_of index)) (same : read ≡ index) where
    pub conversed : (answered : Result (Unit {0}) AnswerFault)
        → AreAnswered manner commands answers read answered
        → AreAnsweredFrom manner commands answers index
        answered
    conversed answered are =
        record {
          spelled = spelled;
          are = subst (λ (i : Index). AreAnswered manner commands answers i answered) same are;
        }

    pub stopped : (e : AnswerFault)
        → MayAnswer manner commands answers read (Err e)
        → Converses manner commands answers index
        (Err (fault_of_answering e))
    stopped answer.Read are = reading_stops (conversed (Err answer.Read) are)
    stopped (answer.Write count) are = writing_stops (conversed (Err (answer.Write count)) are)
    stopped answer.Memory (inl untouched) = first_lacks_memory spelled.small untouched
    stopped answer.Memory (inr are) = answer_lacks_memory (conversed (Err answer.Memory) are)

  pub may_answer : (index : Index) (answered : Result (Unit {0}) AnswerFault)
      → AreAnswered manner commands answers index answered
      → MayAnswer manner commands answers index answered
  may_answer index (Ok done) are = are
  may_answer index (Err answer.Read) are = are
  may_answer index (Err (answer.Write count)) are = are
  may_answer index (Err answer.Memory) are = inr are

  -- a tree isn't indexed
  pub unbuilt : (allows : Seen → Choice → Type 0) (settings : Settings) (tree : List TreeFile) (workers : ℕ)
      (e : BuildFault) → IsBuildFault allows settings tree workers e → AreUntouched commands answers
      → Serves manner commands answers allows settings tree workers (Err (fault_of_build e))
  unbuilt allows settings tree workers build.Spawn is untouched = (is, untouched)
  unbuilt allows settings tree workers build.Memory is untouched = inl untouched
  unbuilt allows settings tree workers (build.File number (file.Lex e)) is untouched = (is, untouched)
  unbuilt allows settings tree workers (build.File number (file.Syntax e)) is untouched = (is, untouched)
  unbuilt allows settings tree workers (build.File number file.Unread) is untouched = (is, untouched)
  unbuilt allows settings tree workers (build.Duplicate first second) is untouched = (is, untouched)
  unbuilt allows settings tree workers (build.MissingImport place) is untouched = (is, untouched)
  unbuilt allows settings tree workers (build.Unresolved place) is untouched = (is, untouched)
  unbuilt allows settings tree workers (build.Ambiguous place) is untouched = (is, untouched)
  unbuilt allows settings tree workers (build.OptionGap place) is untouched = (is, untouched)

  -- and that index is the one that was built
  module _ (allows : Seen → Choice → Type 0) (settings : Settings) (tree : List TreeFile) (workers : ℕ) (built : Built)
      (is : IsBuilt allows settings tree built) where
    served : (answered : Result (Unit {0}) AnswerFault)
        → AreAnsweredFrom manner commands answers built.index
        answered
        → IsServed manner commands answers allows settings tree (recorded_of built.choices built.told) answered
    served answered from = record {
      bytes = spelling_of built.index;
      indexed = record { index = built.index; built = is; spelled = from.spelled };
      are = from.are;
    }

    pub unserved : (e : Fault)
        → Converses manner commands answers built.index
        (Err e)
        → Serves manner commands answers allows settings tree workers (Err e)
    unserved _ (reading_stops from) = (recorded_of built.choices built.told, served _ from)
    unserved _ (writing_stops from) = (recorded_of built.choices built.told, served _ from)
    unserved _ (answer_lacks_memory from) = inr (recorded_of built.choices built.told, served _ from)
    unserved _ (first_lacks_memory short untouched) = inl untouched
    unserved _ (has_too_many_bytes large untouched) = ((built, is, large), untouched)

    pub all_served : (done : Unit {0})
        → Converses manner commands answers built.index
        (Ok done)
        → Serves manner commands answers allows settings tree workers (Ok (recorded_of built.choices built.told))
    all_served done (all_are_answered from) = served (Ok tt) from

  -- it has no fault of a file
  pub no_files : (tree : List TreeFile) (index : Index) (e : Fault)
      → Converses manner commands answers index (Err e)
      → HasFilesOf tree e
  no_files tree index _ (reading_stops from) = tt
  no_files tree index _ (writing_stops from) = tt
  no_files tree index _ (answer_lacks_memory from) = tt
  no_files tree index _ (first_lacks_memory short untouched) = tt
  no_files tree index _ (has_too_many_bytes large untouched) = tt
