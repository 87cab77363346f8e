-- What is built, written or answered from navigates its tree.
use Rattle.std.proofs.Common.{ℕ, List, Ok}
use Rattle.proto_decl.specs.Values.{Seen}
use Rattle.index_hooks.specs.declared.choice.Choice.{Choice}
use Rattle.source_tree.specs.Files.{TreeFile}
use Rattle.streams.specs.Readers.{Reader}
use Rattle.streams.specs.Writers.{Writer, IsWritten}
use Rattle.scip_records.specs.declared.records.Index.{Index}
use Rattle.scip_build.specs.declared.settings.Settings.{Settings}
use Rattle.scip_query.specs.declared.manner.Manner.{Manner}
use Rattle.protoscip.specs.declared.recorded.Recorded.{Recorded}
use Rattle.protoscip.specs.Headline.{HeadlineOfTree, IsNavigable}
use Rattle.protoscip.specs.Indexes.{Indexes}
use Rattle.protoscip.specs.Sessions.{AreAnswered, Serves}

module _ (allows : Seen → Choice → Type 0) (settings : Settings) (tree : List TreeFile)
    (headline : HeadlineOfTree allows settings tree) where
  pub writes : {W : Type 0} (out : Writer W) (workers : ℕ) (recorded : Recorded)
      → Indexes allows settings tree workers out (Ok recorded)
      → IsNavigable (λ (bytes : List ℕ) (index : Index). IsWritten out bytes) allows settings tree recorded
  writes out workers recorded is = (is.0, is.1.index, headline recorded is.0 is.1, is.2)

  pub answers : {R W : Type 0} (manner : Manner) (commands : Reader R) (out : Writer W) (workers : ℕ)
      (recorded : Recorded)
      → Serves manner commands out allows settings tree workers (Ok recorded)
      → IsNavigable (λ (bytes : List ℕ) (index : Index). AreAnswered manner commands out index (Ok tt))
      allows settings tree
      recorded
  answers manner commands out workers recorded is =
      (is.bytes, is.indexed.index, headline recorded is.bytes is.indexed, is.are)
