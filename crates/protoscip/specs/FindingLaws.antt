-- No two findings of an index are alike, nor two faults of a run that is refused, whatever may be chosen, as `allows`
-- says.
use Rattle.std.specs.Prelude.{◌≢◌, ℕ, List, AllPairs, map}
use Rattle.proto_decl.specs.Values.{Seen}
use Rattle.index_hooks.specs.declared.choice.Choice.{Choice}
use Rattle.source_tree.specs.Files.{TreeFile}
use Rattle.source_tree.specs.Trees.{HaveOwnPaths}
use Rattle.scip_build.specs.Builds.{IsBuilt}
use Rattle.scip_build.specs.declared.built.Built.{Built}
use Rattle.scip_build.specs.declared.settings.Settings.{Settings}
use Rattle.protoscip.specs.Findings.{all_findings, faults_of, faults_with, told_findings}
use Rattle.protoscip.specs.Unread.{PathUnread}
use Rattle.protoscip.specs.declared.fault.Fault.{Fault}

-- no two are alike
abbrev pub AreApart : {X : Type 0} → List X → Type 0
AreApart xs = AllPairs (λ x y. x ≢ y) xs

-- the bytes of a path
abbrev pub bytes_of : PathUnread → List ℕ
bytes_of path = path.bytes

-- of the findings of what is told, and of the faults of a run that is refused
pub record FindingsComeOnce (allows : Seen → Choice → Type 0) : Type 0 where
  pub of_told : (settings : Settings) (tree : List TreeFile) (built : Built) → HaveOwnPaths tree
      → IsBuilt allows settings tree built → AreApart (told_findings tree built.told)
  -- with what isn't read, of which no two paths are one
  pub of_all : (settings : Settings) (tree : List TreeFile) (unread : List PathUnread) (built : Built)
      → HaveOwnPaths tree → IsBuilt allows settings tree built → AreApart (map bytes_of unread)
      → AreApart (all_findings tree unread built.told)
  pub of_refused : (settings : Settings) (tree : List TreeFile) (built : Built) (fault : Fault)
      → IsBuilt allows settings tree built → AreApart (faults_with fault (faults_of built.told))
