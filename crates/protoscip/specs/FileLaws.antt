-- The files that a build names are the tree's, whatever may be chosen, as `allows` says.
use Rattle.std.specs.Prelude.{ℕ, List}
use Rattle.proto_decl.specs.Values.{Seen}
use Rattle.index_hooks.specs.declared.choice.Choice.{Choice}
use Rattle.source_tree.specs.Files.{TreeFile}
use Rattle.scip_build.specs.declared.built.Built.{Built}
use Rattle.scip_build.specs.declared.fault.BuildFault.{BuildFault}
use Rattle.scip_build.specs.declared.settings.Settings.{Settings}
use Rattle.scip_build.specs.Builds.{IsBuilt, IsBuildFault}
use Rattle.protoscip.specs.FaultLines.{HasFilesOf, HaveFilesOf}
use Rattle.protoscip.specs.Faults.{fault_of_build}

-- those of its faults, and those of what it tells
pub record BuiltHasFiles (allows : Seen → Choice → Type 0) : Type 0 where
  pub of_fault : (settings : Settings) (tree : List TreeFile) (workers : ℕ) (fault : BuildFault)
      → IsBuildFault allows settings tree workers fault → HasFilesOf tree (fault_of_build fault)
  pub of_told : (settings : Settings) (tree : List TreeFile) (built : Built) → IsBuilt allows settings tree built
      → HaveFilesOf tree built.told
