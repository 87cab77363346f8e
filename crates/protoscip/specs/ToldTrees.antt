-- What is told of a tree if faults are skipped, whatever is made of the documents of its index.
use Rattle.std.specs.Prelude.{◌≡◌, ◌<◌, ℕ, List, []}
use Rattle.proto_lex.specs.declared.position.Encoding.TheVariants.{Utf8}
use Rattle.proto_decl.specs.Values.{Seen}
use Rattle.index_hooks.specs.declared.choice.Choice.{Choice}
use Rattle.source_tree.specs.Files.{TreeFile}
use Rattle.scip_build.specs.Builds.{IsBuilt}
use Rattle.scip_build.specs.declared.built.Built.{Built}
use Rattle.scip_build.specs.declared.omission.Omission.{Omission}
use Rattle.scip_build.specs.declared.faulty.Faulty.TheVariants.{Skip}
use Rattle.scip_build.specs.declared.settings.Settings.{Settings}
use Rattle.protoscip.specs.Dump.{no_package}
use Rattle.protoscip.specs.declared.fault.Fault.{Fault}
use Rattle.protoscip.specs.declared.fault.Fault.TheVariants.{Spawn, Memory}

-- the settings of a run, but faults are skipped
abbrev pub skipping : Settings → Settings
skipping settings = record settings { faulty = Skip }

-- The same, but documents have no place and symbols no package, and columns are in UTF-8: nothing that is told hangs on
-- these (`alone`, below).
abbrev pub telling : Settings → Settings
telling settings = record (skipping settings) { project_root = []; at = []; «package» = no_package; encoding = Utf8 }

-- It is told of an index that is built from the tree, and is what the run with these settings tells if faults are
-- skipped.
pub record IsToldOf (allows : Seen → Choice → Type 0) (settings : Settings) (tree : List TreeFile)
    (told : List Omission) : Type 0 where
  pub built : Built
  pub is : IsBuilt allows (telling settings) tree built
  pub told_is : built.told ≡ told
  pub alone : (other : Built) → IsBuilt allows (skipping settings) tree other → other.told ≡ told

-- why that can't be had: memory ran out, or a thread is refused, if one is to be started
pub data MayNotTell (workers : ℕ) : Fault → Type 0 where
  telling_lacks_thread : 1 < workers → MayNotTell workers Spawn
  telling_lacks_memory : MayNotTell workers Memory
