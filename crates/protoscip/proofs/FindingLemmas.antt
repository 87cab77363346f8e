-- Why what is told of a tree can't be had, and that it is what the run tells.
use Rattle.std.proofs.Common.{◌≡◌, ℕ, List, refl, subst}
use Rattle.proto_decl.specs.Values.{Seen}
use Rattle.index_hooks.specs.declared.choice.Choice.{Choice}
use Rattle.source_tree.specs.Files.{TreeFile}
use Rattle.scip_build.specs.Builds.{IsBuildFault}
use Rattle.scip_build.specs.BuildLaws.{TellTheSame}
use Rattle.scip_build.specs.declared.settings.Settings.{Settings}
use Rattle.scip_build.specs.declared.fault.BuildFault.{BuildFault}
use Rattle.scip_build.specs.declared.fault.BuildFault.TheVariants as build
use Rattle.scip_build.specs.declared.fault.FileFault.TheVariants as file
use Rattle.protoscip.specs.Faults.{fault_of_build}
use Rattle.protoscip.specs.ToldTrees.{MayNotTell, skipping, telling}
use Rattle.protoscip.specs.ToldTrees.MayNotTell.{telling_lacks_thread, telling_lacks_memory}

-- if faults are skipped, a tree is refused for want of memory or of a thread alone
unrefused : (allows : Seen → Choice → Type 0) (settings : Settings) (tree : List TreeFile) (workers : ℕ)
    (e : BuildFault) → IsBuildFault allows (telling settings) tree workers e → MayNotTell workers (fault_of_build e)
unrefused allows settings tree workers build.Spawn is = telling_lacks_thread is
unrefused allows settings tree workers build.Memory is = telling_lacks_memory
unrefused allows settings tree workers (build.File number file.Unread) is = let never = is.0 in absurd cc
unrefused allows settings tree workers (build.File number (file.Lex e)) is = let never = is.0 in absurd cc
unrefused allows settings tree workers (build.File number (file.Syntax e)) is = let never = is.0 in absurd cc
unrefused allows settings tree workers (build.Duplicate first second) is = let never = is.0 in absurd cc
unrefused allows settings tree workers (build.MissingImport place) is = let never = is.0 in absurd cc
unrefused allows settings tree workers (build.Unresolved place) is = let never = is.0 in absurd cc
unrefused allows settings tree workers (build.Ambiguous place) is = let never = is.0 in absurd cc
unrefused allows settings tree workers (build.OptionGap place) is = let never = is.0 in absurd cc

pub stops_so : (allows : Seen → Choice → Type 0) (settings set : Settings) (tree : List TreeFile) (workers : ℕ)
    (e : BuildFault) → set ≡ telling settings → IsBuildFault allows set tree workers e
    → MayNotTell workers (fault_of_build e)
stops_so allows settings set tree workers e are refused =
    unrefused allows settings tree workers e
    (subst (λ (s : Settings). IsBuildFault allows s tree workers e) are refused)

-- the run and what is made in its place tell the same
pub told_alike : (settings : Settings) → TellTheSame (skipping settings) (telling settings)
told_alike settings = record { dialect = refl; form = refl; duplicates = refl }
