-- Why sources and included files make no tree, and what is handed back.
use Rattle.std.specs.Prelude.{◌≡◌, ℕ, ◌+◌, ◌<◌, ◌≤◌, List, ◌++◌, Some, length, take, slice_get}
use Rattle.source_tree.specs.Path.{IsGoodPath}
use Rattle.source_tree.specs.declared.fault.TreeFault.{TreeFault}
use Rattle.source_tree.specs.declared.fault.TreeFault.TheVariants.{TooMany, BadPath, SamePath, Memory}
use Rattle.source_tree.specs.Files.{SourceFile, IsByPath, RepeatsAPath}
use Rattle.source_tree.specs.Trees.{max_files, HaveGoodPaths}

-- more files than a tree has
abbrev pub AreTooMany : List SourceFile → List SourceFile → Type 0
AreTooMany sources included = max_files < length sources + length included

-- the least number of a file whose path isn't good
pub record IsFirstBad (files : List SourceFile) (number : ℕ) : Type 0 where
  pub file : SourceFile
  pub numbered : slice_get files number ≡ Some file
  pub bad : ¬ (IsGoodPath file.path)
  pub least : HaveGoodPaths (take number files)

-- of files that aren't too many, through the sources and then the included ones
pub record HaveBadPath (sources included : List SourceFile) (number : ℕ) : Type 0 where
  pub few : length sources + length included ≤ max_files
  pub first : IsFirstBad (sources ++ included) number

-- the least number of a file with the path of an earlier one
pub record IsFirstRepeat (files : List SourceFile) (number : ℕ) : Type 0 where
  pub repeats : RepeatsAPath files number
  pub least : (lesser : ℕ) → lesser < number → ¬ (RepeatsAPath files lesser)

-- of files that aren't too many and have good paths, in the list of the sources sorted by path
pub record HaveSamePath (sources included : List SourceFile) (number : ℕ) : Type 0 where
  pub few : length sources + length included ≤ max_files
  pub good : HaveGoodPaths (sources ++ included)
  pub sorted : List SourceFile
  pub by_path : IsByPath sources sorted
  pub first : IsFirstRepeat sorted number

-- each fault comes if it holds and none of those before it does; memory is asked for once there are few enough files and
-- their paths are good
abbrev pub MayRefuse : List SourceFile → List SourceFile → TreeFault → Type 0
MayRefuse sources included TooMany = AreTooMany sources included
MayRefuse sources included (BadPath number) = HaveBadPath sources included number
MayRefuse sources included (SamePath number) = HaveSamePath sources included number
MayRefuse sources included Memory = (length sources + length included ≤ max_files) × HaveGoodPaths (sources ++ included)

-- the sources come back sorted by path if two have one path, and else as they were
abbrev pub ComeBack : List SourceFile → TreeFault → List SourceFile → Type 0
ComeBack sources TooMany back = back ≡ sources
ComeBack sources (BadPath number) back = back ≡ sources
ComeBack sources (SamePath number) back = IsByPath sources back
ComeBack sources Memory back = back ≡ sources
