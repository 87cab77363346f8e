-- Which files can be linked, and why others can't.
use Rattle.std.specs.Prelude.{ℕ, List, length}
use Rattle.std.specs.HashMap.{HashMap}
use denote.Ref.{Bor}
use Rattle.proto_visibility.specs.declared.clash.Duplicates.{Duplicates}
use Rattle.proto_visibility.specs.declared.fault.LinkFault.{LinkFault}
use Rattle.proto_visibility.specs.declared.fault.LinkFault.TheVariants.{Broken, Duplicate, MissingImport, Memory}
use Rattle.proto_visibility.specs.declared.files.FilePlace.{FilePlace}
use Rattle.proto_visibility.specs.Files.{File, Imports, HaveOrigins, HaveOwnPaths}
use Rattle.proto_visibility.specs.Clashes.{Clash, NoClash}
use Rattle.proto_visibility.specs.Absences as absences
use Rattle.proto_visibility.specs.Tables.ImportTables.{AreRowsBy, ArePaths}
use Rattle.proto_visibility.specs.declared.names.Names.{Names}
use Rattle.proto_visibility.specs.Tables.GivenNames.{AreNames}
use Rattle.proto_visibility.specs.Tables.OptionTables.{AreOptionsIn}
use Rattle.proto_visibility.specs.declared.options.OptionsIn.{OptionsIn}

-- What names are looked up in: the reachable files have facts, and no names clash.
pub record HaveClearNames (duplicates : Duplicates) (files : List File) : Type 0 where
  pub read : absences.NoneBroken files
  pub clear : NoClash duplicates files

-- the same, and each import that has to be there is
pub record CanBeLinked (duplicates : Duplicates) (files : List File) : Type 0 where
  pub read : absences.NoneBroken files
  pub clear : NoClash duplicates files
  pub complete : absences.NoAbsent files

-- each fault comes if it holds and none of those before it does; nothing is said about memory
pub data MayRefuse (duplicates : Duplicates) (files : List File) : LinkFault → Type 0 where
  broken_file : {number : ℕ} → absences.Broken files number → MayRefuse duplicates files (Broken number)
  clashing : {first second : FilePlace} → absences.NoneBroken files → Clash duplicates files first second
      → MayRefuse duplicates files (Duplicate first second)
  absent_import : {place : FilePlace} → absences.NoneBroken files → NoClash duplicates files
      → absences.Absent files place → MayRefuse duplicates files (MissingImport place)
  lacks_memory : MayRefuse duplicates files Memory

-- what is kept of files that were checked
pub record AreChecked {S : Type 0} (duplicates : Duplicates) (files : List File) (paths : HashMap (Bor (List ℕ)) ℕ S)
    (rows : List (List ℕ)) (options : List OptionsIn) : Type 0 where
  pub clear_names : HaveClearNames duplicates files
  pub origins : HaveOrigins files
  pub own_paths : HaveOwnPaths files
  pub paths_are : ArePaths files paths
  pub rows_are : AreRowsBy (Imports files) (length files) rows
  pub options_are : AreOptionsIn files options

-- what a namespace keeps of its files
pub record IsLinked {S : Type 0} (duplicates : Duplicates) (files : List File) (paths : HashMap (Bor (List ℕ)) ℕ S)
    (rows : List (List ℕ)) (options : List OptionsIn) (names : Names) : Type 0 where
  pub checked : AreChecked duplicates files paths rows options
  pub names_are : AreNames files names
