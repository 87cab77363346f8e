-- What the laws of the crates below say about the facts of files and of their symbols.
use Rattle.std.specs.Prelude.{◌≢◌, List, [], All}
use Rattle.proto_decl.specs.Facts.{Facts, AreOfSomeFile, NamesInOrder, UsesInOrder, ImportsInOrder, PackageInOrder}
use Rattle.proto_decl.specs.Laws.{AreNamed, AreHeld}
use Rattle.proto_visibility.specs.Files.{File, HaveOrigins, HaveOwnPaths}
use Rattle.proto_visibility.specs.Clashes.{NoClash}
use Rattle.proto_visibility.specs.declared.clash.Duplicates.TheVariants.{Keep}
use Rattle.proto_link.specs.Laws.{OneDeclarationAName}
use Rattle.scip_model.specs.Laws.{SymbolsNameOne}
use Rattle.scip_model.specs.Packages.{Packages}
use Rattle.scip_model.specs.Repeated.{AreRepeated}

-- What facts have is in order of place.
pub record InOrder : Type 0 where
  pub names : (facts : Facts) → AreOfSomeFile facts → NamesInOrder facts.declarations
  pub uses : (facts : Facts) → AreOfSomeFile facts → UsesInOrder facts.uses
  pub imports : (facts : Facts) → AreOfSomeFile facts → ImportsInOrder facts.imports
  pub package_name : (facts : Facts) → AreOfSomeFile facts → PackageInOrder facts

-- Facts spell each name by identifiers, and each declaration is in its scope.
pub record AreIdentifiers : Type 0 where
  pub named : (facts : Facts) → AreOfSomeFile facts → AreNamed facts.package_name facts.declarations
  pub paths : (facts : Facts) → AreOfSomeFile facts → All (λ declaration. declaration.path ≢ []) facts.declarations
  pub held : (facts : Facts) → AreOfSomeFile facts → AreHeld facts.package_name facts.declarations

-- Linked files, of which this is repeated, have symbols that stand apart.
pub record AreApart (files : List File) (ids : Packages) : Type 0 where
  pub own : HaveOwnPaths files
  pub origins : HaveOrigins files
  pub clear : NoClash Keep files
  pub repeated : AreRepeated files ids.repeated
  pub one_name : OneDeclarationAName
  pub spelled : AreIdentifiers
  pub symbols : SymbolsNameOne
