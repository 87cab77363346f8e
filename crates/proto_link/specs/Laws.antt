-- Laws about linking.
use Rattle.std.specs.Prelude.{◌≡◌, ◌≢◌, ◌<◌, ◌≤◌, ℕ, Some, List, length}
use Rattle.std.specs.List.{slice_get}
use Rattle.proto_decl.specs.Names.{package_of}
use Rattle.proto_decl.specs.Facts.{Facts}
use Rattle.proto_decl.specs.declared.declaration.Declaration.{Declaration}
use Rattle.proto_decl.specs.declared.uses.Use.{Use}
use Rattle.proto_visibility.specs.declared.clash.Duplicates.{Duplicates}
use Rattle.proto_visibility.specs.declared.clash.Duplicates.TheVariants.{Refuse}
use Rattle.proto_visibility.specs.declared.files.FilePlace.{FilePlace}
use Rattle.proto_visibility.specs.declared.fault.LinkFault.{LinkFault}
use Rattle.proto_visibility.specs.declared.fault.LinkFault.TheVariants.{Memory}
use Rattle.proto_visibility.specs.declared.lookup.Entity.{Entity}
use Rattle.proto_link.specs.declared.target.Target.{Target}
use Rattle.proto_visibility.specs.Files.{File, HasFacts, HaveOrigins, IsPresent, IsSource}
use Rattle.proto_visibility.specs.Reaches.{IsReachable}
use Rattle.proto_visibility.specs.Clashes.{Clash, NoClash, ShareNames}
use Rattle.proto_visibility.specs.Knows.{IsEntityOf}
use Rattle.proto_visibility.specs.Absences.{Absent, Broken}
use Rattle.proto_link.specs.Resolves.{Resolves}
use Rattle.proto_link.specs.Targets.{Names, IsAmbiguous, IsTarget}
use Rattle.proto_visibility.specs.Linked.{MayRefuse}
use Rattle.proto_visibility.specs.Kept.{Omissions, AreOmissions}

-- a use names one type at most
abbrev pub OneNameAUse : Type 0
OneNameAUse = (files : List File) (file : ℕ) (type_use : Use) (name other : List ℕ) → Resolves files file type_use name
    → Resolves files file type_use other → name ≡ other

-- there is one least file that is reachable and has no facts
abbrev pub OneBrokenFile : Type 0
OneBrokenFile = (files : List File) (number other : ℕ) → Broken files number → Broken files other → number ≡ other

-- a reachable file declares it, by its index there
pub record IsDeclaredAt (files : List File) (number index : ℕ) (declaration : Declaration) : Type 0 where
  pub facts : Facts
  pub is_reachable : IsReachable files number
  pub known : HasFacts files number facts
  pub stands : slice_get facts.declarations index ≡ Some declaration

-- a reachable file has the package, or one below it
pub record HasPackage (files : List File) (number : ℕ) (name : List ℕ) : Type 0 where
  pub facts : Facts
  pub count : ℕ
  pub is_reachable : IsReachable files number
  pub known : HasFacts files number facts
  pub some : 0 < count
  pub few : count ≤ length facts.package_name
  pub named : name ≡ package_of facts.package_name count

-- without a clash a full name is that of one declaration at most, or names only packages: of files that share names
abbrev pub OneDeclarationAName : Type 0
OneDeclarationAName = (duplicates : Duplicates) (files : List File) → HaveOrigins files → NoClash duplicates files
    → (number index other its : ℕ) (a b : Declaration) → ShareNames duplicates number other
    → IsDeclaredAt files number index a → IsDeclaredAt files other its b → a.full_name ≡ b.full_name
    → (number ≡ other) × (index ≡ its)

abbrev pub NoPackageIsDeclared : Type 0
NoPackageIsDeclared = (duplicates : Duplicates) (files : List File) → HaveOrigins files → NoClash duplicates files
    → (number index other : ℕ) (declaration : Declaration) → ShareNames duplicates number other
    → IsDeclaredAt files number index declaration → HasPackage files other declaration.full_name → ⊥

-- so a full name is that of one entity of a reachable file at most
abbrev pub OneEntityAName : Type 0
OneEntityAName = (duplicates : Duplicates) (files : List File) → HaveOrigins files → NoClash duplicates files
    → (number : ℕ) → IsReachable files number → (facts : Facts) → HasFacts files number facts → (name : List ℕ) (count : ℕ) (a b : Entity)
    → IsEntityOf number facts name count a → IsEntityOf number facts name count b → a ≡ b

-- Where no file is left out, a full name to which a use in a source resolves is that of one file, so the use names it.
abbrev pub EachNameHasAnOwner : Type 0
EachNameHasAnOwner = (files : List File) → ((number : ℕ) → number < length files → IsPresent files number)
    → NoClash Refuse files → (source : ℕ) → IsSource files source → (type_use : Use) (name : List ℕ)
    → Resolves files source type_use name → (owner : ℕ) × Names files source type_use name owner

-- If all files are one namespace, no use in a source is ambiguous.
abbrev pub NoUseIsAmbiguous : Type 0
NoUseIsAmbiguous = (files : List File) → NoClash Refuse files → (source : ℕ) → IsSource files source
    → (type_use : Use) → IsAmbiguous files source type_use → ⊥

-- and a use in a source has one target at most
abbrev pub OneTargetAUse : Type 0
OneTargetAUse = (duplicates : Duplicates) (files : List File) → HaveOrigins files → NoClash duplicates files
    → (source : ℕ) → IsSource files source → (type_use : Use) (a b : Target)
    → IsTarget files source type_use a → IsTarget files source type_use b → a ≡ b

-- there is one first clash, and one first import of a file that isn't there
abbrev pub OneClash : Type 0
OneClash = (duplicates : Duplicates) (files : List File) → HaveOrigins files → (first second other its : FilePlace)
    → Clash duplicates files first second → Clash duplicates files other its → (first ≡ other) × (second ≡ its)

abbrev pub OneAbsence : Type 0
OneAbsence = (files : List File) → HaveOrigins files → (place other : FilePlace) → Absent files place
    → Absent files other → place ≡ other

-- what is left out of files with faults is one list, each for one reason
abbrev pub OneOmissionList : Type 0
OneOmissionList = (duplicates : Duplicates) (files : List File) → HaveOrigins files → (omissions others : Omissions)
    → AreOmissions duplicates files omissions → AreOmissions duplicates files others → omissions ≡ others

-- so files that can't be linked are refused for one reason, but for memory
abbrev pub OneRefusal : Type 0
OneRefusal = (duplicates : Duplicates) (files : List File) → HaveOrigins files → (a b : LinkFault)
    → MayRefuse duplicates files a → MayRefuse duplicates files b → a ≢ Memory → b ≢ Memory → a ≡ b
