-- What is made of files that were read, and why it isn't.
use Rattle.std.specs.Prelude.{◌≡◌, ◌↔◌, ◌<◌, ℕ, ⊤, Bool, List, [], Contains}
use Rattle.proto_visibility.specs.Files.{File}
use Rattle.proto_visibility.specs.declared.clash.Duplicates.{Duplicates}
use Rattle.proto_visibility.specs.Linked.{CanBeLinked}
use Rattle.scip_records.specs.declared.records.Index.{Index}
use Rattle.scip_model.specs.Chosen.{Chosen}
use Rattle.scip_model.specs.Conditions.{AllResolve}
use Rattle.scip_model.specs.Indexes.{IsIndexWith}
use Rattle.proto_visibility.specs.declared.files.FilePlace.{FilePlace}
use Rattle.proto_link.specs.declared.uncertain_use.UncertainUse.{UncertainUse}
use Rattle.scip_build.specs.declared.settings.Settings.{Settings}
use Rattle.scip_build.specs.declared.faulty.Faulty.TheVariants.{Refuse}
use Rattle.scip_build.specs.declared.fault.BuildFault.{BuildFault}
use Rattle.scip_build.specs.declared.fault.BuildFault.TheVariants as build
use Rattle.scip_build.specs.Files.{ReadFile}
use Rattle.scip_build.specs.Linking.{linked_files, MayRefuseParsed}
use Rattle.scip_build.specs.Documents.{texts_of, asked_if, asked_in, AllAreDecided, IsAmbiguousAt, IsUnresolvedAt}
use Rattle.scip_build.specs.Documents.{IsGapAt, IsLeastGap, IsLeastUnresolved, IsUncertainNameAt}

-- The index is that of the files, these are the uses of sources that name no type, none if such are refused, and these
-- the gaps of their options, and the uncertain names in these.
pub record IsMade (parsed : List ReadFile) (files : List File) (chosen : Chosen) (settings : Settings)
    (index : Index) (unresolved_uses option_gaps : List FilePlace) (uncertain_names : List UncertainUse)
    : Type 0 where
  pub decided : AllAreDecided files
  pub unresolved : (place : FilePlace) → Contains unresolved_uses place ↔ IsUnresolvedAt files place
  pub gaps : (place : FilePlace) → Contains option_gaps place ↔ IsGapAt (asked_in settings parsed) parsed files place
  pub names : (name : UncertainUse) → Contains uncertain_names name
      ↔ IsUncertainNameAt (asked_in settings parsed) parsed files name
  pub refused : settings.faulty ≡ Refuse → AllResolve files × (unresolved_uses ≡ [])
  pub is : IsIndexWith (asked_in settings parsed) files (texts_of parsed) chosen settings.package settings.encoding
      settings.project_root index

-- why files that were read make no index
abbrev pub MayRefuseMaking : Duplicates → (asks : Bool) → List ReadFile → (workers : ℕ) → BuildFault → Type 0
MayRefuseMaking duplicates asks parsed workers build.Spawn = 1 < workers
MayRefuseMaking duplicates asks parsed workers build.Memory = ⊤
MayRefuseMaking duplicates asks parsed workers (build.File number fault) =
    MayRefuseParsed duplicates parsed (build.File number fault)
MayRefuseMaking duplicates asks parsed workers (build.Duplicate first second) =
    MayRefuseParsed duplicates parsed (build.Duplicate first second)
MayRefuseMaking duplicates asks parsed workers (build.MissingImport place) =
    MayRefuseParsed duplicates parsed (build.MissingImport place)
MayRefuseMaking duplicates asks parsed workers (build.Unresolved place) =
    CanBeLinked duplicates (linked_files parsed) × IsLeastUnresolved (linked_files parsed) place
    × (IsAmbiguousAt (linked_files parsed) place → ⊥)
MayRefuseMaking duplicates asks parsed workers (build.Ambiguous place) =
    CanBeLinked duplicates (linked_files parsed) × IsLeastUnresolved (linked_files parsed) place
    × IsAmbiguousAt (linked_files parsed) place
MayRefuseMaking duplicates asks parsed workers (build.OptionGap place) =
    CanBeLinked duplicates (linked_files parsed)
    × IsLeastGap (asked_if asks parsed) parsed (linked_files parsed) place

-- why what is kept of a tree makes no index
pub data MayRefuseSkipping (workers : ℕ) : BuildFault → Type 0 where
  skipping_lacks_thread : 1 < workers → MayRefuseSkipping workers build.Spawn
  skipping_lacks_memory : MayRefuseSkipping workers build.Memory
