-- What is linked of files that were read, and why they can't be.
use Rattle.std.specs.Prelude.{◌≡◌, ℕ, ⊤, Option, Some, None, Result, Ok, Err, List, [], map}
use Rattle.std.specs.List.{slice_get}
use Rattle.proto_decl.specs.Facts.{Facts}
use Rattle.proto_visibility.specs.declared.clash.Duplicates.{Duplicates}
use Rattle.proto_visibility.specs.declared.fault.LinkFault.TheVariants as link
use Rattle.proto_visibility.specs.declared.files.FilePlace.{FilePlace}
use Rattle.proto_visibility.specs.Files.{File}
use Rattle.proto_visibility.specs.Absences.{Broken, IsUnreadBy}
use Rattle.proto_visibility.specs.Linked.{CanBeLinked, MayRefuse}
use Rattle.index_hooks.specs.declared.choice.Choice.{Choice}
use Rattle.scip_build.specs.declared.fault.FileFault.{FileFault}
use Rattle.scip_build.specs.declared.fault.BuildFault.{BuildFault}
use Rattle.scip_build.specs.declared.fault.BuildFault.TheVariants as build
use Rattle.scip_build.specs.Files.{FileContents, ReadFile}

-- a file's facts, if it has contents
abbrev pub facts_in : Result FileContents FileFault → Option Facts
facts_in (Ok contents) = Some contents.facts
facts_in (Err fault) = None

-- a file as it is linked
abbrev pub linked_file : ReadFile → File
linked_file parsed_file = record {
  path = parsed_file.path;
  facts = facts_in parsed_file.contents;
  is_included = parsed_file.is_included;
  is_left_out = parsed_file.is_left_out;
  links_options = parsed_file.links_options;
}

abbrev pub linked_files : List ReadFile → List File
linked_files parsed = map linked_file parsed

-- the choices for a file's declarations; none if it has no contents
abbrev pub choices_in : Result FileContents FileFault → List Choice
choices_in (Ok contents) = contents.choices
choices_in (Err fault) = []

abbrev pub choices_of : ReadFile → List Choice
choices_of parsed_file = choices_in parsed_file.contents

-- the file with this number has no facts
abbrev pub IsUnreadAt : List ReadFile → (number : ℕ) → Type 0
IsUnreadAt parsed = IsUnreadBy (linked_files parsed) (λ number. ⊤)

-- the file with this number has no contents, for this fault
pub record HasFault (parsed : List ReadFile) (number : ℕ) (fault : FileFault) : Type 0 where
  pub parsed_file : ReadFile
  pub numbered : slice_get parsed number ≡ Some parsed_file
  pub unread : parsed_file.contents ≡ Err fault

-- Why files that were read can't be linked: the least of the sources and included sources that has no contents, and
-- the fault of that; else what the linker refuses. Nothing is said about memory, and threads and uses are no matter
-- of it.
pub data MayRefuseParsed (duplicates : Duplicates) (parsed : List ReadFile) : BuildFault → Type 0 where
  linking_lacks_memory : MayRefuseParsed duplicates parsed build.Memory
  is_unread : {number : ℕ} {fault : FileFault} → Broken (linked_files parsed) number
      → HasFault parsed number fault → MayRefuseParsed duplicates parsed (build.File number fault)
  is_duplicate : {first second : FilePlace} → MayRefuse duplicates (linked_files parsed) (link.Duplicate first second)
      → MayRefuseParsed duplicates parsed (build.Duplicate first second)
  is_missing : {place : FilePlace} → MayRefuse duplicates (linked_files parsed) (link.MissingImport place)
      → MayRefuseParsed duplicates parsed (build.MissingImport place)

-- the files can be linked, and are those of the linker
abbrev pub AreLinked : Duplicates → List ReadFile → List File → Type 0
AreLinked duplicates parsed files = (files ≡ linked_files parsed) × CanBeLinked duplicates (linked_files parsed)
