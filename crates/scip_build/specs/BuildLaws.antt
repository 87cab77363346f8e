-- What the definitions say about builds, whatever the code does.
use Rattle.std.specs.Prelude.{◌≡◌, ◌≢◌, ℕ, List, [], Contains}
use Rattle.proto_decl.specs.Values.{Seen}
use Rattle.proto_visibility.specs.declared.clash.Duplicates.TheVariants.{Keep}
use Rattle.proto_visibility.specs.declared.files.FilePlace.{FilePlace}
use Rattle.proto_visibility.specs.declared.fault.LinkFault.{LinkFault}
use Rattle.proto_visibility.specs.declared.fault.LinkFault.TheVariants as link
use Rattle.index_hooks.specs.declared.choice.Choice.{Choice}
use Rattle.source_tree.specs.Files.{TreeFile}
use Rattle.scip_build.specs.FactForms.{form_of}
use Rattle.scip_build.specs.declared.settings.Settings.{Settings}
use Rattle.scip_build.specs.declared.built.Built.{Built}
use Rattle.scip_build.specs.declared.fault.BuildFault.{BuildFault}
use Rattle.scip_build.specs.declared.fault.BuildFault.TheVariants.{Spawn, Memory, File, Duplicate, MissingImport}
use Rattle.scip_build.specs.declared.fault.BuildFault.TheVariants.{Unresolved, Ambiguous, OptionGap}
use Rattle.scip_build.specs.declared.omission.Omission.TheVariants as omitted
use Rattle.scip_build.specs.Builds.{IsBuilt, IsBuildFault}

-- What a fault names, as the linker would: of a file that can't be read its number, and of an option its place, as of a
-- use. Lack of memory or of a thread names nothing.
abbrev pub cause_of : BuildFault → LinkFault
cause_of Spawn = link.Memory
cause_of Memory = link.Memory
cause_of (File number fault) = link.Broken number
cause_of (Duplicate first second) = link.Duplicate first second
cause_of (MissingImport place) = link.MissingImport place
cause_of (Unresolved place) = link.Unresolved place
cause_of (Ambiguous place) = link.Ambiguous place
cause_of (OptionGap place) = link.Unresolved place

-- the files of a tree that is built have no fault, whatever was chosen
abbrev pub BuiltHasNoFault : (allows others : Seen → Choice → Type 0) → Type 0
BuiltHasNoFault allows others =
    (settings : Settings) (tree : List TreeFile) (workers : ℕ) (built : Built) (fault : BuildFault)
    → IsBuilt allows settings tree built
    → IsBuildFault others settings tree workers fault → cause_of fault ≢ link.Memory → ⊥

-- and those of any tree one at most
abbrev pub OneBuildFault : (allows others : Seen → Choice → Type 0) → Type 0
OneBuildFault allows others =
    (settings : Settings) (tree : List TreeFile) (workers more : ℕ) (fault other : BuildFault)
    → IsBuildFault allows settings tree workers fault → IsBuildFault others settings tree more other
    → cause_of fault ≢ link.Memory → cause_of other ≢ link.Memory → fault ≡ other

-- they read a tree alike, and let several files give one name or don't
pub record TellTheSame (settings other : Settings) : Type 0 where
  pub dialect : settings.dialect ≡ other.dialect
  pub form : form_of settings ≡ form_of other
  pub duplicates : settings.duplicates ≡ other.duplicates

-- So they tell the same of a tree, whatever else they set, and whatever may be chosen.
abbrev pub OneTold : (allows others : Seen → Choice → Type 0) → Type 0
OneTold allows others =
    (settings another : Settings) (tree : List TreeFile) (built other : Built) → TellTheSame settings another
    → IsBuilt allows settings tree built → IsBuilt others another tree other → built.told ≡ other.told

-- they set the same, but for what is done with faults
pub record SetTheSame (settings other : Settings) : Type 0 where
  pub project_root : settings.project_root ≡ other.project_root
  pub at : settings.at ≡ other.at
  pub id : settings.package ≡ other.package
  pub encoding : settings.encoding ≡ other.encoding
  pub dialect : settings.dialect ≡ other.dialect
  pub form : form_of settings ≡ form_of other
  pub duplicates : settings.duplicates ≡ other.duplicates

-- Once the choices are recorded, what is built depends only on the tree, these choices and the settings, whatever else
-- may be chosen. If faults are refused and there is none, the same is built as if they were skipped.
abbrev pub OneBuiltOfChoices : (allows others : Seen → Choice → Type 0) → Type 0
OneBuiltOfChoices allows others =
    (settings another : Settings) (tree : List TreeFile) (built other : Built) → SetTheSame settings another
    → built.choices ≡ other.choices
    → IsBuilt allows settings tree built → IsBuilt others another tree other → built ≡ other

-- only one choice may come for what is seen of a declaration, whichever of the two is asked
abbrev pub AllowOne : (allows others : Seen → Choice → Type 0) → Type 0
AllowOne allows others = (seen : Seen) (choice another : Choice) → allows seen choice → others seen another
    → choice ≡ another

-- There, the choices are one, too: so what is built depends only on the tree, what is allowed, and the settings.
abbrev pub OneBuilt : (allows others : Seen → Choice → Type 0) → Type 0
OneBuilt allows others =
    (settings another : Settings) (tree : List TreeFile) (built other : Built) → AllowOne allows others
    → SetTheSame settings another
    → IsBuilt allows settings tree built → IsBuilt others another tree other → built ≡ other

-- If faults are skipped and nothing is told, there is none: the same is built as if they were refused.
abbrev pub BuiltWhereNothingIsTold : (allows : Seen → Choice → Type 0) → Type 0
BuiltWhereNothingIsTold allows =
    (settings another : Settings) (tree : List TreeFile) (built : Built) → SetTheSame settings another
    → IsBuilt allows settings tree built → built.told ≡ [] → IsBuilt allows another tree built

-- the same settings, by which several files may give one name
abbrev pub keeping : Settings → Settings
keeping settings = record settings { duplicates = Keep }

-- If no file is left out for a name that is given twice, the same is built where several files may give one name.
abbrev pub BuiltAlikeIfKept : (allows : Seen → Choice → Type 0) → Type 0
BuiltAlikeIfKept allows =
    (settings : Settings) (tree : List TreeFile) (built : Built)
    → ((first second : FilePlace) → Contains built.told (omitted.Duplicate first second) → ⊥)
    → IsBuilt allows settings tree built → IsBuilt allows (keeping settings) tree built
