-- What is built from a tree, and why nothing is.
use Rattle.std.specs.Prelude.{◌≡◌, ◌⊎◌, ◌<◌, ℕ, ⊤, List, map}
use Rattle.scip_build.specs.declared.read_form.ReadForm.{ReadForm}
use Rattle.proto_parse.specs.dialect.Dialect.{Dialect}
use Rattle.proto_decl.specs.Values.{Seen}
use Rattle.index_hooks.specs.declared.choice.Choice.{Choice}
use Rattle.proto_visibility.specs.Linked.{CanBeLinked, HaveClearNames}
use Rattle.scip_build.specs.FactForms.{form_of}
use Rattle.scip_model.specs.Indexes.{IsIndexWith}
use Rattle.scip_records.specs.declared.records.Index.{Index}
use Rattle.scip_model.specs.Packages.{RepeatedNames, naming}
use Rattle.scip_model.specs.Repeated.{AreRepeated}
use Rattle.source_tree.specs.Files.{TreeFile}
use Rattle.scip_build.specs.declared.settings.Settings.{Settings}
use Rattle.scip_build.specs.declared.faulty.Faulty.TheVariants.{Refuse}
use Rattle.scip_build.specs.declared.built.Built.{Built}
use Rattle.scip_build.specs.declared.fault.BuildFault.{BuildFault}
use Rattle.scip_build.specs.declared.fault.BuildFault.TheVariants.{Spawn, Memory, File, Duplicate, MissingImport}
use Rattle.scip_build.specs.declared.fault.BuildFault.TheVariants.{Unresolved, Ambiguous, OptionGap}
use Rattle.scip_build.specs.Files.{ReadFile}
use Rattle.scip_build.specs.Placing.{index_at}
use Rattle.scip_build.specs.ParsedFiles.{AreParsedFiles, IsFirstFaulty}
use Rattle.scip_build.specs.Linking.{linked_files, choices_of, MayRefuseParsed}
use Rattle.scip_build.specs.Documents.{texts_of, asked_in, asks_in, IsAmbiguousAt, IsLeastUnresolved}
use Rattle.scip_build.specs.Documents.{IsLeastGap}
use Rattle.scip_build.specs.Kept.{AreKept, IsWithoutFault}

-- What is built of files that were read: some are kept, and it is the index of these files, their texts, the recorded
-- choices, the settings, and what is repeated among them; of the rest it is told why. If faults are refused, nothing is
-- told: so all files are kept, they can be linked, each use of each source names a type, and no option has a gap.
pub record IsBuiltOf (all : List ReadFile) (settings : Settings) (built : Built) : Type 0 where
  pub parsed : List ReadFile
  pub kept : AreKept settings.duplicates (asks_in settings) all parsed built.told
  pub clear : HaveClearNames settings.duplicates (linked_files parsed)
  pub refused : settings.faulty ≡ Refuse → IsWithoutFault settings.duplicates (asks_in settings) all parsed built.told
  pub choices : built.choices ≡ map choices_of parsed
  pub repeated : RepeatedNames
  pub are_repeated : AreRepeated (linked_files parsed) repeated
  pub index : IsIndexWith (asked_in settings parsed) (linked_files parsed) (texts_of parsed) built.choices
      (naming settings.package repeated) settings.encoding settings.project_root built.index

-- what is built, with this index
abbrev pub with_index : Index → Built → Built
with_index index built = record built { index = index }

-- The index of a tree, the choices that it is made by, and what is told of files that have no part in it. The index is
-- that of the files that were read, whose documents have the paths of their sources, with its documents where the
-- settings place them.
pub record IsBuilt (allows : Seen → Choice → Type 0) (settings : Settings) (tree : List TreeFile)
    (built : Built) : Type 0 where
  pub all : List ReadFile
  pub read : AreParsedFiles settings.faulty settings.dialect (form_of settings) allows tree all
  pub plain : Index
  pub of_files : IsBuiltOf all settings (with_index plain built)
  pub placed : built.index ≡ index_at settings.at plain

-- this holds of some parsed files of the tree: so each source could be read
abbrev pub OfParsed : (dialect : Dialect) → ReadForm → (allows : Seen → Choice → Type 0) → List TreeFile
    → (List ReadFile → Type 0) → Type 0
OfParsed dialect form allows tree Holds =
    (parsed : List ReadFile) × AreParsedFiles Refuse dialect form allows tree parsed × Holds parsed

-- Why a tree has no index: the first source that can't be read; else what the linking of its files refuses; else the
-- first use that names no type, or several; else the first gap of an option, if names in options are linked; all this
-- only if faults are refused. A thread is refused only if one is to be started; nothing is said about memory.
abbrev pub IsBuildFault : (allows : Seen → Choice → Type 0) → Settings → List TreeFile → (workers : ℕ) → BuildFault
    → Type 0
IsBuildFault allows settings tree workers Spawn = 1 < workers
IsBuildFault allows settings tree workers Memory = ⊤
IsBuildFault allows settings tree workers (File number fault) =
    (settings.faulty ≡ Refuse) × (IsFirstFaulty settings.dialect tree number fault
    ⊎ OfParsed settings.dialect (form_of settings) allows tree
    (λ parsed. MayRefuseParsed settings.duplicates parsed (File number fault)))
IsBuildFault allows settings tree workers (Duplicate first second) =
    (settings.faulty ≡ Refuse) × OfParsed settings.dialect (form_of settings) allows tree
    (λ parsed. MayRefuseParsed settings.duplicates parsed (Duplicate first second))
IsBuildFault allows settings tree workers (MissingImport place) =
    (settings.faulty ≡ Refuse) × OfParsed settings.dialect (form_of settings) allows tree
    (λ parsed. MayRefuseParsed settings.duplicates parsed (MissingImport place))
IsBuildFault allows settings tree workers (Unresolved place) =
    (settings.faulty ≡ Refuse) × OfParsed settings.dialect (form_of settings) allows tree
    (λ parsed. CanBeLinked settings.duplicates (linked_files parsed) × IsLeastUnresolved (linked_files parsed) place
    × (IsAmbiguousAt (linked_files parsed) place → ⊥))
IsBuildFault allows settings tree workers (Ambiguous place) =
    (settings.faulty ≡ Refuse) × OfParsed settings.dialect (form_of settings) allows tree
    (λ parsed. CanBeLinked settings.duplicates (linked_files parsed) × IsLeastUnresolved (linked_files parsed) place
    × IsAmbiguousAt (linked_files parsed) place)
IsBuildFault allows settings tree workers (OptionGap place) =
    (settings.faulty ≡ Refuse) × OfParsed settings.dialect (form_of settings) allows tree
    (λ parsed. CanBeLinked settings.duplicates (linked_files parsed)
    × IsLeastGap (asked_in settings parsed) parsed (linked_files parsed) place)
