-- Parts of a tree, and what is built of them: what is built of the whole, if it is without a fault.
use Rattle.std.specs.Prelude.{◌≡◌, ◌≢◌, ◌⊎◌, ℕ, Bool, false, List, [], map, filter, not, Contains, Some, slice_get}
use Rattle.std.specs.List.Sorted.{IsStrictlySortedBy}
use Rattle.proto_decl.specs.Values.{Seen}
use Rattle.index_hooks.specs.declared.choice.Choice.{Choice}
use Rattle.proto_visibility.specs.declared.clash.Duplicates.TheVariants.{Keep}
use Rattle.proto_visibility.specs.declared.fault.LinkFault.TheVariants as link
use Rattle.proto_visibility.specs.Files.{HasPathAt}
use Rattle.proto_visibility.specs.Reaches.{Reaches}
use Rattle.scip_records.specs.declared.records.Document.{Document}
use Rattle.scip_records.specs.declared.records.SymbolInformation.{SymbolInformation}
use Rattle.scip_model.specs.Indexes.{info_cmp}
use Rattle.scip_model.specs.Packages.{ArePackages, package_of_path}
use Rattle.scip_model.specs.Repeated.{IsRepeated}
use Rattle.source_tree.specs.Files.{TreeFile}
use Rattle.source_tree.specs.Trees.{IsTree}
use Rattle.scip_build.specs.declared.settings.Settings.{Settings}
use Rattle.scip_build.specs.declared.built.Built.{Built}
use Rattle.scip_build.specs.declared.fault.BuildFault.{BuildFault}
use Rattle.scip_build.specs.BuildLaws.{AllowOne, SetTheSame, cause_of}
use Rattle.scip_build.specs.Builds.{IsBuildFault, IsBuilt}
use Rattle.scip_build.specs.Files.{ReadFile}
use Rattle.scip_build.specs.Linking.{linked_files}
use Rattle.scip_build.specs.Placing.{path_at}
use Rattle.scip_build.specs.Repeating.{with_packages}

-- a tree, and what is built of it by settings
pub record BuiltTree : Type 0 where
  pub settings : Settings
  pub tree : List TreeFile
  pub built : Built

abbrev pub IsBuiltTree : (allows : Seen → Choice → Type 0) → BuiltTree → Type 0
IsBuiltTree allows all = IsBuilt allows all.settings all.tree all.built

-- ---- parts

-- The tree has the file: one of its path, of which the same is read. If it is a source, it is one there.
pub record HasFile (tree : List TreeFile) (file : TreeFile) : Type 0 where
  pub other : TreeFile
  pub listed : Contains tree other
  pub path : file.path ≡ other.path
  pub text : file.text ≡ other.text
  pub unread : file.is_unread ≡ other.is_unread
  pub source : file.is_included ≡ false → other.is_included ≡ false

-- The tree has all files that its sources reach in the whole, of which this was read.
abbrev pub HasReached : (tree : List TreeFile) → (whole : List ReadFile) → Type 0
HasReached tree whole =
    (file : TreeFile) → Contains tree file → file.is_included ≡ false → (source reached : ℕ)
    → HasPathAt (linked_files whole) file.path source → Reaches (linked_files whole) source reached
    → (other : TreeFile) × Contains tree other × HasPathAt (linked_files whole) other.path reached

-- They set the same, and give the files of the tree the same packages.
pub record AreSetAlike (tree : List TreeFile) (settings theirs : Settings) : Type 0 where
  pub same : SetTheSame (with_packages settings theirs.«package») theirs
  pub run : settings.«package».run ≡ theirs.«package».run
  pub files : (file : TreeFile) → Contains tree file
      → package_of_path settings.«package» file.path ≡ package_of_path theirs.«package» file.path

-- for a file that both have, the same was chosen
abbrev pub AreChosenAlike : (part whole : BuiltTree) → Type 0
AreChosenAlike part whole = (number there : ℕ) (file other : TreeFile) → slice_get part.tree number ≡ Some file
    → slice_get whole.tree there ≡ Some other → file.path ≡ other.path
    → slice_get part.built.choices number ≡ slice_get whole.built.choices there

-- The tree is a part of the whole, of which this was read, and is to be built by such settings.
pub record IsPartTree (whole : BuiltTree) (read : List ReadFile) (settings : Settings)
    (tree : List TreeFile) : Type 0 where
  pub is_tree : IsTree tree
  pub files : (file : TreeFile) → Contains tree file → HasFile whole.tree file
  pub reached : HasReached tree read
  pub set : AreSetAlike tree settings whole.settings

-- It is built of a part, by the same choices or where one choice alone may come.
pub record IsBuiltPart (allows : Seen → Choice → Type 0) (whole : BuiltTree) (is : IsBuiltTree allows whole)
    (part : BuiltTree) : Type 0 where
  pub of_whole : IsPartTree whole is.all part.settings part.tree
  pub built : IsBuiltTree allows part
  pub chosen : AreChosenAlike part whole ⊎ AllowOne allows allows

-- A tree without a fault of its own. If several files may give one name, none does.
pub record IsFaultless (allows : Seen → Choice → Type 0) (whole : BuiltTree)
    (is : IsBuiltTree allows whole) : Type 0 where
  pub is_tree : IsTree whole.tree
  pub none : whole.built.told ≡ []
  pub unrepeated : whole.settings.duplicates ≡ Keep
      → (number : ℕ) (name : List ℕ) → IsRepeated (linked_files is.all) number name → ⊥

-- ---- what is built of them

abbrev pub is_source : TreeFile → Bool
is_source file = not file.is_included

-- the paths of the sources of a tree
abbrev pub source_paths : List TreeFile → List (List ℕ)
source_paths tree = map (λ (file : TreeFile). file.path) (filter is_source tree)

-- a document has the entry
pub record IsDefinedBy (documents : List Document) (entry : SymbolInformation) : Type 0 where
  pub document : Document
  pub listed : Contains documents document
  pub has : Contains document.symbols entry

-- Nothing is told of it. Its documents are the whole's, and so are its external entries, or the whole has them in a
-- document.
pub record IsBuiltAlike (whole part : BuiltTree) : Type 0 where
  pub none : part.built.told ≡ []
  pub metadata : part.built.index.metadata ≡ whole.built.index.metadata
  pub documents : (document : Document) → Contains part.built.index.documents document
      → Contains whole.built.index.documents document
  pub externals : (entry : SymbolInformation) → Contains part.built.index.external_symbols entry
      → Contains whole.built.index.external_symbols entry ⊎ IsDefinedBy whole.built.index.documents entry

-- An external entry comes of a source: each part that has the source has the entry.
pub record ComesOfSource (allows : Seen → Choice → Type 0) (whole : BuiltTree) (is : IsBuiltTree allows whole)
    (entry : SymbolInformation) : Type 0 where
  pub source : List ℕ
  pub listed : Contains (source_paths whole.tree) source
  pub each : (part : BuiltTree) → IsBuiltPart allows whole is part → Contains (source_paths part.tree) source
      → Contains part.built.index.external_symbols entry

-- The documents of a tree are at the paths of its sources, in their order.
abbrev pub HasDocuments : BuiltTree → Type 0
HasDocuments all = map (λ (d : Document). d.relative_path) all.built.index.documents
    ≡ map (path_at all.settings.at) (source_paths all.tree)

-- Its external entries come by symbol, and none of them is of a symbol that a document has an entry of.
pub record HasApartExternals (all : BuiltTree) : Type 0 where
  pub by_symbol : IsStrictlySortedBy info_cmp all.built.index.external_symbols
  pub undefined : (entry other : SymbolInformation) → Contains all.built.index.external_symbols entry
      → IsDefinedBy all.built.index.documents other → other.symbol ≡ entry.symbol → ⊥

-- The laws of what is built of a part of a tree without faults.
pub record PartsAreBuiltAlike (allows : Seen → Choice → Type 0) : Type 0 where
  pub never_refused : (whole : BuiltTree) (is : IsBuiltTree allows whole) → IsFaultless allows whole is
      → (settings : Settings) (tree : List TreeFile) → IsPartTree whole is.all settings tree
      → (workers : ℕ) (fault : BuildFault) → IsBuildFault allows settings tree workers fault
      → cause_of fault ≢ link.Memory → ⊥
  pub parts : (whole : BuiltTree) (is : IsBuiltTree allows whole) → IsFaultless allows whole is → (part : BuiltTree)
      → IsBuiltPart allows whole is part → IsBuiltAlike whole part
  pub paths : (all : BuiltTree) → IsTree all.tree → IsBuiltTree allows all → all.built.told ≡ [] → HasDocuments all
  pub apart : (all : BuiltTree) (is : IsBuiltTree allows all) → IsFaultless allows all is
      → ArePackages all.settings.«package» → HasApartExternals all
  pub externals : (whole : BuiltTree) (is : IsBuiltTree allows whole) → IsFaultless allows whole is
      → (entry : SymbolInformation) → Contains whole.built.index.external_symbols entry
      → ComesOfSource allows whole is entry
