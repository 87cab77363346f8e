-- What files are read as, and which file is the first that can't be.
use Rattle.std.specs.Prelude.{◌≡◌, ◌<◌, ℕ, ⊤, Bool, true, false, Result, Ok, Err, Some, List, length, MatchResult}
use Rattle.std.specs.Prelude.{IfSome}
use Rattle.std.specs.List.{AllZip, slice_get}
use Rattle.proto_decl.specs.declared.form.FactForm.{FactForm}
use Rattle.proto_parse.specs.dialect.Dialect.{Dialect}
use Rattle.proto_decl.specs.Facts.{Facts}
use Rattle.proto_decl.specs.Values.{Seen}
use Rattle.proto_decl.specs.Declares.{simple_name}
use Rattle.proto_decl.specs.declared.declaration.Declaration.{Declaration}
use Rattle.index_hooks.specs.declared.choice.Choice.{Choice}
use Rattle.scip_build.specs.declared.faulty.Faulty.{Faulty}
use Rattle.scip_build.specs.declared.faulty.Faulty.TheVariants.{Refuse, Skip}
use Rattle.scip_build.specs.declared.fault.FileFault.{FileFault}
use Rattle.scip_build.specs.declared.fault.BuildFault.{BuildFault}
use Rattle.scip_build.specs.declared.fault.BuildFault.TheVariants.{Spawn, Memory, File}
use Rattle.scip_build.specs.declared.file_parsing.NoContents.{NoContents}
use Rattle.scip_build.specs.declared.file_parsing.NoContents.TheVariants as lacking
use Rattle.scip_build.specs.declared.read_form.ReadForm.{ReadForm}
use Rattle.scip_build.specs.Parsed.{AreFactsIn, IsBesideIf, IsUnreadable, asks_options}
use Rattle.source_tree.specs.Files.{TreeFile}
use Rattle.scip_build.specs.Files.{FileContents, ReadFile}

-- what a callback sees of a declaration
abbrev pub seen_of : Declaration → Seen
seen_of declaration = record {
  kind = declaration.kind;
  name = simple_name declaration.path;
  full_name = declaration.full_name;
  leading = declaration.leading;
  trailing = declaration.trailing;
}

-- for each declaration, in order, a choice that may come for it
abbrev pub AreChosen : (allows : Seen → Choice → Type 0) → List Declaration → List Choice → Type 0
AreChosen allows declarations choices =
    AllZip (λ declaration choice. allows (seen_of declaration) choice) declarations choices

-- what the file with this number and these bytes is read as
pub record IsReadAs (dialect : Dialect) (form : FactForm) (allows : Seen → Choice → Type 0) (number : ℕ)
    (bytes : List ℕ) (facts : Facts) (choices : List Choice) : Type 0 where
  pub facts_in : AreFactsIn dialect form number bytes facts
  pub chosen : AreChosen allows facts.declarations choices

-- the contents of the file with this number, if it could be read, and these bytes
abbrev pub AreContentsOf : Dialect → ReadForm → (is_included is_unread : Bool) → (allows : Seen → Choice → Type 0)
    → (number : ℕ) → (bytes : List ℕ) → FileContents → Type 0
AreContentsOf dialect form is_included is_unread allows number bytes contents =
    (contents.text ≡ bytes) × IsReadAs dialect form.facts allows number bytes contents.facts contents.choices
    × IsBesideIf (asks_options dialect form.options) bytes is_included contents.beside
    × (is_unread ≡ false)

-- a file may be without contents if it is included, and any may if it isn't refused for it
abbrev pub may_be_unread : Faulty → (is_included : Bool) → Bool
may_be_unread Refuse is_included = is_included
may_be_unread Skip is_included = true

-- the contents of a file, or, if it may be without, why it has none
abbrev pub HasContents : Faulty → Dialect → ReadForm → (allows : Seen → Choice → Type 0) → (number : ℕ) → TreeFile
    → Result FileContents FileFault → Type 0
HasContents faulty dialect form allows number file (Ok contents) =
    AreContentsOf dialect form file.is_included file.is_unread allows number file.text contents
HasContents faulty dialect form allows number file (Err fault) =
    (may_be_unread faulty file.is_included ≡ true) × IsUnreadable dialect file.is_unread file.text fault

-- a file after it was read
pub record IsParsedFile (faulty : Faulty) (dialect : Dialect) (form : ReadForm) (allows : Seen → Choice → Type 0)
    (number : ℕ) (file : TreeFile) (parsed_file : ReadFile) : Type 0 where
  pub path : parsed_file.path ≡ file.path
  pub is_included : parsed_file.is_included ≡ file.is_included
  pub present : parsed_file.is_left_out ≡ false
  pub links : parsed_file.links_options ≡ asks_options dialect form.options
  pub contents : HasContents faulty dialect form allows number file parsed_file.contents

-- the files after they were read, each under its number
pub record AreParsedFiles (faulty : Faulty) (dialect : Dialect) (form : ReadForm) (allows : Seen → Choice → Type 0)
    (files : List TreeFile) (parsed : List ReadFile) : Type 0 where
  pub one_each : length parsed ≡ length files
  pub each : (number : ℕ) (file : TreeFile) (parsed_file : ReadFile) → slice_get files number ≡ Some file
      → slice_get parsed number ≡ Some parsed_file
      → IsParsedFile faulty dialect form allows number file parsed_file

-- a source, which can't be read
pub record IsFaultySource (dialect : Dialect) (file : TreeFile) (fault : FileFault) : Type 0 where
  pub source : file.is_included ≡ false
  pub unreadable : IsUnreadable dialect file.is_unread file.text fault

-- the file could be read and has facts, if it is a source, in some form
abbrev pub IsReadIfSource : Dialect → ℕ → TreeFile → Type 0
IsReadIfSource dialect number file = file.is_included ≡ false
    → (form : FactForm) × (facts : Facts) × AreFactsIn dialect form number file.text facts × (file.is_unread ≡ false)

-- the file with this number is the first source that can't be read
pub record IsFirstFaulty (dialect : Dialect) (files : List TreeFile) (number : ℕ)
    (fault : FileFault) : Type 0 where
  pub file : TreeFile
  pub numbered : slice_get files number ≡ Some file
  pub faulty : IsFaultySource dialect file fault
  pub before : (lesser : ℕ) (other : TreeFile) → lesser < number → slice_get files lesser ≡ Some other
      → IsReadIfSource dialect lesser other

-- Why the files aren't read: a source can't be, and such sources are refused. A thread is refused only if one is to
-- be started, that is, for two workers or more; nothing is said about memory.
pub data MayRefuseFiles (faulty : Faulty) (dialect : Dialect) (files : List TreeFile) (workers : ℕ)
    : BuildFault → Type 0 where
  files_lack_thread : 1 < workers → MayRefuseFiles faulty dialect files workers Spawn
  files_lack_memory : MayRefuseFiles faulty dialect files workers Memory
  first_is_faulty : {number : ℕ} {fault : FileFault} → faulty ≡ Refuse → IsFirstFaulty dialect files number fault
      → MayRefuseFiles faulty dialect files workers (File number fault)

-- why a file stops the run: it is a source that can't be read, and such are refused; nothing is said about memory
abbrev pub MayRefuseParsing : Faulty → Dialect → TreeFile → NoContents → Type 0
MayRefuseParsing faulty dialect file lacking.Memory = ⊤
MayRefuseParsing faulty dialect file (lacking.Unreadable fault) = (faulty ≡ Refuse) × IsFaultySource dialect file fault

-- what the parsed file of the file with this number gives
abbrev pub GivesParsedFile : Faulty → Dialect → ReadForm → (allows : Seen → Choice → Type 0) → List TreeFile → ℕ
    → Result ReadFile NoContents → Type 0
GivesParsedFile faulty dialect form allows files number result =
    IfSome (slice_get files number)
    (λ file. MatchResult result (IsParsedFile faulty dialect form allows number file)
    (MayRefuseParsing faulty dialect file))
