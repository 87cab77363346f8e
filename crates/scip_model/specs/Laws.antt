-- What the definitions say about documents, external entries and indexes, whatever the code does: there is one of
-- each at most, and no two occurrences of a document tie.
use Rattle.std.specs.Prelude.{◌≡◌, ℕ, Option, Some, List, []}
use Rattle.std.specs.List.{slice_get}
use Rattle.proto_decl.specs.Facts.{Facts}
use Rattle.proto_decl.specs.declared.declaration.Declaration.{Declaration}
use Rattle.proto_decl.specs.declared.uses.Component.{Component}
use Rattle.proto_lex.specs.declared.position.Encoding.{Encoding}
use Rattle.option_link.specs.declared.facts.OptionFacts.{OptionFacts}
use Rattle.proto_visibility.specs.Files.{File}
use Rattle.proto_visibility.specs.Clashes.{NoClash}
use Rattle.proto_visibility.specs.declared.clash.Duplicates.TheVariants.{Refuse}
use Rattle.proto_visibility.specs.declared.lookup.Entity.TheVariants as link
use Rattle.scip_records.specs.declared.records.Document.{Document}
use Rattle.scip_records.specs.declared.records.Occurrence.{Occurrence}
use Rattle.scip_records.specs.declared.records.Index.{Index}
use Rattle.scip_records.specs.declared.records.SymbolInformation.{SymbolInformation}
use Rattle.scip_symbol.specs.Package.{Package, IsPackage}
use Rattle.scip_symbol.specs.Entities.{Entity, OfFile, IsEntity, symbol_in}
use Rattle.scip_symbol.specs.SymbolText.{symbol_text}
use Rattle.scip_symbol.specs.OneEntity.{IsWithoutClash, IsAmong}
use Rattle.scip_model.specs.Packages.{Packages, RepeatedNames, names_at}
use Rattle.scip_model.specs.Packages.{package_of_path, package_of_file, package_of_part}
use Rattle.scip_model.specs.Chosen.{Chosen}
use Rattle.scip_model.specs.Named.{HasDeclaration, NamesIn, text_of, declaration_in, home_of_file}
use Rattle.scip_model.specs.Repeated.{AreRepeated}
use Rattle.scip_model.specs.Entries.{IsKeptEntry}
use Rattle.scip_model.specs.Indexes.{AreExternalsWith, IsDocumentWith, IsIndexWith}
use Rattle.scip_model.specs.Options.{OccursWith}
use Rattle.scip_model.specs.Conditions.{HasText}

-- In each of these names in options are linked, or not (`asked`).

-- a source with a text has one document at most
abbrev pub OneDocument : Type 0
OneDocument =
    (asked : Option (List OptionFacts)) (files : List File) (chosen : Chosen) (ids : Packages) (encoding : Encoding)
    (source : ℕ) (text : List ℕ) (document other : Document)
    → IsDocumentWith asked files chosen ids encoding source text document
    → IsDocumentWith asked files chosen ids encoding source text other → document ≡ other

-- files, which have these texts, have one list of external entries at most
abbrev pub OneListOfExternals : Type 0
OneListOfExternals =
    (asked : Option (List OptionFacts)) (files : List File) (texts : List (List ℕ)) (chosen : Chosen) (ids : Packages)
    (entries others : List SymbolInformation) → AreExternalsWith asked files texts chosen ids entries
    → AreExternalsWith asked files texts chosen ids others → entries ≡ others

-- files with texts have one index at most
abbrev pub OneIndex : Type 0
OneIndex =
    (asked : Option (List OptionFacts)) (files : List File) (texts : List (List ℕ)) (chosen : Chosen) (ids : Packages)
    (encoding : Encoding) (project_root : List ℕ) (index other : Index)
    → IsIndexWith asked files texts chosen ids encoding project_root index
    → IsIndexWith asked files texts chosen ids encoding project_root other → index ≡ other

-- occurrences of a document with one range and one symbol are one occurrence: none tie in the order of its list
abbrev pub NoTies : Type 0
NoTies =
    (asked : Option (List OptionFacts)) (files : List File) (chosen : Chosen) (ids : Packages) (encoding : Encoding)
    (source : ℕ) (text : List ℕ) → HasText files source text
    → (occurrence other : Occurrence) → OccursWith asked files chosen ids encoding source text occurrence
    → OccursWith asked files chosen ids encoding source text other
    → occurrence.range ≡ other.range → occurrence.symbol ≡ other.symbol → occurrence ≡ other

-- in declarations without a clash, entities whose symbols have one text are one entity, in whatever packages
abbrev pub SymbolsNameOne : Type 0
SymbolsNameOne =
    (id its : Package) (declarations : List Entity) → IsPackage id → IsPackage its → IsWithoutClash declarations
    → (entity other : Entity) → IsEntity entity → IsEntity other → IsAmong declarations entity
    → IsAmong declarations other
    → symbol_text (symbol_in id entity) ≡ symbol_text (symbol_in its other) → entity ≡ other

-- Where no two files may give one name, nothing is repeated: symbols are the usual ones.
abbrev pub NothingIsRepeated : Type 0
NothingIsRepeated = (files : List File) (repeated : RepeatedNames) → NoClash Refuse files → AreRepeated files repeated
    → repeated ≡ []

-- Two files declare the same, whatever number each has in its tree: the name of the package, and the declarations.
pub record DeclareTheSame (here there : Facts) : Type 0 where
  pub package_name : here.package_name ≡ there.package_name
  pub declarations : here.declarations ≡ there.declarations

-- Two trees share a file: it has one path in both, declares the same, has one package, and has the same repeated.
pub record IsShared (files others : List File) (ids theirs : Packages) (number other : ℕ) : Type 0 where
  pub path : List ℕ
  pub here : File
  pub there : File
  pub numbered_here : slice_get files number ≡ Some here
  pub numbered_there : slice_get others other ≡ Some there
  pub path_here : here.path ≡ path
  pub path_there : there.path ≡ path
  pub facts : (one its : Facts) → here.facts ≡ Some one → there.facts ≡ Some its → DeclareTheSame one its
  pub one_package : package_of_path ids path ≡ package_of_path theirs path
  pub repeated : names_at ids.repeated number ≡ names_at theirs.repeated other

-- What trees share has one symbol in both. The file has: where it is defined, and where the other tree imports it. Each
-- of its declarations has: where it is defined, where a use in the other tree names it, and in the entry that the other
-- tree has for it. (`scip.proto`, Symbol: a symbol identifies its entity across indexes.)
pub record SymbolsMeet : Type 0 where
  pub files : (files others : List File) (ids theirs : Packages) (number other : ℕ)
      → (shared : IsShared files others ids theirs number other)
      → text_of (package_of_file files ids number) (OfFile shared.here.path)
      ≡ text_of (package_of_path theirs shared.there.path) (OfFile shared.there.path)
  pub uses : (files others : List File) (ids theirs : Packages) (number other index source : ℕ) (facts : Facts)
      (declared : Declaration) (component : Component) (entity : Entity)
      → IsShared files others ids theirs number other → HasDeclaration files number index facts declared
      → NamesIn others theirs source component (link.Declared other index) entity
      → text_of (package_of_file files ids number) (declaration_in (home_of_file files ids number) facts declared)
      ≡ text_of (package_of_part others theirs (link.Declared other index)) entity
  pub entries : (files others : List File) (chosen : Chosen) (ids theirs : Packages) (number other index : ℕ)
      (facts : Facts) (declared : Declaration) (entry : SymbolInformation)
      → IsShared files others ids theirs number other → HasDeclaration files number index facts declared
      → IsKeptEntry others chosen theirs other index entry
      → text_of (package_of_file files ids number) (declaration_in (home_of_file files ids number) facts declared)
      ≡ entry.symbol
