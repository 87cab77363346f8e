-- The index of a tree: a document for each source, in order of path, and the external entries (`scip.proto`, Index,
-- Document, Metadata).
use Rattle.std.specs.Prelude.{◌≡◌, ◌↔◌, ℕ, ℤ, pos, false, Option, None, Some, List, [], codes, length, Contains}
use Rattle.std.specs.declared.cmp.Ordering.{Ordering}
use Rattle.std.specs.Ordering.{nat_cmp, on}
use Rattle.std.specs.Cmp.Lexicographic.{slice_cmp}
use Rattle.std.specs.List.{slice_get}
use Rattle.std.specs.List.Sorted.{IsStrictlySortedBy}
use Rattle.proto_lex.specs.declared.position.Encoding.{Encoding}
use Rattle.proto_lex.specs.declared.position.Encoding.TheVariants.{Utf8, Utf16}
use Rattle.scip_records.specs.declared.records.Index.{Index}
use Rattle.scip_records.specs.declared.records.Metadata.{Metadata}
use Rattle.scip_records.specs.declared.records.Document.{Document}
use Rattle.scip_records.specs.declared.records.SymbolInformation.{SymbolInformation}
use Rattle.proto_visibility.specs.Files.{File, IsSource}
use Rattle.scip_model.specs.Packages.{Packages}
use Rattle.scip_model.specs.Chosen.{Chosen}
use Rattle.scip_model.specs.Occurs.{Occurs}
use Rattle.scip_model.specs.Options.{OccursWith, HasExternalWith}
use Rattle.option_link.specs.declared.facts.OptionFacts.{OptionFacts}
use Rattle.scip_records.specs.declared.records.Occurrence.{Occurrence}
use Rattle.scip_model.specs.OccurrenceOrder.{occurrence_cmp}
use Rattle.scip_model.specs.Entries.{HasEntry, HasExternal}

-- The strictly ascending list of a set: it has all of it, and nothing else.
pub record IsAscendingListOf {X : Type 0} (cmp : X → X → Ordering) (IsWanted : X → Type 0)
    (list : List X) : Type 0 where
  pub exact : (x : X) → Contains list x ↔ IsWanted x
  pub ascends : IsStrictlySortedBy cmp list

-- by symbol
abbrev pub info_cmp : SymbolInformation → SymbolInformation → Ordering
info_cmp = on (λ (i : SymbolInformation). i.symbol) (slice_cmp nat_cmp)

-- (`scip.proto`, PositionEncoding)
abbrev pub encoding_number : Encoding → ℤ
encoding_number Utf8 = pos 1
encoding_number Utf16 = pos 2

-- the document of a source, in which this occurs (`scip.proto`, Document; the word for the language is the profile's)
pub record IsDocumentWhere (IsOccurrence : Occurrence → Type 0) (files : List File) (chosen : Chosen) (ids : Packages)
    (encoding : Encoding) (source : ℕ) (document : Document) : Type 0 where
  pub file : File
  pub numbered : slice_get files source ≡ Some file
  pub is_source : file.is_included ≡ false
  pub present : file.is_left_out ≡ false
  pub relative_path : document.relative_path ≡ file.path
  pub occurrences : IsAscendingListOf occurrence_cmp IsOccurrence document.occurrences
  pub symbols : IsAscendingListOf info_cmp (HasEntry files chosen ids source) document.symbols
  pub language : document.language ≡ codes "Protobuf"
  pub position_encoding : document.position_encoding ≡ encoding_number encoding

-- of a source that has this text
abbrev pub IsDocumentOf : List File → Chosen → Packages → Encoding → (source : ℕ) → (text : List ℕ) → Document → Type 0
IsDocumentOf files chosen ids encoding source text =
    IsDocumentWhere (Occurs files chosen ids encoding source text) files chosen ids encoding source

-- the same with what its options name, if it is asked for
abbrev pub IsDocumentWith : (asked : Option (List OptionFacts)) → List File → Chosen → Packages → Encoding
    → (source : ℕ) → (text : List ℕ) → Document → Type 0
IsDocumentWith asked files chosen ids encoding source text =
    IsDocumentWhere (OccursWith asked files chosen ids encoding source text) files chosen ids encoding source

-- the external entries
abbrev pub AreExternals : List File → Chosen → Packages → List SymbolInformation → Type 0
AreExternals files chosen ids = IsAscendingListOf info_cmp (HasExternal files chosen ids)

-- the same with those that options of sources name, if it is asked for; each file has the text with its number
abbrev pub AreExternalsWith : (asked : Option (List OptionFacts)) → List File → (texts : List (List ℕ)) → Chosen
    → Packages → List SymbolInformation → Type 0
AreExternalsWith asked files texts chosen ids =
    IsAscendingListOf info_cmp (HasExternalWith asked files texts chosen ids)

-- What an index says about itself (`scip.proto`, Metadata, ProtocolVersion, TextEncoding): the protocol's version 0;
-- the sources are UTF-8.
abbrev pub metadata_of : (project_root : List ℕ) → Metadata
metadata_of project_root = record {
  version = pos 0;
  tool_info = Some (record { name = codes "protoscip"; version = codes "1"; arguments = [] });
  project_root = project_root;
  text_document_encoding = pos 1;
}

-- by path
abbrev pub document_cmp : Document → Document → Ordering
document_cmp = on (λ (d : Document). d.relative_path) (slice_cmp nat_cmp)

-- the document of one of the sources, of which each has one of the texts, with what its options name if it is asked for
pub record HasDocumentWith (asked : Option (List OptionFacts)) (files : List File) (texts : List (List ℕ))
    (chosen : Chosen) (ids : Packages) (encoding : Encoding) (document : Document) : Type 0 where
  pub source : ℕ
  pub text : List ℕ
  pub text_is : slice_get texts source ≡ Some text
  pub is : IsDocumentWith asked files chosen ids encoding source text document

-- each source has one among these
abbrev pub HaveDocumentsWith : (asked : Option (List OptionFacts)) → List File → (texts : List (List ℕ)) → Chosen
    → Packages → Encoding → List Document → Type 0
HaveDocumentsWith asked files texts chosen ids encoding documents =
    (source : ℕ) → IsSource files source
    → (document : Document) × Contains documents document
    × (has : HasDocumentWith asked files texts chosen ids encoding document) × (has.source ≡ source)

-- The index of the files, which have these texts: just the documents of its sources, and one of each.
pub record IsIndexWith (asked : Option (List OptionFacts)) (files : List File) (texts : List (List ℕ))
    (chosen : Chosen) (ids : Packages) (encoding : Encoding) (project_root : List ℕ) (index : Index) : Type 0 where
  pub metadata_is : index.metadata ≡ Some (metadata_of project_root)
  pub one_text_each : length texts ≡ length files
  pub documents : IsAscendingListOf document_cmp (HasDocumentWith asked files texts chosen ids encoding)
      index.documents
  pub each : HaveDocumentsWith asked files texts chosen ids encoding index.documents
  pub externals : AreExternalsWith asked files texts chosen ids index.external_symbols

-- ---- the same where nobody asks for options

abbrev pub HasDocument : List File → (texts : List (List ℕ)) → Chosen → Packages → Encoding → Document → Type 0
HasDocument = HasDocumentWith None

abbrev pub HaveDocuments : List File → (texts : List (List ℕ)) → Chosen → Packages → Encoding → List Document → Type 0
HaveDocuments = HaveDocumentsWith None

abbrev pub IsIndexOf : List File → (texts : List (List ℕ)) → Chosen → Packages → Encoding → (project_root : List ℕ)
    → Index → Type 0
IsIndexOf = IsIndexWith None
