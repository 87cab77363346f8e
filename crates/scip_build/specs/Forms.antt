-- An index in a form: what is kept of its documents. `Is document out` says that this is kept of a document.
use Rattle.std.specs.Prelude.{◌≡◌, ℕ, List, [], map, Result, MatchResult}
use Rattle.std.specs.List.{AllZip}
use Rattle.proto_decl.specs.Values.{Seen}
use Rattle.proto_visibility.specs.declared.files.FilePlace.{FilePlace}
use Rattle.proto_link.specs.declared.uncertain_use.UncertainUse.{UncertainUse}
use Rattle.proto_visibility.specs.Files.{File}
use Rattle.proto_visibility.specs.Linked.{HaveClearNames, CanBeLinked}
use Rattle.index_hooks.specs.declared.choice.Choice.{Choice}
use Rattle.scip_records.specs.declared.records.Document.{Document}
use Rattle.scip_records.specs.declared.records.Index.{Index}
use Rattle.scip_model.specs.Chosen.{Chosen}
use Rattle.scip_model.specs.declared.source_document.PlannedWithOptions.{PlannedWithOptions}
use Rattle.scip_model.specs.Packages.{RepeatedNames}
use Rattle.scip_model.specs.Repeated.{AreRepeated}
use Rattle.source_tree.specs.Files.{TreeFile}
use Rattle.scip_build.specs.Repeating.{repeating}
use Rattle.scip_build.specs.declared.settings.Settings.{Settings}
use Rattle.scip_build.specs.declared.faulty.Faulty.TheVariants.{Refuse}
use Rattle.scip_build.specs.declared.parts.Parts.{Parts}
use Rattle.scip_build.specs.declared.made.Made.{Made}
use Rattle.scip_build.specs.declared.made.MadeDocument.{MadeDocument}
use Rattle.scip_build.specs.declared.source_document.NoDocument.{NoDocument}
use Rattle.scip_build.specs.declared.omission.Omission.{Omission}
use Rattle.scip_build.specs.Files.{ReadFile}
use Rattle.scip_build.specs.Documents.{IsDocumentAt, MayRefuseSource, AreDocuments}
use Rattle.scip_build.specs.Linking.{linked_files, choices_of}
use Rattle.scip_build.specs.Made.{gaps_from, names_from, unresolved_from}
use Rattle.scip_build.specs.Making.{IsMade}
use Rattle.scip_build.specs.Builds.{IsBuiltOf, IsBuilt}

module _ {Out : Type 0} (Is : Document → Out → Type 0) where
  -- the parts are those of an index: its metadata, what is kept of each of its documents, in order, and its external
  -- entries
  pub record ArePartsOf (index : Index) (parts : Parts Out) : Type 0 where
    pub metadata : parts.metadata ≡ index.metadata
    pub documents : AllZip Is index.documents parts.documents
    pub external_symbols : parts.external_symbols ≡ index.external_symbols

  -- what the making of a source's document gives, of which this is kept
  pub record IsKeptAt (parsed : List ReadFile) (files : List File) (chosen : Chosen) (settings : Settings)
      (number : ℕ) (out : MadeDocument Out) : Type 0 where
    pub document : PlannedWithOptions
    pub made : IsDocumentAt parsed files chosen settings number document
    pub kept : Is document.planned.document out.kept
    pub unresolved_uses : out.unresolved ≡ document.planned.unresolved
    pub option_gaps : out.option_gaps ≡ document.option_gaps
    pub uncertain_names : out.uncertain_names ≡ document.uncertain_names

  abbrev pub GivesKept : List ReadFile → List File → Chosen → Settings → (number : ℕ)
      → Result (MadeDocument Out) NoDocument → Type 0
  GivesKept parsed files chosen settings number result =
      MatchResult result (IsKeptAt parsed files chosen settings number)
      (MayRefuseSource settings.faulty files number)

  -- what is kept of the documents of all sources, in order, all uses that name no type, and all gaps and uncertain
  -- names of options
  pub record AreMade (parsed : List ReadFile) (files : List File) (chosen : Chosen) (settings : Settings)
      (outs : List (MadeDocument Out)) : Type 0 where
    pub documents : List Document
    pub made : AreDocuments parsed files chosen settings documents (unresolved_from 0 outs) (gaps_from 0 outs)
        (names_from 0 outs)
    pub kept : AllZip Is documents (map (λ (out : MadeDocument Out). out.kept) outs)

  -- there is an index, as linked files make it, and these are its parts
  pub record IsMadeInForm (parsed : List ReadFile) (files : List File) (chosen : Chosen) (settings : Settings)
      (parts : Parts Out) (unresolved_uses option_gaps : List FilePlace) (uncertain_names : List UncertainUse)
      : Type 0 where
    pub index : Index
    pub made : IsMade parsed files chosen settings index unresolved_uses option_gaps uncertain_names
    pub are : ArePartsOf index parts

  -- it is made by the choices for the files that were read, and no option has a gap if such are refused
  pub record IsMadeOf (parsed : List ReadFile) (settings : Settings) (made : Made Out) : Type 0 where
    pub clear : HaveClearNames settings.duplicates (linked_files parsed)
    pub choices : made.choices ≡ map choices_of parsed
    pub repeated : RepeatedNames
    pub are_repeated : AreRepeated (linked_files parsed) repeated
    pub in_form : IsMadeInForm parsed (linked_files parsed) made.choices (repeating settings repeated) made.parts
        made.unresolved_uses made.option_gaps made.uncertain_names
    pub filled : settings.faulty ≡ Refuse → made.option_gaps ≡ []

  -- the files can be linked, too
  pub record IsLinkedAndMade (parsed : List ReadFile) (settings : Settings) (made : Made Out) : Type 0 where
    pub linked : CanBeLinked settings.duplicates (linked_files parsed)
    pub made_of : IsMadeOf parsed settings made

  -- there is an index of what is kept of files that were read, made by these choices, this is told of the rest, and
  -- these are its parts
  pub record IsBuiltOfInForm (all : List ReadFile) (settings : Settings) (choices : Chosen) (told : List Omission)
      (parts : Parts Out) : Type 0 where
    pub index : Index
    pub built : IsBuiltOf all settings (record { index = index; choices = choices; told = told })
    pub are : ArePartsOf index parts

  -- the same for a tree
  pub record IsBuiltInForm (allows : Seen → Choice → Type 0) (settings : Settings) (tree : List TreeFile)
      (choices : Chosen) (told : List Omission) (parts : Parts Out) : Type 0 where
    pub index : Index
    pub built : IsBuilt allows settings tree (record { index = index; choices = choices; told = told })
    pub are : ArePartsOf index parts

-- the index of parts of which the documents are kept as they are
abbrev pub index_of : Parts Document → Index
index_of parts = record {
  metadata = parts.metadata;
  documents = parts.documents;
  external_symbols = parts.external_symbols;
}
