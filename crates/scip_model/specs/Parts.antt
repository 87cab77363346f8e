-- The documents and the external entries of a part of files, and those of the whole.
use Rattle.std.specs.Prelude.{◌≡◌, ◌⊎◌, ◌<◌, ⊤, ℕ, Option, None, Some, List, length}
use Rattle.std.specs.List.{slice_get}
use Rattle.proto_lex.specs.declared.position.Encoding.{Encoding}
use Rattle.proto_visibility.specs.Files.{File, HaveOwnPaths, IsPresent, IsSource}
use Rattle.proto_visibility.specs.Parts.{HasAllReached, IsPart}
use Rattle.option_link.specs.declared.facts.OptionFacts.{OptionFacts}
use Rattle.option_link.specs.Parts.{AreKnownAlike}
use Rattle.scip_records.specs.declared.records.Document.{Document}
use Rattle.scip_records.specs.declared.records.SymbolInformation.{SymbolInformation}
use Rattle.scip_model.specs.Packages.{Packages}
use Rattle.scip_model.specs.Chosen.{Chosen}
use Rattle.scip_model.specs.Named.{home_of_file}
use Rattle.scip_model.specs.Entries.{HasEntry}
use Rattle.scip_model.specs.Options.{AllLinkOptions, HasExternalWith}
use Rattle.scip_model.specs.Indexes.{IsDocumentWith}

-- Packages are named alike: the run's is one, and each file of the part has the home that it has in the whole.
pub record AreNamedAlike (part whole : List File) (at : ℕ → ℕ) (ids theirs : Packages) : Type 0 where
  pub run : ids.run ≡ theirs.run
  pub homes : (number : ℕ) (file : File) → slice_get part number ≡ Some file
      → home_of_file part ids number ≡ home_of_file whole theirs (at number)

-- of each file of the part the same is chosen as in the whole
abbrev pub AreChosenAlike : (part : List File) → (at : ℕ → ℕ) → (chosen theirs : Chosen) → Type 0
AreChosenAlike part at chosen theirs = (number : ℕ) (file : File) → slice_get part number ≡ Some file
    → slice_get chosen number ≡ slice_get theirs (at number)

-- names in options are linked in both or in neither, of all sources, and the same is known beside the facts of each
-- file
abbrev pub AreAskedAlike : (part : List File) → (at : ℕ → ℕ) → (asked theirs : Option (List OptionFacts)) → Type 0
AreAskedAlike part at None None = ⊤
AreAskedAlike part at None (Some theirs) = ⊥
AreAskedAlike part at (Some known) None = ⊥
AreAskedAlike part at (Some known) (Some theirs) = AllLinkOptions part × AreKnownAlike part at known theirs

-- What an index is made of: its files, their texts, what is chosen of them, their packages, and what is known beside
-- their facts if names in options are linked.
pub record Indexed : Type 0 where
  pub files : List File
  pub texts : List (List ℕ)
  pub chosen : Chosen
  pub ids : Packages
  pub asked : Option (List OptionFacts)

-- Each file of the one is such a file of the other, with the same text, choices and home, and none is left out.
pub record IsPartOf (part whole : Indexed) (at : ℕ → ℕ) : Type 0 where
  pub own_paths : HaveOwnPaths part.files
  pub present : (number : ℕ) → number < length part.files → IsPresent part.files number
  pub files : IsPart part.files whole.files at
  pub texts : (number : ℕ) (file : File) → slice_get part.files number ≡ Some file
      → slice_get part.texts number ≡ slice_get whole.texts (at number)
  pub chosen : AreChosenAlike part.files at part.chosen whole.chosen
  pub named : AreNamedAlike part.files whole.files at part.ids whole.ids
  pub asked : AreAskedAlike part.files at part.asked whole.asked

-- Such a part, with all files of the whole that its sources reach there.
pub record IsWholePart (part whole : Indexed) (at : ℕ → ℕ) : Type 0 where
  pub of_whole : IsPartOf part whole at
  pub reached : HasAllReached part.files whole.files at

abbrev pub IsDocumentIn : Indexed → Encoding → (source : ℕ) → (text : List ℕ) → Document → Type 0
IsDocumentIn all encoding = IsDocumentWith all.asked all.files all.chosen all.ids encoding

abbrev pub IsExternalIn : Indexed → SymbolInformation → Type 0
IsExternalIn all = HasExternalWith all.asked all.files all.texts all.chosen all.ids

-- a source has the entry in its document
abbrev pub IsDefinedIn : Indexed → SymbolInformation → Type 0
IsDefinedIn all entry = (source : ℕ) × IsSource all.files source × HasEntry all.files all.chosen all.ids source entry

-- An external entry comes of a source of the whole: each part that has the source has the entry.
pub record ComesOfSource (whole : Indexed) (entry : SymbolInformation) : Type 0 where
  pub source : ℕ
  pub is_source : IsSource whole.files source
  pub each : (part : Indexed) (at : ℕ → ℕ) → IsWholePart part whole at → (own : ℕ) → IsSource part.files own
      → at own ≡ source → IsExternalIn part entry

-- The laws of such a part.
pub record PartsDocumentAlike : Type 0 where
  -- the document of a source is its document in the whole
  pub documents : (part whole : Indexed) (at : ℕ → ℕ) → IsWholePart part whole at → (encoding : Encoding) (source : ℕ)
      (text : List ℕ) (document : Document) → IsDocumentIn part encoding source text document
      → IsDocumentIn whole encoding (at source) text document
  -- an external entry is one of the whole, or a document of the whole has it
  pub own : (part whole : Indexed) (at : ℕ → ℕ) → IsWholePart part whole at → (entry : SymbolInformation)
      → IsExternalIn part entry → IsExternalIn whole entry ⊎ IsDefinedIn whole entry
  -- and each external entry of the whole comes of a source
  pub each : (whole : Indexed) (entry : SymbolInformation) → IsExternalIn whole entry → ComesOfSource whole entry
