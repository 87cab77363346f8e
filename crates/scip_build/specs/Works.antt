-- What is said of linked sources (`LinkedSources`), from which documents are made: of the files that were read, those
-- files as they are linked, what was chosen for their declarations, the settings, and how many sources there are. Each
-- word is another file's, of these parts.
use Rattle.std.specs.Prelude.{◌≡◌, ℕ, Option, None, Some, List, Result, MatchOption}
use Rattle.option_link.specs.Linked.{LinkedOptions}
use Rattle.option_link.specs.declared.facts.OptionFacts.{OptionFacts}
use Rattle.proto_visibility.specs.Files.{File, IsSource}
use Rattle.scip_records.specs.declared.records.Document.{Document}
use Rattle.scip_model.specs.Chosen.{HaveChoices}
use Rattle.scip_model.specs.Conditions.{HaveGoodPaths, HasText}
use Rattle.scip_model.specs.Options.{AllLinkOptions}
use Rattle.scip_model.specs.declared.source_document.PlannedWithOptions.{PlannedWithOptions}
use Rattle.proto_visibility.specs.declared.files.FilePlace.{FilePlace}
use Rattle.proto_link.specs.declared.uncertain_use.UncertainUse.{UncertainUse}
use Rattle.scip_build.specs.Documents.{AreReady, GivesDocument, HasReadText, IsRead, MayRefuseDocuments, SourceWork}
use Rattle.scip_build.specs.Documents.{asked_in}
use Rattle.scip_build.specs.Forms.{AreMade, IsMadeInForm}
use Rattle.scip_build.specs.Placing.{kept_at}
use Rattle.scip_build.specs.Repeating.{with_packages}
use Rattle.scip_build.specs.declared.fault.BuildFault.{BuildFault}
use Rattle.scip_build.specs.declared.linked_sources.LinkedSources.{LinkedSources}
use Rattle.scip_build.specs.declared.made.MadeDocument.{MadeDocument}
use Rattle.scip_build.specs.declared.parts.Parts.{Parts}
use Rattle.scip_build.specs.declared.source_document.NoDocument.{NoDocument}
use denote.Ref.{Bor}

-- the options of these files are lent, if names in options are linked: then those of all sources are
abbrev pub AreLent : (asked : Option (List OptionFacts)) → List File → Option (Bor LinkedOptions) → Type 0
AreLent asked files lent = MatchOption lent (asked ≡ None)
    (λ linked. (asked ≡ Some linked.now.known) × (linked.now.files ≡ files) × AllLinkOptions files)

module _ (sources : LinkedSources) where
  abbrev pub work_of : SourceWork
  work_of = record {
    parsed = sources.parsed.now;
    files = sources.package.now.files;
    chosen = sources.choices.now;
    settings = with_packages sources.settings.now sources.package.now.ids;
    count = sources.count;
  }

  -- ---- one source

  abbrev pub HasSource : (number : ℕ) → Type 0
  HasSource = IsSource sources.package.now.files

  abbrev pub HasReadSource : (number : ℕ) → Type 0
  HasReadSource = IsRead sources.parsed.now

  abbrev pub HasTextRead : (number : ℕ) → Type 0
  HasTextRead number =
      (text : List ℕ) → HasReadText sources.parsed.now number text → HasText sources.package.now.files number text

  -- the options are those of the linked files
  abbrev pub HasOptions : Type 0
  HasOptions =
      AreLent (asked_in sources.settings.now sources.parsed.now) sources.package.now.files sources.options

  abbrev pub GivesDocumentOf : (number : ℕ) → Result PlannedWithOptions NoDocument → Type 0
  GivesDocumentOf = GivesDocument sources.parsed.now sources.package.now.files sources.choices.now
      (with_packages sources.settings.now sources.package.now.ids)

  -- ---- all of them

  abbrev pub HasGoodPaths : Type 0
  HasGoodPaths = HaveGoodPaths sources.package.now.files

  abbrev pub HasChosen : Type 0
  HasChosen = HaveChoices sources.package.now.files sources.choices.now

  abbrev pub IsReady : Type 0
  IsReady = AreReady sources.parsed.now sources.package.now.files sources.choices.now sources.count

  abbrev pub MayRefuseAny : (workers : ℕ) → BuildFault → Type 0
  MayRefuseAny = MayRefuseDocuments sources.settings.now.faulty sources.package.now.files

  module _ {Out : Type 0} (Is : Document → Out → Type 0) where
    abbrev pub AreMadeFrom : List (MadeDocument Out) → Type 0
    AreMadeFrom =
        AreMade (kept_at sources.settings.now.at Is) sources.parsed.now sources.package.now.files sources.choices.now
        (with_packages sources.settings.now sources.package.now.ids)

    abbrev pub IsMadeFrom : Parts Out → List FilePlace → List FilePlace → List UncertainUse → Type 0
    IsMadeFrom =
        IsMadeInForm (kept_at sources.settings.now.at Is) sources.parsed.now sources.package.now.files
        sources.choices.now
        (with_packages sources.settings.now sources.package.now.ids)
