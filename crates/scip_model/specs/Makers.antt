-- What is said of what the document of a source is made from (`DocumentMaker`): its files, what was chosen for their
-- declarations, the packages of their symbols, the encoding, the source's number and its text. Each word is another
-- file's, of these parts.
use Rattle.std.specs.Prelude.{ℕ, List, Option, Some, ◌≡◌, ◌<◌, length}
use Rattle.std.specs.List.{slice_get}
use Rattle.std.specs.Option.{option_map}
use Rattle.proto_lex.specs.Lexed.{IsPart}
use Rattle.proto_lex.specs.declared.span.Span.{Span}
use Rattle.proto_decl.specs.Facts.{Facts}
use Rattle.proto_decl.specs.Laws.{IsWhole}
use Rattle.proto_decl.specs.declared.declaration.Declaration.{Declaration}
use Rattle.proto_decl.specs.declared.imports.Imported.{Imported}
use Rattle.proto_decl.specs.declared.uses.Component.{Component}
use Rattle.proto_decl.specs.declared.uses.Use.{Use}
use Rattle.proto_link.specs.declared.target.Target.{Target}
use Rattle.proto_visibility.specs.Files.{HasFacts, HasPathAt, IsSource}
use Rattle.proto_visibility.specs.Reaches.{LinksOptions}
use Rattle.proto_visibility.specs.declared.lookup.Entity.{Entity}
use Rattle.proto_visibility.specs.declared.fault.LinkFault.{LinkFault}
use Rattle.scip_records.specs.declared.records.Document.{Document}
use Rattle.scip_records.specs.declared.records.Occurrence.{Occurrence}
use Rattle.scip_records.specs.declared.records.SymbolInformation.{SymbolInformation}
use Rattle.scip_symbol.specs.Entities as symbols
use Rattle.scip_symbol.specs.Package.{Package}
use Rattle.index_hooks.specs.declared.choice.Choice.{Choice}
use Rattle.scip_model.specs.Chosen.{HasChoice, HaveChoices}
use Rattle.scip_model.specs.Conditions.{HaveGoodPaths, AreUnresolvedUses, IsFound}
use Rattle.scip_model.specs.Entries.{HasEntry}
use Rattle.scip_model.specs.Indexes.{IsDocumentOf, IsDocumentWith}
use Rattle.scip_model.specs.Options.{AreOptionGapsIf, AreUncertainNamesIf, IsOptionGap, IsUncertainIn, OccursWith}
use Rattle.scip_model.specs.declared.option_told.UncertainPlace.{UncertainPlace}
use Rattle.scip_model.specs.Tables.OptionListing.{OccursByOption, OccursByTarget, OccursInOptionsIf}
use Rattle.option_link.specs.OptionNames.{IsOptionTarget}
use Rattle.option_link.specs.declared.place.DeclaredPlace.{DeclaredPlace}
use Rattle.option_link.specs.declared.target.OptionTarget.{OptionTarget}
use Rattle.proto_options.specs.declared.options.FileOption.{FileOption}
use Rattle.option_link.specs.Linked.{LinkedOptions}
use Rattle.option_link.specs.declared.facts.OptionFacts.{OptionFacts}
use Rattle.scip_model.specs.Named.{HasDeclaration, Home, home_of_file, text_of}
use Rattle.scip_model.specs.Occurs.{Occurs}
use Rattle.scip_model.specs.Packages.{package_of_file, package_of_part}
use Rattle.scip_model.specs.Conditions.{AreOfText, HasText, MayRefuseDocument, UsesResolve}
use Rattle.scip_model.specs.Tables.Listing.{entity_of, declared_by, IsNameable, AreNameable}
use Rattle.scip_model.specs.Tables.Listing.{at_import, at_declaration, at_entity, at_part, at_component, at_target}
use Rattle.scip_model.specs.Tables.Listing.{at_use}
use Rattle.scip_model.specs.Tables.EntryLists.{choices_for}
use Rattle.scip_model.specs.Tables.Plans.{Around, HasOwnTexts, around_in, arounds_in, own_texts}
use Rattle.scip_model.specs.declared.document_maker.DocumentMaker.{DocumentMaker}

module _ (maker : DocumentMaker) where
  -- ---- its source

  abbrev pub IsOfSource : Type 0
  IsOfSource = IsSource maker.package.now.files maker.source

  abbrev pub IsOfFile : Type 0
  IsOfFile = maker.source < length maker.package.now.files

  abbrev pub HasSourcePath : (path : List ℕ) → Type 0
  HasSourcePath path = HasPathAt maker.package.now.files path maker.source

  abbrev pub HasSourceFacts : Facts → Type 0
  HasSourceFacts = HasFacts maker.package.now.files maker.source

  abbrev pub HasSourceText : Type 0
  HasSourceText = HasText maker.package.now.files maker.source maker.text.now

  abbrev pub HasTextFor : Facts → Type 0
  HasTextFor = AreOfText maker.text.now

  abbrev pub HasPart : Span → Type 0
  HasPart = IsPart maker.text.now

  abbrev pub HasWhole : Span → Type 0
  HasWhole = IsWhole maker.text.now

  -- ---- its files, and what was chosen for their declarations

  abbrev pub HasGoodPaths : Type 0
  HasGoodPaths = HaveGoodPaths maker.package.now.files

  abbrev pub HasChosen : Type 0
  HasChosen = HaveChoices maker.package.now.files maker.choices.now

  abbrev pub HasChosenFor : (index : ℕ) → Type 0
  HasChosenFor = HasChoice maker.choices.now maker.source

  abbrev pub choices_of : List Choice
  choices_of = choices_for maker.choices.now maker.source

  -- ---- what its uses name

  abbrev pub Finds : Use → Option Target → Type 0
  Finds = IsFound maker.package.now.files maker.source

  abbrev pub CanName : (name : List ℕ) → Entity → Type 0
  CanName = IsNameable maker.package.now.files

  abbrev pub CanNameParts : Target → Type 0
  CanNameParts = AreNameable maker.package.now.files

  abbrev pub HasDeclared : (file index : ℕ) → Type 0
  HasDeclared file index =
      (facts : Facts) × (declared : Declaration) × HasDeclaration maker.package.now.files file index facts declared

  abbrev pub entity_named : (name : List ℕ) → Entity → Option symbols.Entity
  entity_named = entity_of maker.package.now.files maker.package.now.ids

  abbrev pub part_package : Entity → Package
  part_package = package_of_part maker.package.now.files maker.package.now.ids

  -- the text of the symbol of a declaration, and of what a part of a full name names
  abbrev pub declared_symbol : (file index : ℕ) → Option (List ℕ)
  declared_symbol file index =
      option_map (text_of (package_of_file maker.package.now.files maker.package.now.ids file))
      (declared_by maker.package.now.files maker.package.now.ids file index)

  abbrev pub part_symbol : (name : List ℕ) → Entity → Option (List ℕ)
  part_symbol name part = option_map (text_of (part_package part)) (entity_named name part)

  -- ---- the texts of the symbols of what the source has itself

  -- where its declarations belong
  abbrev pub source_home : Home
  source_home = home_of_file maker.package.now.files maker.package.now.ids maker.source

  abbrev pub source_texts : Facts → List (List ℕ)
  source_texts = own_texts source_home maker.package.now.ids.run

  -- the symbols of what its declarations are in, and the ranges over these
  abbrev pub source_arounds : Facts → List (List ℕ)
  source_arounds = arounds_in source_home

  abbrev pub around_its : Facts → Around
  around_its = around_in maker.encoding maker.text.now

  abbrev pub HasSourceTexts : (texts : List (List ℕ)) → Type 0
  HasSourceTexts = HasOwnTexts maker.package.now.files maker.package.now.ids maker.source

  -- ---- what occurs

  abbrev pub at_its_import : ℕ → Imported → List Occurrence
  at_its_import = at_import maker.package.now.ids maker.encoding maker.text.now maker.package.now.files

  abbrev pub at_its_declaration : Facts → ℕ → Declaration → List Occurrence
  at_its_declaration = at_declaration source_home maker.encoding maker.text.now maker.choices.now maker.source

  abbrev pub at_its_entity : (name : List ℕ) → Span → Entity → List Occurrence
  at_its_entity name span part =
      at_entity (part_package part) maker.encoding maker.text.now span (entity_named name part)

  abbrev pub at_its_part : (name : List ℕ) → Span → Option Entity → List Occurrence
  at_its_part = at_part maker.package.now.ids maker.encoding maker.text.now maker.package.now.files maker.choices.now

  abbrev pub at_its_component : Target → ℕ → Component → List Occurrence
  at_its_component =
      at_component maker.package.now.ids maker.encoding maker.text.now maker.package.now.files maker.choices.now

  abbrev pub at_its_target : Option Target → Use → List Occurrence
  at_its_target =
      at_target maker.package.now.ids maker.encoding maker.text.now maker.package.now.files maker.choices.now

  abbrev pub at_its_use : List (Option Target) → ℕ → Use → List Occurrence
  at_its_use = at_use maker.package.now.ids maker.encoding maker.text.now maker.package.now.files maker.choices.now

  abbrev pub OccursIn : Occurrence → Type 0
  OccursIn =
      Occurs maker.package.now.files maker.choices.now maker.package.now.ids maker.encoding maker.source maker.text.now

  -- ---- its document

  abbrev pub IsItsEntry : SymbolInformation → Type 0
  IsItsEntry = HasEntry maker.package.now.files maker.choices.now maker.package.now.ids maker.source

  abbrev pub IsItsDocument : Document → Type 0
  IsItsDocument =
      IsDocumentOf maker.package.now.files maker.choices.now maker.package.now.ids maker.encoding maker.source
      maker.text.now

  abbrev pub AreItsGaps : List Span → Type 0
  AreItsGaps = AreUnresolvedUses maker.package.now.files maker.source

  abbrev pub IsItsDocumentWith : (asked : Option (List OptionFacts)) → Document → Type 0
  IsItsDocumentWith asked =
      IsDocumentWith asked maker.package.now.files maker.choices.now maker.package.now.ids maker.encoding maker.source
      maker.text.now

  abbrev pub OccursWithIn : (asked : Option (List OptionFacts)) → Occurrence → Type 0
  OccursWithIn asked =
      OccursWith asked maker.package.now.files maker.choices.now maker.package.now.ids maker.encoding maker.source
      maker.text.now

  -- ---- its options, if names in them are linked

  -- of the same files, of which those of the source are linked
  abbrev pub HasOptions : LinkedOptions → Type 0
  HasOptions options = (options.files ≡ maker.package.now.files) × LinksOptions maker.package.now.files maker.source

  abbrev pub IsItsOptionTarget : (known : List OptionFacts) → FileOption → OptionTarget → Type 0
  IsItsOptionTarget known = IsOptionTarget maker.package.now.files known maker.source maker.text.now

  -- a declaration at a place; and these parts of its full name have symbols
  abbrev pub IsDeclaredAt : DeclaredPlace → Facts → Declaration → Type 0
  IsDeclaredAt place = HasDeclaration maker.package.now.files place.file place.index

  abbrev pub CanNameAt : DeclaredPlace → List Entity → Type 0
  CanNameAt place parts = (facts : Facts) (declared : Declaration) → IsDeclaredAt place facts declared
      → (index : ℕ) (part : Entity) → slice_get parts index ≡ Some part → CanName declared.full_name part

  -- over the components of a name with these parts
  abbrev pub at_its_name : (full_name : List ℕ) → List Entity → ℕ → Span → List Occurrence
  at_its_name full_name parts index span = at_its_part full_name span (slice_get parts index)

  abbrev pub OccursByItsTarget : (known : List OptionFacts) → FileOption → OptionTarget → Occurrence → Type 0
  OccursByItsTarget known =
      OccursByTarget maker.package.now.files known maker.choices.now maker.package.now.ids maker.encoding maker.source
      maker.text.now

  abbrev pub OccursByItsOption : (known : List OptionFacts) → FileOption → Occurrence → Type 0
  OccursByItsOption known =
      OccursByOption maker.package.now.files known maker.choices.now maker.package.now.ids maker.encoding maker.source
      maker.text.now

  abbrev pub OccursInItsOptions : (asked : Option (List OptionFacts)) → Occurrence → Type 0
  OccursInItsOptions asked =
      OccursInOptionsIf asked maker.package.now.files maker.choices.now maker.package.now.ids maker.encoding
      maker.source maker.text.now

  abbrev pub IsItsOptionGap : (known : List OptionFacts) → FileOption → Span → Type 0
  IsItsOptionGap known = IsOptionGap maker.package.now.files known maker.source maker.text.now

  abbrev pub AreItsOptionGaps : (asked : Option (List OptionFacts)) → List Span → Type 0
  AreItsOptionGaps asked = AreOptionGapsIf asked maker.package.now.files maker.source maker.text.now

  abbrev pub IsItsUncertainName : (known : List OptionFacts) → FileOption → UncertainPlace → Type 0
  IsItsUncertainName known = IsUncertainIn maker.package.now.files known maker.source maker.text.now

  abbrev pub AreItsUncertainNames : (asked : Option (List OptionFacts)) → List UncertainPlace → Type 0
  AreItsUncertainNames asked = AreUncertainNamesIf asked maker.package.now.files maker.source maker.text.now

  abbrev pub HasResolvedUses : Type 0
  HasResolvedUses = UsesResolve maker.package.now.files maker.source

  abbrev pub MayRefuseIts : LinkFault → Type 0
  MayRefuseIts = MayRefuseDocument maker.package.now.files maker.source
