-- The headline: what holds of the bytes of a tree's index, and of queries over them.
use Rattle.std.specs.Prelude.{◌≡◌, ◌↔◌, ◌<◌, ◌≤◌, ℕ, ◌+◌, Bool, true, false, Option, Some}
use Rattle.std.specs.Prelude.{Result, Ok, Err, List, length, Contains}
use Rattle.std.specs.declared.cmp.Ordering.{Ordering}
use Rattle.std.specs.Ordering.{nat_cmp, on, then_cmp}
use Rattle.std.specs.List.{slice_get}
use Rattle.proto_lex.specs.declared.position.Encoding.{Encoding}
use Rattle.proto_lex.specs.declared.span.Span.{Span}
use Rattle.proto_decl.specs.Facts.{Facts}
use Rattle.proto_decl.specs.Values.{Seen}
use Rattle.proto_decl.specs.declared.declaration.Declaration.{Declaration}
use Rattle.proto_decl.specs.declared.uses.Component.{Component}
use Rattle.proto_decl.specs.declared.uses.Use.{Use}
use Rattle.proto_visibility.specs.declared.lookup.Entity.{Entity as Part}
use Rattle.proto_visibility.specs.Files.{File, HasFacts, IsSource}
use Rattle.proto_visibility.specs.Reaches.{IsReachable}
use Rattle.proto_options.specs.declared.names.OptionName.{OptionName}
use Rattle.proto_options.specs.declared.options.FileOption.{FileOption}
use Rattle.option_link.specs.declared.facts.OptionFacts.{OptionFacts}
use Rattle.option_link.specs.declared.place.DeclaredPlace.{DeclaredPlace}
use Rattle.option_link.specs.OptionNames.{NamesPlace}
use Rattle.index_hooks.specs.declared.choice.Choice.{Choice}
use Rattle.source_tree.specs.Files.{TreeFile}
use Rattle.source_tree.specs.Trees.{IsTree}
use Rattle.scip_symbol.specs.Entities.{Entity, OfFile}
use Rattle.scip_symbol.specs.Package.{Package}
use Rattle.scip_model.specs.Packages.{Packages, ArePackages, naming, package_of_file}
use Rattle.scip_model.specs.Chosen.{Chosen}
use Rattle.scip_model.specs.Conditions.{IsResolved}
use Rattle.scip_model.specs.Indexes.{HasDocumentWith, IsAscendingListOf}
use Rattle.scip_model.specs.Named.{HasDeclaration, NamesIn, text_of, package_at, declaration_in, home_of_file}
use Rattle.scip_model.specs.Occurs.{Occurs}
use Rattle.scip_model.specs.Occurs as rule
use Rattle.scip_model.specs.Options.{NamesInOption, OccursInOptions}
use Rattle.scip_model.specs.Options.OccursInOptions.{of_option}
use Rattle.scip_records.specs.declared.records.Index.{Index}
use Rattle.scip_records.specs.declared.records.Document.{Document}
use Rattle.scip_records.specs.declared.records.Occurrence.{Occurrence}
use Rattle.scip_build.specs.Builds.{IsBuilt}
use Rattle.scip_build.specs.Documents.{asked_in, texts_of}
use Rattle.scip_build.specs.Linking.{linked_files}
use Rattle.scip_build.specs.Placing.{document_at}
use Rattle.scip_build.specs.declared.built.Built.{Built}
use Rattle.scip_build.specs.declared.faulty.Faulty.TheVariants.{Skip}
use Rattle.scip_build.specs.declared.settings.Settings.{Settings}
use Rattle.scip_query.specs.OccurrenceAt.{occurrence_in}
use Rattle.scip_query.specs.References.{definitions_at, references_at, is_definition}
use Rattle.scip_query.specs.Sites.{Site, Numbered, document_named}
use Rattle.scip_wire.specs.Decodes.{Decodes}
use Rattle.protoscip.specs.declared.recorded.Recorded.{Recorded}
use Rattle.protoscip.specs.Indexes.{built_of, IsIndexed}

-- ---- what is named

-- The entities of linked files: each reachable file, its package with those above it, and what it declares.
pub data IsEntityOf (files : List File) (ids : Packages) : Entity → Type 0 where
  of_file : (number : ℕ) {file : File} → IsReachable files number → slice_get files number ≡ Some file
      → IsEntityOf files ids (OfFile file.path)
  of_package : (number : ℕ) {count : ℕ} {facts : Facts} → IsReachable files number → HasFacts files number facts
      → 0 < count → count ≤ length facts.package_name
      → IsEntityOf files ids (package_at facts count)
  of_declaration : (number : ℕ) {index : ℕ} {facts : Facts} {declared : Declaration} → IsReachable files number
      → HasDeclaration files number index facts declared
      → IsEntityOf files ids (declaration_in (home_of_file files ids number) facts declared)

-- the package of an entity: that of the file which it is, or which declares it, and of a proto package the run's
abbrev pub package_of_entity : (files : List File) (ids : Packages) {entity : Entity} → IsEntityOf files ids entity
    → Package
package_of_entity files ids (of_file number is_reachable numbered) = package_of_file files ids number
package_of_entity files ids (of_package number is_reachable has some few) = ids.run
package_of_entity files ids (of_declaration number is_reachable has) = package_of_file files ids number

-- the entity that an occurrence names: the one of the rule by which it occurs
abbrev pub entity_of : {files : List File} {chosen : Chosen} {ids : Packages} {encoding : Encoding} {source : ℕ}
    {text : List ℕ} {occurrence : Occurrence}
    → Occurs files chosen ids encoding source text occurrence → Entity
entity_of (rule.of_file {file = file} numbered) = OfFile file.path
entity_of (rule.of_import {imported = imported} has listed there) = OfFile imported.path
entity_of (rule.of_package {facts = facts} index has stands) = package_at facts (index + 1)
entity_of {files} {chosen} {ids} {encoding} {source}
    (rule.of_declaration {facts = facts} index {declared = declared} has kept) =
    declaration_in (home_of_file files ids source) facts declared
entity_of (rule.of_component {entity = entity} names shown) = entity

-- whether it defines that entity: the file itself does, and each component of its package's name and each declaration
abbrev pub defines : {files : List File} {chosen : Chosen} {ids : Packages} {encoding : Encoding} {source : ℕ}
    {text : List ℕ} {occurrence : Occurrence}
    → Occurs files chosen ids encoding source text occurrence → Bool
defines (rule.of_file numbered) = true
defines (rule.of_import has listed there) = false
defines (rule.of_package index has stands) = true
defines (rule.of_declaration index has kept) = true
defines (rule.of_component names shown) = false

-- the entity that an occurrence of options names: what the component names
abbrev pub entity_in_option : {files : List File} {known : List OptionFacts} {chosen : Chosen} {ids : Packages}
    {encoding : Encoding} {source : ℕ} {text : List ℕ} {occurrence : Occurrence}
    → OccursInOptions files known chosen ids encoding source text occurrence → Entity
entity_in_option (of_option {entity = entity} names shown) = entity

-- What an occurrence names, and whether it defines that: by a rule by which it occurs; or as a name in an option, if
-- such names are linked, which defines nothing.
pub data OccursAs (asked : Option (List OptionFacts)) (files : List File) (chosen : Chosen) (ids : Packages)
    (encoding : Encoding) (source : ℕ) (text : List ℕ) (occurrence : Occurrence)
    : Entity → (is_definition : Bool) → Type 0 where
  by_rule : (occurs : Occurs files chosen ids encoding source text occurrence)
      → OccursAs asked files chosen ids encoding source text occurrence (entity_of occurs) (defines occurs)
  in_option : {known : List OptionFacts} → asked ≡ Some known
      → (occurs : OccursInOptions files known chosen ids encoding source text occurrence)
      → OccursAs asked files chosen ids encoding source text occurrence (entity_in_option occurs) false

-- A component of a name in an option of a file with this text; the name names something.
pub record IsComponentInOption (files : List File) (known : List OptionFacts) (file : ℕ) (text : List ℕ)
    (span : Span) : Type 0 where
  pub beside : OptionFacts
  pub its : slice_get known file ≡ Some beside
  pub option : FileOption
  pub listed : Contains beside.options option
  pub number : ℕ
  pub name : OptionName
  pub at : DeclaredPlace
  pub names : NamesPlace files known file text option number name at
  pub component : Contains name.name.components span

-- ---- what is answered

-- A site of an index: its place has its document, and in that its occurrence.
pub record IsSite (index : Index) (site : Site) : Type 0 where
  pub document_is : slice_get index.documents site.place.document ≡ Some site.document
  pub occurrence_is : slice_get site.document.occurrences site.place.occurrence ≡ Some site.occurrence

-- by document, then by place in it
abbrev pub site_cmp : Site → Site → Ordering
site_cmp = then_cmp (on (λ (s : Site). s.place.document) nat_cmp) (on (λ (s : Site). s.place.occurrence) nat_cmp)

-- of what was built from a tree
module _ {allows : Seen → Choice → Type 0} {settings : Settings} {tree : List TreeFile} {result : Built}
    (built : IsBuilt allows settings tree result) where
  -- the files that it is of, linked
  abbrev pub linked : List File
  linked = linked_files built.of_files.parsed

  -- what is known of their options, if names in these are linked
  abbrev pub asked : Option (List OptionFacts)
  asked = asked_in settings built.of_files.parsed

  -- the packages of the symbols, with what is repeated among these files
  abbrev pub ids : Packages
  ids = naming settings.package built.of_files.repeated

  -- An occurrence of a document is one of an entity, and defines it or doesn't: the document is that of a source, where
  -- the settings place it, and it occurs there as one that does so.
  pub record IsOf (entity : Entity) (document : Document) (occurrence : Occurrence) : Type 0 where
    pub plain : Document
    pub of_source : HasDocumentWith asked linked
        (texts_of built.of_files.parsed) result.choices ids settings.encoding plain
    pub placed : document ≡ document_at settings.at plain
    pub defines_it : Bool
    pub occurs : OccursAs asked linked result.choices ids settings.encoding
        of_source.source
        of_source.text occurrence entity defines_it

  -- a site of the index is one of an entity
  abbrev pub IsSiteOf : Entity → Site → Type 0
  IsSiteOf entity site = IsSite result.index site × IsOf entity site.document site.occurrence

  -- a site that defines an entity, by the rule by which its occurrence occurs
  abbrev pub IsDefinitionOf : Entity → Site → Type 0
  IsDefinitionOf entity site = (of : IsSiteOf entity site) × (of.1.defines_it ≡ true)

  -- At a position of the document that a path names there is an occurrence of an entity.
  pub record IsAt (path : List ℕ) (line column : ℕ) (entity : Entity) : Type 0 where
    pub named : Numbered
    pub occurrence : Occurrence
    pub document_is : document_named result.index path ≡ Some named
    pub stands : occurrence_in named.document (record { line = line; column = column }) ≡ Some occurrence
    pub is : IsOf entity named.document occurrence

  -- What is answered about a position: just the sites that are wanted of the entity there, each once, in the index's
  -- order; it is refused only if there is none.
  abbrev pub Answers : (IsWanted : Entity → Site → Type 0) → (path : List ℕ) → (line column : ℕ) → {E : Type 0}
      → Result (List Site) E → Type 0
  Answers IsWanted path line column (Ok sites) =
      (entity : Entity) × IsAt path line column entity × IsAscendingListOf site_cmp (IsWanted entity) sites
  Answers IsWanted path line column (Err miss) = (entity : Entity) → IsAt path line column entity → ⊥

  -- Each component of a use in a source names an entity, so that it occurs unless what it names isn't kept; if names in
  -- options are linked, so does each component of one that names something. Each site is one of
  -- an entity of the files, and of no other; entities and symbols are one to one, and a declaration's entity is its
  -- own; a site has the definition's role if and only if it defines its entity; and a query answers the occurrences of
  -- the entity asked, or its definitions among them, all of them and nothing else.
  pub record AnswersNames : Type 0 where
    pub used : (source : ℕ) (facts : Facts) (type_use : Use) (component : Component)
        → IsSource linked source
        → HasFacts linked source facts
        → Contains facts.uses type_use → Contains type_use.components component
        → (settings.faulty ≡ Skip → IsResolved linked source type_use)
        → (part : Part) × (entity : Entity)
        × NamesIn linked ids source component part entity
    pub in_options : (known : List OptionFacts) (file : ℕ) (text : List ℕ) (span : Span) → asked ≡ Some known
        → IsComponentInOption linked known file text span
        → (part : Part) × (entity : Entity)
        × NamesInOption linked known ids file text span part entity
    pub each : (site : Site) → IsSite result.index site
        → (entity : Entity) × IsEntityOf linked ids entity × IsSiteOf entity site
        × ((other : Entity) → IsSiteOf other site → other ≡ entity)
    pub symbol : (entity : Entity) (site : Site) (is : IsEntityOf linked ids entity)
        → IsSiteOf entity site
        → site.occurrence.symbol ≡ text_of (package_of_entity linked ids is) entity
    pub one_to_one : (entity other : Entity) (is : IsEntityOf linked ids entity)
        (its : IsEntityOf linked ids other)
        → (text_of (package_of_entity linked ids is) entity
        ≡ text_of (package_of_entity linked ids its) other)
        ↔ (entity ≡ other)
    pub own : (number index other its : ℕ) (facts more : Facts) (a b : Declaration)
        → IsReachable linked number → IsReachable linked other
        → HasDeclaration linked number index facts a
        → HasDeclaration linked other its more b
        → declaration_in (home_of_file linked ids number) facts a
        ≡ declaration_in (home_of_file linked ids other) more b
        → (number ≡ other) × (index ≡ its)
    pub role : (entity : Entity) (site : Site) → (of : IsSiteOf entity site)
        → is_definition site.occurrence ≡ of.1.defines_it
    pub references : (path : List ℕ) (line column : ℕ)
        → Answers IsSiteOf path line column (references_at result.index path (record { line = line; column = column }))
    pub definitions : (path : List ℕ) (line column : ℕ)
        → Answers IsDefinitionOf path line column
        (definitions_at result.index path (record { line = line; column = column }))

-- ---- the headline

-- The bytes decode to one index only: the one that the grammar of the settings' dialect, the scoping rules, the
-- recorded choices, which are allowed, and the other settings give the tree, with its documents at the paths of their
-- sources, or at those below the settings' folder. And each query about references or definitions over it answers
-- exactly the occurrences of the name asked.
pub record Navigates (allows : Seen → Choice → Type 0) (settings : Settings) (tree : List TreeFile)
    (recorded : Recorded)
    (bytes : List ℕ) (index : Index) : Type 0 where
  pub decodes : Decodes bytes index
  pub alone : (other : Index) → Decodes bytes other → other ≡ index
  pub built : IsBuilt allows settings tree (built_of index recorded)
  pub names : AnswersNames built

-- This holds of all that is made of a tree by settings,
abbrev pub HeadlineOfTree : (allows : Seen → Choice → Type 0) → Settings → List TreeFile → Type 0
HeadlineOfTree allows settings tree =
    (recorded : Recorded) (bytes : List ℕ) → (indexed : IsIndexed allows settings tree recorded bytes)
    → Navigates allows settings tree recorded bytes indexed.index

-- for every tree, and all settings whose packages' parts are good: of all that `index_tree` writes, and of all that a
-- session answers from.
abbrev pub Headline : (allows : Seen → Choice → Type 0) → Type 0
Headline allows = (settings : Settings) (tree : List TreeFile) → IsTree tree → ArePackages settings.package
    → HeadlineOfTree allows settings tree

-- An index of the tree by these choices navigates it, and `goes` says what becomes of its bytes and of it.
abbrev pub IsNavigable : (goes : (bytes : List ℕ) → Index → Type 0) → (allows : Seen → Choice → Type 0) → Settings
    → List TreeFile → Recorded → Type 0
IsNavigable goes allows settings tree recorded =
    (bytes : List ℕ) × (index : Index) × Navigates allows settings tree recorded bytes index × goes bytes index
