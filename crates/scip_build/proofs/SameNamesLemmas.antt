-- What is made of files by their packages is the same by two lists of what is repeated that have the same names.
use Rattle.std.proofs.Common.{◌≡◌, ◌∙◌, inl, inr, ap, sym, refl, subst, cond, ℕ, Bool, true, false, List, [], ◌∷◌}
use Rattle.std.proofs.Common.{Option, Some, None, ◌||◌}
use Rattle.std.specs.declared.cmp.Ordering.{Ordering}
use Rattle.std.specs.List.{Contains, list_any, slice_get}
use Rattle.std.specs.Str.{bytes_eq}
use Rattle.std.proofs.lemmas.Bool.{false≢true}
use Rattle.std.proofs.lemmas.List.Elements.{Contains-append_cases}
use Rattle.std.proofs.lemmas.Map.Views.{Contains-from_any}
use Rattle.std.proofs.lemmas.Slice.Eq.{bytes_eq-Decides}
use Rattle.basics.proofs.ListLemmas.{in_nothing, only}
use Rattle.proto_lex.specs.declared.position.Encoding.{Encoding}
use Rattle.proto_decl.specs.Facts.{Facts}
use Rattle.proto_decl.specs.Laws.{component_names}
use Rattle.proto_decl.specs.declared.declaration.Declaration.{Declaration}
use Rattle.proto_decl.specs.declared.detail.Detail.{Detail}
use Rattle.proto_decl.specs.declared.uses.Component.{Component}
use Rattle.proto_visibility.specs.declared.lookup.Entity.{Entity}
use Rattle.proto_visibility.specs.declared.lookup.Entity.TheVariants as link
use Rattle.proto_visibility.specs.Files.{File}
use Rattle.scip_symbol.specs.Entities.{OfFile, OfDeclaration}
use Rattle.scip_symbol.specs.Entities as symbols
use Rattle.scip_records.specs.declared.records.Document.{Document}
use Rattle.scip_records.specs.declared.records.Index.{Index}
use Rattle.scip_records.specs.declared.records.Occurrence.{Occurrence}
use Rattle.scip_records.specs.declared.records.SymbolInformation.{SymbolInformation}
use Rattle.scip_model.specs.Chosen.{Chosen}
use Rattle.scip_model.specs.Packages.{Packages, RepeatedNames, naming, names_at, path_at}
use Rattle.scip_model.specs.Packages.{package_of_path, package_if_there, package_of_file, package_of_part}
use Rattle.scip_model.specs.Repeated.{outermost_name, file_namespace, namespaces_before, home_of_file}
use Rattle.scip_model.specs.Repeated.{declaration_in, AreRepeated}
use Rattle.scip_model.specs.Named.{text_of, IsNamedAs, NamesIn}
use Rattle.scip_model.specs.Occurs.{start_of_text, definition_role, import_role, no_role, occurrence_over, Occurs}
use Rattle.scip_model.specs.Occurs.{enclosing_with, range_over}
use Rattle.scip_model.specs.Occurs as occurs
use Rattle.scip_model.specs.Detailed.{detail_at, details_in, details_shown, path_around, symbol_around}
use Rattle.index_hooks.specs.declared.choice.Choice.{Choice}
use Rattle.proto_decl.specs.Declares.{simple_name}
use Rattle.scip_model.specs.Entries.{file_entry, IsKeptEntry, HasEntry, HasExternal, declaration_entry}
use Rattle.scip_model.specs.Entries.{documentation_of}
use Rattle.scip_model.specs.Entries as entry
use Rattle.proto_lex.specs.declared.span.Span.{Span}
use Rattle.option_link.specs.declared.facts.OptionFacts.{OptionFacts}
use Rattle.scip_model.specs.Options.{NamesInOption, OccursInOptions, OccursWith, HasExternalOfOption}
use Rattle.scip_model.specs.Options.{HasExternalWith}
use Rattle.scip_model.specs.Options.OccursInOptions.{of_option}
use Rattle.scip_model.specs.Indexes.{IsAscendingListOf, IsDocumentWith, HasDocumentWith, IsIndexWith}

-- ---- names that are there

any_there : (xs : List (List ℕ)) (x : List ℕ) → Contains xs x → list_any (bytes_eq x) xs ≡ true
any_there [] x h = absurd (in_nothing x h)
any_there (y ∷ ys) x h = elim (Contains-append_cases (y ∷ []) ys x h) [
  | inl one ↦ left (bytes_eq x y) (list_any (bytes_eq x) ys) ((bytes_eq-Decides x y).1 (sym (only y x one)))
  | inr more ↦ right (bytes_eq x y) (list_any (bytes_eq x) ys) (any_there ys x more)
]
  where
    left : (b c : Bool) → b ≡ true → (b || c) ≡ true
    left true c e = refl
    left false c e = absurd (false≢true e)

    right : (b c : Bool) → c ≡ true → (b || c) ≡ true
    right true c e = refl
    right false c e = e

there_any : (xs : List (List ℕ)) (x : List ℕ) → list_any (bytes_eq x) xs ≡ true → Contains xs x
there_any xs x is = Contains-from_any (λ a b same. (bytes_eq-Decides a b).0 same) x xs is

same_test : (t u : Bool) → (t ≡ true → u ≡ true) → (u ≡ true → t ≡ true) → t ≡ u
same_test true u to back = sym (to refl)
same_test false true to back = back refl
same_test false false to back = refl

-- of the same files they have the same names
pub same_names : (files : List File) (a b : RepeatedNames) → AreRepeated files a → AreRepeated files b → (number : ℕ)
    (name : List ℕ) → list_any (bytes_eq name) (names_at a number) ≡ list_any (bytes_eq name) (names_at b number)
same_names files a b first second number name =
    same_test (list_any (bytes_eq name) (names_at a number)) (list_any (bytes_eq name) (names_at b number))
    (by a b first second) (by b a second first)
  where
    by : (x y : RepeatedNames) → AreRepeated files x → AreRepeated files y
        → list_any (bytes_eq name) (names_at x number) ≡ true → list_any (bytes_eq name) (names_at y number) ≡ true
    by x y of_x of_y is =
        any_there (names_at y number) name
        ((of_y.exact number name).1 ((of_x.exact number name).0 (there_any (names_at x number) name is)))

-- ---- what one of them says the other says

abbrev AreSame : (a b : RepeatedNames) → Type 0
AreSame a b = (number : ℕ) (name : List ℕ)
    → list_any (bytes_eq name) (names_at a number) ≡ list_any (bytes_eq name) (names_at b number)

module _ (packages : Packages) (a b : RepeatedNames) (same : AreSame a b) (files : List File) where
  abbrev ids : Packages
  ids = naming packages a

  abbrev others : Packages
  others = naming packages b

  of_path : (path : List ℕ) → package_of_path ids path ≡ package_of_path others path
  unfolding package_of_path
  of_path path = refl

  if_there : (file : Option File) → package_if_there ids file ≡ package_if_there others file
  if_there None = refl
  if_there (Some file) = of_path file.path

  of_file : (number : ℕ) → package_of_file files ids number ≡ package_of_file files others number
  of_file number = if_there (slice_get files number)

  of_part : (part : Entity) → package_of_part files ids part ≡ package_of_part files others part
  of_part (link.Package count) = refl
  of_part (link.Declared number index) = of_file number

  before : (number : ℕ) (facts : Facts) (declaration : Declaration)
      → namespaces_before (home_of_file files ids number) facts declaration
      ≡ namespaces_before (home_of_file files others number) facts declaration
  before number facts declaration =
      let names = component_names facts.package_name in
      ap (λ t. cond t (file_namespace (path_at files number) ∷ names) names)
      (same number (outermost_name facts declaration))

  declared : (number : ℕ) (facts : Facts) (declaration : Declaration)
      → declaration_in (home_of_file files ids number) facts declaration
      ≡ declaration_in (home_of_file files others number) facts declaration
  declared number facts declaration =
      ap (λ (names : List (List ℕ)). OfDeclaration names declaration.path) (before number facts declaration)

  named_as : (name : List ℕ) (part : Entity) (entity : symbols.Entity) → IsNamedAs files ids name part entity
      → IsNamedAs files others name part entity
  named_as name (link.Package count) entity is = is
  named_as name (link.Declared number index) entity is = record {
    facts = is.facts;
    declaration = is.declaration;
    has = is.has;
    is = is.is ∙ declared number is.facts is.declaration;
  }

  names_in : (number : ℕ) (component : Component) (part : Entity) (entity : symbols.Entity)
      → NamesIn files ids number component part entity → NamesIn files others number component part entity
  names_in number component part entity is = record {
    facts = is.facts;
    type_use = is.type_use;
    target = is.target;
    index = is.index;
    has_facts = is.has_facts;
    listed = is.listed;
    is_target = is.is_target;
    component_is = is.component_is;
    part_is = is.part_is;
    entity_is = named_as is.target.name part entity is.entity_is;
  }

  occurs_too : (chosen : Chosen) (encoding : Encoding) (source : ℕ) (text : List ℕ) (occurrence : Occurrence)
      → Occurs files chosen ids encoding source text occurrence
      → Occurs files chosen others encoding source text occurrence
  occurs_too chosen encoding source text _ (occurs.of_file {file = file} at) =
      subst (λ id. Occurs files chosen others encoding source text (record {
        range = start_of_text;
        symbol = text_of id (OfFile file.path);
        symbol_roles = definition_role;
        enclosing_range = None;
      }))
      (sym (of_file source)) (occurs.of_file at)
  occurs_too chosen encoding source text _ (occurs.of_import {imported = imported} has listed there) =
      subst (λ id. Occurs files chosen others encoding source text
      (occurrence_over encoding text id imported.span (OfFile imported.path) import_role))
      (sym (of_path imported.path)) (occurs.of_import has listed there)
  occurs_too chosen encoding source text _ (occurs.of_package index has at) = occurs.of_package index has at
  occurs_too chosen encoding source text _ (occurs.of_declaration {facts = facts} index {declared = d} has kept) =
      let Is : Occurrence → Type 0 = Occurs files chosen others encoding source text in
      subst Is
      (λ i. record {
        range = range_over encoding text d.name;
        symbol = text_of (sym (of_file source) i) (sym (declared source facts d) i);
        symbol_roles = definition_role;
        enclosing_range = enclosing_with encoding text (detail_at facts index);
      })
      (occurs.of_declaration index has kept)
  occurs_too chosen encoding source text _
      (occurs.of_component {component = component} {part = part} {entity = entity} names shown) =
      subst (λ id. Occurs files chosen others encoding source text
      (occurrence_over encoding text id component.span entity no_role))
      (sym (of_part part)) (occurs.of_component (names_in source component part entity names) shown)

  kept_entry : (chosen : Chosen) (number index : ℕ) (information : SymbolInformation)
      → IsKeptEntry files chosen ids number index information
      → IsKeptEntry files chosen others number index information
  kept_entry chosen number index information is = record {
    facts = is.facts;
    declaration = is.declaration;
    choice = is.choice;
    has = is.has;
    is_chosen = is.is_chosen;
    keeps = is.keeps;
    is = is.is ∙ shown is.facts is.declaration (detail_at is.facts index) is.choice;
  }
    where
      shown : (facts : Facts) (declaration : Declaration) (detail : Option Detail) (choice : Choice)
          → declaration_entry (home_of_file files ids number) facts declaration detail choice
          ≡ declaration_entry (home_of_file files others number) facts declaration detail choice
      shown facts declaration detail choice = λ i. record {
        symbol = text_of (of_file number i) (declared number facts declaration i);
        documentation = documentation_of choice.doc declaration;
        display_name = simple_name declaration.path;
        details = details_shown declaration detail
            (symbol_around (of_file number i) (before number facts declaration i) (path_around declaration.path));
      }

  has_entry : (chosen : Chosen) (source : ℕ) (information : SymbolInformation)
      → HasEntry files chosen ids source information → HasEntry files chosen others source information
  has_entry chosen source _ (entry.of_file {file = file} at) =
      subst (λ id. HasEntry files chosen others source (file_entry id file.path (details_in file)))
      (sym (of_file source))
      (entry.of_file at)
  has_entry chosen source _ (entry.of_package index has at) = entry.of_package index has at
  has_entry chosen source information (entry.of_declaration index is) =
      entry.of_declaration index (kept_entry chosen source index information is)

  has_external : (chosen : Chosen) (information : SymbolInformation) → HasExternal files chosen ids information
      → HasExternal files chosen others information
  has_external chosen information is = record {
    source = is.source;
    is_source = is.is_source;
    component = is.component;
    entity = is.entity;
    number = is.number;
    index = is.index;
    names = names_in is.source is.component (link.Declared is.number is.index) is.entity is.names;
    file = is.file;
    numbered = is.numbered;
    included = is.included;
    kept = kept_entry chosen is.number is.index information is.kept;
  }

  -- ---- the same of names in options

  names_in_option : (known : List OptionFacts) (source : ℕ) (text : List ℕ) (span : Span) (part : Entity)
      (entity : symbols.Entity) → NamesInOption files known ids source text span part entity
      → NamesInOption files known others source text span part entity
  names_in_option known source text span part entity is = record {
    beside = is.beside;
    its = is.its;
    option = is.option;
    listed = is.listed;
    target = is.target;
    is_target = is.is_target;
    index = is.index;
    component_is = is.component_is;
    part_is = is.part_is;
    entity_is = named_as is.is_target.parts.declaration.full_name part entity is.entity_is;
  }

  in_options : (known : List OptionFacts) (chosen : Chosen) (encoding : Encoding) (source : ℕ) (text : List ℕ)
      (occurrence : Occurrence) → OccursInOptions files known chosen ids encoding source text occurrence
      → OccursInOptions files known chosen others encoding source text occurrence
  in_options known chosen encoding source text _ (of_option {span = span} {part = part} {entity = entity} names shown) =
      subst (λ id. OccursInOptions files known chosen others encoding source text
      (occurrence_over encoding text id span entity no_role))
      (sym (of_part part)) (of_option (names_in_option known source text span part entity names) shown)

  external_of_option : (known : List OptionFacts) (texts : List (List ℕ)) (chosen : Chosen)
      (information : SymbolInformation) → HasExternalOfOption files known texts chosen ids information
      → HasExternalOfOption files known texts chosen others information
  external_of_option known texts chosen information is = record {
    source = is.source;
    is_source = is.is_source;
    text = is.text;
    text_is = is.text_is;
    span = is.span;
    entity = is.entity;
    number = is.number;
    index = is.index;
    names = names_in_option known is.source is.text is.span (link.Declared is.number is.index) is.entity is.names;
    file = is.file;
    numbered = is.numbered;
    included = is.included;
    kept = kept_entry chosen is.number is.index information is.kept;
  }

  external_with : (asked : Option (List OptionFacts)) (texts : List (List ℕ)) (chosen : Chosen)
      (information : SymbolInformation) → HasExternalWith asked files texts chosen ids information
      → HasExternalWith asked files texts chosen others information
  external_with None texts chosen information is = has_external chosen information is
  external_with (Some known) texts chosen information (inl is) = inl (has_external chosen information is)
  external_with (Some known) texts chosen information (inr is) =
      inr (external_of_option known texts chosen information is)

-- ---- so the index is the same

ascending_too : {X : Type 0} (cmp : X → X → Ordering) (W V : X → Type 0) (list : List X) → ((x : X) → W x → V x)
    → ((x : X) → V x → W x) → IsAscendingListOf cmp W list → IsAscendingListOf cmp V list
ascending_too cmp W V list to back is = record {
  exact = λ x. (λ there. to x ((is.exact x).0 there), λ wanted. (is.exact x).1 (back x wanted));
  ascends = is.ascends;
}

turned : (a b : RepeatedNames) → AreSame a b → AreSame b a
turned a b same number name = sym (same number name)

module _ (asked : Option (List OptionFacts)) (packages : Packages) (files : List File) (texts : List (List ℕ))
    (chosen : Chosen) (encoding : Encoding) where
  occurs_with : (asked : Option (List OptionFacts)) (a b : RepeatedNames) → AreSame a b → (source : ℕ)
      (text : List ℕ) (occurrence : Occurrence)
      → OccursWith asked files chosen (naming packages a) encoding source text occurrence
      → OccursWith asked files chosen (naming packages b) encoding source text occurrence
  occurs_with None a b same source text occurrence is =
      occurs_too packages a b same files chosen encoding source text occurrence is
  occurs_with (Some known) a b same source text occurrence (inl is) =
      inl (occurs_too packages a b same files chosen encoding source text occurrence is)
  occurs_with (Some known) a b same source text occurrence (inr is) = inr (record {
    occurs = in_options packages a b same files known chosen encoding source text occurrence is.occurs;
    apart = λ other there.
        is.apart other (occurs_too packages b a (turned a b same) files chosen encoding source text other there);
  })

  abbrev Has : RepeatedNames → Document → Type 0
  Has names = HasDocumentWith asked files texts chosen (naming packages names) encoding

  document_too : (a b : RepeatedNames) → AreSame a b → (source : ℕ) (text : List ℕ) (document : Document)
      → IsDocumentWith asked files chosen (naming packages a) encoding source text document
      → IsDocumentWith asked files chosen (naming packages b) encoding source text document
  document_too a b same source text document is = record {
    file = is.file;
    numbered = is.numbered;
    is_source = is.is_source;
    present = is.present;
    relative_path = is.relative_path;
    occurrences = ascending_too _ (OccursWith asked files chosen (naming packages a) encoding source text)
        (OccursWith asked files chosen (naming packages b) encoding source text) document.occurrences
        (occurs_with asked a b same source text) (occurs_with asked b a (turned a b same) source text) is.occurrences;
    symbols = ascending_too _ (HasEntry files chosen (naming packages a) source)
        (HasEntry files chosen (naming packages b) source) document.symbols
        (has_entry packages a b same files chosen source)
        (has_entry packages b a (turned a b same) files chosen source) is.symbols;
    language = is.language;
    position_encoding = is.position_encoding;
  }

  abbrev has_document : (a b : RepeatedNames) → AreSame a b → (document : Document) → Has a document → Has b document
  has_document a b same document is = record {
    source = is.source;
    text = is.text;
    text_is = is.text_is;
    is = document_too a b same is.source is.text document is.is;
  }

  pub same_index : (a b : RepeatedNames) → AreSame a b → (project_root : List ℕ) (index : Index)
      → IsIndexWith asked files texts chosen (naming packages a) encoding project_root index
      → IsIndexWith asked files texts chosen (naming packages b) encoding project_root index
  same_index a b same project_root index is = record {
    metadata_is = is.metadata_is;
    one_text_each = is.one_text_each;
    documents = ascending_too _ (Has a) (Has b) index.documents (has_document a b same)
        (has_document b a (turned a b same)) is.documents;
    each = λ source is_source.
        let of = is.each source is_source in
        (of.0, of.1, has_document a b same of.0 of.2, of.3);
    externals = ascending_too _ (HasExternalWith asked files texts chosen (naming packages a))
        (HasExternalWith asked files texts chosen (naming packages b)) index.external_symbols
        (external_with packages a b same files asked texts chosen)
        (external_with packages b a (turned a b same) files asked texts chosen) is.externals;
  }
