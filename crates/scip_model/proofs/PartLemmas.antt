-- What is made of a part of files is what is made of the whole.
use Rattle.std.proofs.Common.{◌≡◌, ◌∙◌, ◌⊎◌, inl, inr, ap, sym, subst, ℕ, ◌+◌, ◌<◌, Some, None, List}
use Rattle.std.proofs.Common.{length, map, true, false}
use Rattle.std.specs.List.{slice_get}
use Rattle.std.specs.Option.{option_map}
use Rattle.std.proofs.lemmas.Bool.{cases_Bool, false≢true}
use Rattle.std.proofs.lemmas.Option.{same_Some, slice_get-map, slice_get_within}
use Rattle.proto_lex.specs.declared.span.Span.{Span}
use Rattle.proto_lex.specs.declared.position.Encoding.{Encoding}
use Rattle.proto_decl.specs.Facts.{Facts}
use Rattle.proto_decl.specs.declared.declaration.Declaration.{Declaration}
use Rattle.proto_decl.specs.declared.uses.Component.{Component}
use Rattle.proto_visibility.specs.declared.lookup.Entity.{Entity}
use Rattle.proto_visibility.specs.declared.lookup.Entity.TheVariants as link
use Rattle.proto_visibility.specs.Files.{File, HasFacts, HasPath, HaveOwnPaths, IsPresent, IsSource}
use Rattle.proto_visibility.specs.Sees.SeesBy.{import}
use Rattle.proto_visibility.specs.Sees.LeadsTo.{at_once}
use Rattle.proto_visibility.specs.Knows.{IsEntityOf}
use Rattle.proto_visibility.specs.Knows.IsEntityOf.{packaged as packaged_entity, declared as declared_entity}
use Rattle.proto_visibility.specs.Parts.{HasAllSeen, HasAllReached, IsPart, entity_at, renumbered}
use Rattle.proto_visibility.proofs.KeptAmongLemmas.{from_mapped}
use Rattle.proto_visibility.proofs.PartLemmas.{Shares, facts_back, facts_to, shares}
use Rattle.proto_visibility.proofs.PartLinkedLemmas.{imported, path_back, present_to, source_to}
use Rattle.proto_visibility.proofs.PartReachLemmas.{all_seen}
use Rattle.proto_link.specs.declared.target.Target.{Target}
use Rattle.proto_link.specs.Parts.{target_at}
use Rattle.proto_link.proofs.PartLemmas.{parts_resolve_alike}
use Rattle.scip_symbol.specs.Entities.{OfFile}
use Rattle.scip_symbol.specs.Entities as symbols
use Rattle.scip_symbol.specs.Package.{Package}
use Rattle.scip_records.specs.declared.records.Document.{Document}
use Rattle.scip_records.specs.declared.records.Occurrence.{Occurrence}
use Rattle.scip_records.specs.declared.records.SymbolInformation.{SymbolInformation}
use Rattle.scip_model.specs.Chosen.{Chosen}
use Rattle.scip_model.specs.Packages.{Packages, package_if_there, package_of_file, package_of_part, package_of_path}
use Rattle.scip_model.specs.Repeated.{Home, declaration_in}
use Rattle.scip_model.specs.Named.{HasDeclaration, IsDeclaredAs, IsNamedAs, NamesIn, package_at, text_of}
use Rattle.scip_model.specs.Occurs.{IsShown, Occurs, definition_over, definition_role, import_role, no_role}
use Rattle.scip_model.specs.Occurs.{occurrence_over, start_of_text}
use Rattle.scip_model.specs.Occurs as occurs
use Rattle.scip_model.specs.OccurrenceOrder.{occurrence_cmp}
use Rattle.scip_model.specs.Entries.{HasEntry, HasExternal, IsKeptEntry, declaration_entry, file_entry, package_entry}
use Rattle.scip_model.specs.Entries as entries
use Rattle.scip_model.specs.Detailed.{detail_at, details_in}
use Rattle.scip_model.specs.Indexes.{IsDocumentWhere, info_cmp}
use Rattle.scip_model.specs.Parts.{AreChosenAlike, AreNamedAlike}
use Rattle.scip_model.proofs.PartChoiceLemmas.{ascending_too, chosen_as, kept_as, same_details}

abbrev moved : (at : ℕ → ℕ) → List Entity → List Entity
moved at parts = map (entity_at at) parts

module _ (part whole : List File) (at : ℕ → ℕ) (own_paths : HaveOwnPaths part) (are : IsPart part whole at)
    (ids theirs : Packages) (named : AreNamedAlike part whole at ids theirs) where
  abbrev there : (k : ℕ) (file : File) → slice_get part k ≡ Some file → Shares whole (at k) file
  there = shares part whole at are

  pub home_id : (k : ℕ) (file : File) → slice_get part k ≡ Some file
      → package_of_file part ids k ≡ package_of_file whole theirs (at k)
  home_id k file stands = ap (λ (home : Home). home.id) (named.homes k file stands)

  path_id : (k : ℕ) (file : File) → slice_get part k ≡ Some file
      → package_of_path ids file.path ≡ package_of_path theirs file.path
  path_id k file stands =
      let its = there k file stands in
      ap (package_if_there ids) (sym stands) ∙ (home_id k file stands ∙ (ap (package_if_there theirs) its.numbered
      ∙ ap (package_of_path theirs) (sym its.path)))

  -- ---- declarations

  pub declaration_to : (k index : ℕ) (facts : Facts) (declaration : Declaration)
      → HasDeclaration part k index facts declaration
      → (n : ℕ) × HasDeclaration whole (at k) index (renumbered n facts) declaration
  declaration_to k index facts declaration has =
      let known = facts_to part whole at there k facts has.has_facts in
      (known.0, record { has_facts = known.1; numbered = has.numbered })

  pub declaration_back : (k : ℕ) (file : File) → slice_get part k ≡ Some file → (index : ℕ) (facts : Facts)
      (declaration : Declaration) → HasDeclaration whole (at k) index facts declaration
      → (n : ℕ) × HasDeclaration part k index (renumbered n facts) declaration
  declaration_back k file stands index facts declaration has =
      let known = facts_back part whole at there k facts (slice_get_within part k file stands) has.has_facts in
      (known.0, record { has_facts = known.1; numbered = has.numbered })

  declared_to : (k index : ℕ) (entity : symbols.Entity) → IsDeclaredAs part ids k index entity
      → IsDeclaredAs whole theirs (at k) index entity
  declared_to k index entity is =
      let has = declaration_to k index is.facts is.declaration is.has in
      record {
        facts = renumbered has.0 is.facts;
        declaration = is.declaration;
        has = has.1;
        is = is.is ∙ ap (λ home. declaration_in home is.facts is.declaration)
            (named.homes k is.has.has_facts.file is.has.has_facts.numbered);
      }

  declared_back : (k : ℕ) (file : File) → slice_get part k ≡ Some file → (index : ℕ) (entity : symbols.Entity)
      → IsDeclaredAs whole theirs (at k) index entity → IsDeclaredAs part ids k index entity
  declared_back k file stands index entity is =
      let has = declaration_back k file stands index is.facts is.declaration is.has in
      record {
        facts = renumbered has.0 is.facts;
        declaration = is.declaration;
        has = has.1;
        is = is.is ∙ ap (λ home. declaration_in home is.facts is.declaration) (sym (named.homes k file stands));
      }

  pub named_to : (name : List ℕ) (one : Entity) (entity : symbols.Entity) → IsNamedAs part ids name one entity
      → IsNamedAs whole theirs name (entity_at at one) entity
  named_to name (link.Package count) entity is = is
  named_to name (link.Declared number index) entity is = declared_to number index entity is

  -- it is in a file of the part, if it is declared
  abbrev pub IsThere : Entity → Type 0
  IsThere (link.Package count) = Unit {0}
  IsThere (link.Declared number index) = (file : File) × (slice_get part number ≡ Some file)

  pub named_back : (name : List ℕ) (one : Entity) (entity : symbols.Entity) → IsThere one
      → IsNamedAs whole theirs name (entity_at at one) entity → IsNamedAs part ids name one entity
  named_back name (link.Package count) entity is_there is = is
  named_back name (link.Declared number index) entity is_there is =
      declared_back number is_there.0 is_there.1 index entity is

  pub there_named : (name : List ℕ) (one : Entity) (entity : symbols.Entity) → IsNamedAs part ids name one entity
      → IsThere one
  there_named name (link.Package count) entity is = tt
  there_named name (link.Declared number index) entity is = (is.has.has_facts.file, is.has.has_facts.numbered)

  pub there_of : {owner : ℕ} {facts : Facts} {name : List ℕ} {count : ℕ} (one : Entity)
      → IsEntityOf owner facts name count one → HasFacts part owner facts → IsThere one
  there_of _ (packaged_entity prefix) has = tt
  there_of _ (declared_entity stands full) has = (has.file, has.numbered)

  pub part_id : (one : Entity) → IsThere one → package_of_part part ids one ≡ package_of_part whole theirs
      (entity_at at one)
  part_id (link.Package count) is_there = named.run
  part_id (link.Declared number index) is_there = home_id number is_there.0 is_there.1

  -- ---- what components name

  names_to : (k : ℕ) (file : File) → slice_get part k ≡ Some file → HasAllSeen part whole at k
      → (component : Component) (one : Entity) (entity : symbols.Entity)
      → NamesIn part ids k component one entity → NamesIn whole theirs (at k) component (entity_at at one) entity
  names_to k file stands all component one entity is =
      let known = facts_to part whole at there k is.facts is.has_facts in
      let alike = parts_resolve_alike part whole at own_paths are k file stands all is.type_use in
      record {
        facts = renumbered known.0 is.facts;
        type_use = is.type_use;
        target = target_at at is.target;
        index = is.index;
        has_facts = known.1;
        listed = is.listed;
        is_target = alike.never_invented is.target is.is_target;
        component_is = is.component_is;
        part_is = slice_get-map (entity_at at) is.target.parts is.index ∙ ap (option_map (entity_at at)) is.part_is;
        entity_is = named_to is.target.name one entity is.entity_is;
      }

  pub record NamesBack (k : ℕ) (component : Component) (one : Entity) (entity : symbols.Entity) : Type 0 where
    pub own : Entity
    pub is_there : IsThere own
    pub same : entity_at at own ≡ one
    pub names : NamesIn part ids k component own entity

  names_back : (k : ℕ) (file : File) → slice_get part k ≡ Some file → HasAllSeen part whole at k
      → (component : Component) (one : Entity) (entity : symbols.Entity)
      → NamesIn whole theirs (at k) component one entity → NamesBack k component one entity
  names_back k file stands all component one entity is =
      let known = facts_back part whole at there k is.facts (slice_get_within part k file stands) is.has_facts in
      let alike = parts_resolve_alike part whole at own_paths are k file stands all is.type_use in
      let its = alike.never_lost is.target is.is_target in
      let parts : moved at its.own.parts ≡ is.target.parts = ap (λ (t : Target). t.parts) its.same in
      let from = from_mapped (entity_at at) its.own.parts is.index one
      (ap (λ ps. slice_get ps is.index) parts ∙ is.part_is) in
      let is_there = there_of from.0 (its.is_target.named is.index from.0 from.1) its.is_target.known in
      let name : its.own.name ≡ is.target.name = ap (λ (t : Target). t.name) its.same in
      record {
        own = from.0;
        is_there = is_there;
        same = from.2;
        names = record {
          facts = renumbered known.0 is.facts;
          type_use = is.type_use;
          target = its.own;
          index = is.index;
          has_facts = known.1;
          listed = is.listed;
          is_target = its.is_target;
          component_is = is.component_is;
          part_is = from.1;
          entity_is = named_back its.own.name from.0 entity is_there
              (subst (λ n. IsNamedAs whole theirs n (entity_at at from.0) entity) (sym name)
              (subst (λ p. IsNamedAs whole theirs is.target.name p entity) (sym from.2) is.entity_is));
        };
      }

  path_to : (path : List ℕ) → HasPath part path → HasPath whole path
  path_to path is =
      let its = there is.0 is.1.0 is.1.1 in
      (at is.0, (its.other, its.numbered, sym its.path ∙ is.1.2), present_to part whole at are is.0 is.2)

  -- ---- what is chosen

  module _ (chosen others : Chosen) (choices : AreChosenAlike part at chosen others) where
    pub shown_to : (one : Entity) → IsThere one → IsShown chosen one → IsShown others (entity_at at one)
    shown_to (link.Package count) is_there shown = shown
    shown_to (link.Declared number index) is_there shown = kept_as chosen others number (at number)
        (choices number is_there.0 is_there.1) index shown

    pub shown_back : (one : Entity) → IsThere one → IsShown others (entity_at at one) → IsShown chosen one
    shown_back (link.Package count) is_there shown = shown
    shown_back (link.Declared number index) is_there shown = kept_as others chosen (at number) number
        (sym (choices number is_there.0 is_there.1)) index shown

    -- ---- what occurs in the document of a source

    module _ (encoding : Encoding) (k : ℕ) (file : File) (stands : slice_get part k ≡ Some file)
        (all : HasAllSeen part whole at k) (text : List ℕ) where
      abbrev Here : Occurrence → Type 0
      Here = Occurs part chosen ids encoding k text

      abbrev There : Occurrence → Type 0
      There = Occurs whole others theirs encoding (at k) text

      abbrev file_over : Package → (path : List ℕ) → Occurrence
      file_over id path = record {
        range = start_of_text;
        symbol = text_of id (OfFile path);
        symbol_roles = definition_role;
        enclosing_range = None;
      }

      abbrev import_over : Span → (path : List ℕ) → Package → Occurrence
      import_over span path id = occurrence_over encoding text id span (OfFile path) import_role

      pub occurs_to : (occurrence : Occurrence) → Here occurrence → There occurrence
      occurs_to _ (occurs.of_file {file = own} is) =
          let its = there k own is in
          subst (λ id. There (file_over id own.path)) (sym (home_id k own is))
          (subst (λ path. There (file_over (package_of_file whole theirs (at k)) path)) (sym its.path)
          (occurs.of_file its.numbered))
      occurs_to _ (occurs.of_import {facts = facts} {imported = one} has listed is) =
          let id : package_of_path ids one.path ≡ package_of_path theirs one.path =
          subst (λ path. package_of_path ids path ≡ package_of_path theirs path) is.1.2 (path_id is.0 is.1.0 is.1.1) in
          subst (λ i. There (import_over one.span one.path i)) (sym id)
          (occurs.of_import (facts_to part whole at there k facts has).1 listed (path_to one.path is))
      occurs_to _ (occurs.of_package {facts = facts} index {component = component} has is) =
          subst (λ id. There (occurrence_over encoding text id component.span (package_at facts (index + 1))
          definition_role)) (sym named.run)
          (occurs.of_package index (facts_to part whole at there k facts has).1 is)
      occurs_to _ (occurs.of_declaration {facts = facts} index {declared = d} has kept) =
          subst (λ home. There (definition_over encoding text home facts d (detail_at facts index)))
          (sym (named.homes k has.has_facts.file has.has_facts.numbered))
          (occurs.of_declaration index (declaration_to k index facts d has).1
          (kept_as chosen others k (at k) (choices k file stands) index kept))
      occurs_to _ (occurs.of_component {component = component} {part = one} {entity = entity} names shown) =
          let is_there = there_named names.target.name one entity names.entity_is in
          subst (λ id. There (occurrence_over encoding text id component.span entity no_role))
          (sym (part_id one is_there))
          (occurs.of_component (names_to k file stands all component one entity names) (shown_to one is_there shown))

      pub occurs_back : (occurrence : Occurrence) → There occurrence → Here occurrence
      occurs_back _ (occurs.of_file {file = other} is) =
          let its = there k file stands in
          let path : file.path ≡ other.path =
          its.path ∙ ap (λ (f : File). f.path) (same_Some its.other other (sym its.numbered ∙ is)) in
          subst (λ id. Here (file_over id other.path)) (home_id k file stands)
          (subst (λ p. Here (file_over (package_of_file part ids k) p)) path (occurs.of_file stands))
      occurs_back _ (occurs.of_import {facts = facts} {imported = one} has listed is) =
          let known = facts_back part whole at there k facts (slice_get_within part k file stands) has in
          let step = imported part whole at are k is.0 (renumbered known.0 facts) one known.1 listed is.1 in
          let own = all is.0 (import step at_once) in
          let back = path_back part whole at are is.0 one.path is.1 is.2 own in
          let id : package_of_path ids one.path ≡ package_of_path theirs one.path =
          subst (λ path. package_of_path ids path ≡ package_of_path theirs path) back.1.2
          (path_id back.0 back.1.0 back.1.1) in
          subst (λ i. Here (import_over one.span one.path i)) id (occurs.of_import known.1 listed back)
      occurs_back _ (occurs.of_package {facts = facts} index {component = component} has is) =
          let known = facts_back part whole at there k facts (slice_get_within part k file stands) has in
          subst (λ id. Here (occurrence_over encoding text id component.span (package_at facts (index + 1))
          definition_role)) named.run (occurs.of_package index known.1 is)
      occurs_back _ (occurs.of_declaration {facts = facts} index {declared = d} has kept) =
          let known = declaration_back k file stands index facts d has in
          subst (λ home. Here (definition_over encoding text home facts d (detail_at facts index)))
          (named.homes k file stands) (occurs.of_declaration index known.1
          (kept_as others chosen (at k) k (sym (choices k file stands)) index kept))
      occurs_back _ (occurs.of_component {component = component} {part = one} {entity = entity} names shown) =
          let its = names_back k file stands all component one entity names in
          let id : package_of_part part ids its.own ≡ package_of_part whole theirs one =
          part_id its.own its.is_there ∙ ap (package_of_part whole theirs) its.same in
          subst (λ i. Here (occurrence_over encoding text i component.span entity no_role)) id
          (occurs.of_component its.names
          (shown_back its.own its.is_there (subst (IsShown others) (sym its.same) shown)))

    -- ---- entries

    pub kept_entry_to : (k : ℕ) (file : File) → slice_get part k ≡ Some file → (index : ℕ) (entry : SymbolInformation)
        → IsKeptEntry part chosen ids k index entry → IsKeptEntry whole others theirs (at k) index entry
    kept_entry_to k file stands index entry is =
        let known = declaration_to k index is.facts is.declaration is.has in
        record {
          facts = renumbered known.0 is.facts;
          declaration = is.declaration;
          choice = is.choice;
          has = known.1;
          is_chosen = chosen_as chosen others k (at k) (choices k file stands) index is.choice is.is_chosen;
          keeps = is.keeps;
          is = is.is ∙ ap (λ home. declaration_entry home is.facts is.declaration (detail_at is.facts index) is.choice)
              (named.homes k file stands);
        }

    pub kept_entry_back : (k : ℕ) (file : File) → slice_get part k ≡ Some file → (index : ℕ) (entry : SymbolInformation)
        → IsKeptEntry whole others theirs (at k) index entry → IsKeptEntry part chosen ids k index entry
    kept_entry_back k file stands index entry is =
        let known = declaration_back k file stands index is.facts is.declaration is.has in
        record {
          facts = renumbered known.0 is.facts;
          declaration = is.declaration;
          choice = is.choice;
          has = known.1;
          is_chosen = chosen_as others chosen (at k) k (sym (choices k file stands)) index is.choice is.is_chosen;
          keeps = is.keeps;
          is = is.is ∙ ap (λ home. declaration_entry home is.facts is.declaration (detail_at is.facts index) is.choice)
              (sym (named.homes k file stands));
        }

    module _ (k : ℕ) (file : File) (stands : slice_get part k ≡ Some file) where
      abbrev IsHere : SymbolInformation → Type 0
      IsHere = HasEntry part chosen ids k

      abbrev IsThereToo : SymbolInformation → Type 0
      IsThereToo = HasEntry whole others theirs (at k)

      same_file_entry : (own other : File) → slice_get part k ≡ Some own → slice_get whole (at k) ≡ Some other
          → file_entry (package_of_file part ids k) own.path (details_in own)
          ≡ file_entry (package_of_file whole theirs (at k)) other.path (details_in other)
      same_file_entry own other here is =
          let its = there k own here in
          let one : its.other ≡ other = same_Some its.other other (sym its.numbered ∙ is) in
          ap (λ id. file_entry id own.path (details_in own)) (home_id k own here)
          ∙ (ap (λ path. file_entry (package_of_file whole theirs (at k)) path (details_in own)) its.path
          ∙ (ap (λ details. file_entry (package_of_file whole theirs (at k)) its.other.path details)
          (same_details own.facts its.other.facts its.facts)
          ∙ ap (λ (f : File). file_entry (package_of_file whole theirs (at k)) f.path (details_in f)) one))

      entry_to : (entry : SymbolInformation) → IsHere entry → IsThereToo entry
      entry_to _ (entries.of_file {file = own} is) =
          let its = there k own is in
          subst IsThereToo (sym (same_file_entry own its.other is its.numbered)) (entries.of_file its.numbered)
      entry_to _ (entries.of_package {facts = facts} index has is) =
          subst (λ id. IsThereToo (package_entry id facts (index + 1))) (sym named.run)
          (entries.of_package index (facts_to part whole at there k facts has).1 is)
      entry_to one (entries.of_declaration index is) = entries.of_declaration index
          (kept_entry_to k file stands index one is)

      entry_back : (entry : SymbolInformation) → IsThereToo entry → IsHere entry
      entry_back _ (entries.of_file {file = other} is) =
          subst IsHere (same_file_entry file other stands is) (entries.of_file stands)
      entry_back _ (entries.of_package {facts = facts} index has is) =
          let known = facts_back part whole at there k facts (slice_get_within part k file stands) has in
          subst (λ id. IsHere (package_entry id facts (index + 1))) named.run (entries.of_package index known.1 is)
      entry_back one (entries.of_declaration index is) =
          entries.of_declaration index (kept_entry_back k file stands index one is)

    -- ---- the document of a source

    pub document_where : (encoding : Encoding) (k : ℕ) (Here There : Occurrence → Type 0)
        → ((occurrence : Occurrence) → Here occurrence → There occurrence)
        → ((occurrence : Occurrence) → There occurrence → Here occurrence) → (document : Document)
        → IsDocumentWhere Here part chosen ids encoding k document
        → IsDocumentWhere There whole others theirs encoding (at k) document
    document_where encoding k Here There to back document is =
        let its = are k is.file is.numbered in
        record {
          file = its.other;
          numbered = its.numbered;
          is_source = its.same.included is.is_source;
          present = sym its.same.left_out ∙ is.present;
          relative_path = is.relative_path ∙ its.same.path;
          occurrences = ascending_too occurrence_cmp Here There document.occurrences to back is.occurrences;
          symbols = ascending_too info_cmp (HasEntry part chosen ids k) (HasEntry whole others theirs (at k))
              document.symbols (entry_to k is.file is.numbered) (entry_back k is.file is.numbered) is.symbols;
          language = is.language;
          position_encoding = is.position_encoding;
        }

    -- ---- external entries

    pub still_included : (k : ℕ) (file : File) → slice_get part k ≡ Some file → (other : File)
        → slice_get whole (at k) ≡ Some other → other.is_included ≡ true → file.is_included ≡ true
    still_included k file stands other numbered included =
        let its = are k file stands in
        let same : other ≡ its.other = same_Some other its.other (sym numbered ∙ its.numbered) in
        elim (cases_Bool file.is_included) [
          | inl holds ↦ holds
          | inr fails ↦ absurd (false≢true (sym (its.same.included fails)
              ∙ (ap (λ (f : File). f.is_included) (sym same) ∙ included)))
        ]

    abbrev pub IsDefined : SymbolInformation → Type 0
    IsDefined entry = (source : ℕ) × IsSource whole source × HasEntry whole others theirs source entry

    -- a kept entry of a file of the part that is included there is external in the whole, or in a document of it
    pub by_file : (k : ℕ) (file : File) → slice_get part k ≡ Some file → IsPresent part k → (index : ℕ)
        (entry : SymbolInformation) → IsKeptEntry part chosen ids k index entry
        → (External : Type 0)
        → ((other : File) → slice_get whole (at k) ≡ Some other → other.is_included ≡ true → External)
        → External ⊎ IsDefined entry
    by_file k file stands present index entry kept External external =
        let its = are k file stands in
        elim (cases_Bool its.other.is_included) [
          | inl included ↦ inl (external its.other its.numbered included)
          | inr source ↦ inr (
            at k,
            record {
              file = its.other;
              numbered = its.numbered;
              source = source;
              present = sym its.same.left_out
                  ∙ (ap (λ (f : File). f.is_left_out) (same_Some file present.file (sym stands ∙ present.numbered))
                  ∙ present.present);
            },
            entries.of_declaration index (kept_entry_to k file stands index entry kept),
          )
        ]

    pub external_to : HasAllReached part whole at → ((k : ℕ) → k < length part → IsPresent part k)
        → (entry : SymbolInformation) → HasExternal part chosen ids entry
        → HasExternal whole others theirs entry ⊎ IsDefined entry
    external_to all none_left entry is =
        let one = link.Declared is.number is.index in
        let present = none_left is.number (slice_get_within part is.number is.file is.numbered) in
        by_file is.number is.file is.numbered present is.index entry is.kept
        (HasExternal whole others theirs entry) (λ other numbered included. record {
          source = at is.source;
          is_source = source_to part whole at are is.source is.is_source;
          component = is.component;
          entity = is.entity;
          number = at is.number;
          index = is.index;
          names = names_to is.source is.is_source.file is.is_source.numbered
              (all_seen part whole at are all is.source is.is_source) is.component
              one is.entity is.names;
          file = other;
          numbered = numbered;
          included = included;
          kept = kept_entry_to is.number is.file is.numbered is.index entry is.kept;
        })

    pub external_back : HasAllReached part whole at → (entry : SymbolInformation)
        (is : HasExternal whole others theirs entry)
        (k : ℕ) → IsSource part k → at k ≡ is.source → HasExternal part chosen ids entry
    external_back all entry is k source same =
        let one = link.Declared is.number is.index in
        let names = subst (λ n. NamesIn whole theirs n is.component one is.entity) (sym same) is.names in
        by (names_back k source.file source.numbered (all_seen part whole at are all k source) is.component one
        is.entity names)
      where
        by : NamesBack k is.component (link.Declared is.number is.index) is.entity → HasExternal part chosen ids entry
        by its = of_own its.own its.is_there its.same its.names
          where
            of_own : (own : Entity) → IsThere own → entity_at at own ≡ link.Declared is.number is.index
                → NamesIn part ids k is.component own is.entity → HasExternal part chosen ids entry
            of_own (link.Package count) is_there same_one names = absurd (cc)
            of_own (link.Declared number index) is_there same_one names =
                let numbers : at number ≡ is.number = cc in
                let indexes : index ≡ is.index = cc in
                record {
                  source = k;
                  is_source = source;
                  component = is.component;
                  entity = is.entity;
                  number = number;
                  index = index;
                  names = names;
                  file = is_there.0;
                  numbered = is_there.1;
                  included = still_included number is_there.0 is_there.1 is.file
                      (ap (slice_get whole) numbers ∙ is.numbered) is.included;
                  kept = kept_entry_back number is_there.0 is_there.1 index entry
                      (subst (λ n. IsKeptEntry whole others theirs n index entry) (sym numbers)
                      (subst (λ j. IsKeptEntry whole others theirs is.number j entry) (sym indexes) is.kept));
                }
