-- The lists that a document's occurrences are made of have just what occurs.
use Rattle.std.proofs.Common.{◌≡◌, ◌∙◌, sym, ap, refl, subst, ◌⊎◌, inl, inr, ℕ, zero, suc, ◌+◌, Bool, true, false}
use Rattle.std.proofs.Common.{Option, Some, None, List, [], ◌∷◌, arith, ⊎_elim}
use Rattle.std.specs.Prelude.{if◌then◌else◌}
use Rattle.std.specs.List.{AllZip, Contains, slice_get}
use Rattle.std.specs.Option.{option_and_then, option_map}
use Rattle.std.proofs.lemmas.Option.{none-some, same_Some}
use Rattle.proto_visibility.proofs.FileFactLemmas.{one_list_of_facts as same_facts}
use Rattle.basics.proofs.ListLemmas.{only}
use Rattle.proto_lex.specs.declared.position.Encoding.{Encoding}
use Rattle.scip_records.specs.declared.records.Occurrence.{Occurrence}
use Rattle.index_hooks.specs.declared.choice.Choice.{Choice}
use Rattle.proto_decl.specs.Facts.{Facts}
use Rattle.proto_decl.specs.declared.declaration.Declaration.{Declaration}
use Rattle.proto_decl.specs.declared.uses.Component.{Component}
use Rattle.proto_decl.specs.declared.uses.Use.{Use}
use Rattle.basics.proofs.BoolLemmas.{never}
use Rattle.scip_symbol.specs.Entities.{OfFile}
use Rattle.scip_symbol.specs.Entities as symbols
use Rattle.proto_visibility.specs.Files.{File, HasFacts}
use Rattle.proto_link.specs.Targets.{IsTarget}
use Rattle.proto_link.specs.declared.target.Target.{Target}
use Rattle.proto_visibility.specs.declared.lookup.Entity.{Entity}
use Rattle.proto_visibility.specs.declared.lookup.Entity.TheVariants as link
use Rattle.basics.proofs.FirstLemmas.{contained, contained_at}
use Rattle.scip_model.specs.Packages.{Packages, package_of_path, package_of_part}
use Rattle.scip_model.specs.Chosen.{Chosen, IsKeptDeclaration}
use Rattle.scip_model.specs.Conditions.{IsFound}
use Rattle.scip_model.specs.Named.{Home, IsDeclaredAs, IsNamedAs, NamesIn, package_at, declaration_in}
use Rattle.scip_model.specs.Named.{home_of_file}
use Rattle.scip_model.specs.Detailed.{detail_at}
use Rattle.scip_model.specs.Occurs.{Occurs, IsShown, no_role, definition_role, definition_over, import_role}
use Rattle.scip_model.specs.Occurs.{occurrence_over}
use Rattle.scip_model.specs.Occurs.Occurs.{of_file, of_import, of_package, of_declaration, of_component}
use Rattle.scip_model.specs.Tables.Listing.{own_occurrence, each_from, has_path, found_at, keeps_by, keeps, is_shown}
use Rattle.scip_model.specs.Tables.Listing.{declared_in, entity_of, at_import, at_package, at_declaration, at_entity}
use Rattle.scip_model.specs.Tables.Listing.{at_part, at_component, at_target, at_use}
use Rattle.scip_model.proofs.MergeLemmas.{at_head, not_in_none}
use Rattle.scip_model.proofs.ListingLemmas.{given_by, gives_it}
use Rattle.scip_model.proofs.ConditionLemmas.{path_from, path_to}
use Rattle.scip_model.proofs.NamedLemmas.{declared_is}

-- what a list gives, from its start
pub record IsGivenAt {A B : Type 0} (gives : ℕ → A → List B) (xs : List A) (o : B) : Type 0 where
  pub at : ℕ
  pub item : A
  pub item_is : slice_get xs at ≡ Some item
  pub given : Contains (gives at item) o

pub given_at : {A B : Type 0} (gives : ℕ → A → List B) (xs : List A) (o : B) → Contains (each_from gives 0 xs) o
    → IsGivenAt gives xs o
given_at {B = B} gives xs o h =
    let g = given_by gives 0 xs o h in
    let same : 0 + g.at ≡ g.at = omega arith in
    record {
      at = g.at;
      item = g.item;
      item_is = g.item_is;
      given = subst (λ (n : ℕ). Contains (gives n g.item) o) same g.given;
    }

pub gives_at : {A B : Type 0} (gives : ℕ → A → List B) (xs : List A) (o : B) (at : ℕ) (item : A)
    → slice_get xs at ≡ Some item → Contains (gives at item) o → Contains (each_from gives 0 xs) o
gives_at gives xs o at item e h =
    let same : at ≡ 0 + at = omega arith in
    gives_it gives 0 xs o at item e (subst (λ (n : ℕ). Contains (gives n item) o) same h)

pub zip_at : {X Y : Type 0} (R : X → Y → Type 0) (xs : List X) (ys : List Y) → AllZip R xs ys → (k : ℕ) (x : X)
    → slice_get xs k ≡ Some x → (y : Y) × (slice_get ys k ≡ Some y) × R x y
zip_at R [] ys all k x e = absurd (none-some _ e)
zip_at R (a ∷ xs) [] all k x e = absurd all
zip_at R (a ∷ xs) (b ∷ ys) all zero x e = let same : a ≡ x = same_Some _ _ e in
    (b, refl, subst (λ (z : _). R z b) same all.0)
zip_at R (a ∷ xs) (b ∷ ys) all (suc k) x e = zip_at R xs ys all.1 k x e

pub if_so : {X : Type 0} (b : Bool) (xs : List X) (o : X) → Contains (if b then xs else []) o → (b ≡ true) × Contains xs o
if_so true xs o h = (refl, h)
if_so false xs o h = absurd (not_in_none o h)

pub so : {X : Type 0} (b : Bool) (xs : List X) (o : X) → b ≡ true → Contains xs o → Contains (if b then xs else []) o
so true xs o e h = h
so false xs o e h = never e

-- choices

kept_by : (chosen : Chosen) (file index : ℕ) (choices : List Choice) → slice_get chosen file ≡ Some choices
    → (c : Option Choice) → slice_get choices index ≡ c → keeps_by c ≡ true → IsKeptDeclaration chosen file index
kept_by chosen file index choices at None e k = never k
kept_by chosen file index choices at (Some choice) e k =
    record { choice = choice; is_chosen = record { of_file = choices; file_is = at; declaration_is = e }; keeps = k }

kept_of : (chosen : Chosen) (file index : ℕ) (l : Option (List Choice)) → slice_get chosen file ≡ l
    → keeps_by (option_and_then (λ (choices : List Choice). slice_get choices index) l) ≡ true
    → IsKeptDeclaration chosen file index
kept_of chosen file index None e k = never k
kept_of chosen file index (Some choices) e k = kept_by chosen file index choices e (slice_get choices index) refl k

kept_from : (chosen : Chosen) (file index : ℕ) → keeps chosen file index ≡ true → IsKeptDeclaration chosen file index
kept_from chosen file index k = kept_of chosen file index (slice_get chosen file) refl k

kept_to : (chosen : Chosen) (file index : ℕ) → IsKeptDeclaration chosen file index → keeps chosen file index ≡ true
kept_to chosen file index kept = rw (kept.is_chosen.file_is, kept.is_chosen.declaration_is) kept.keeps

pub shown_from : (chosen : Chosen) (part : Entity) → is_shown chosen part ≡ true → IsShown chosen part
shown_from chosen (link.Package count) e = tt
shown_from chosen (link.Declared file index) e = kept_from chosen file index e

pub shown_to : (chosen : Chosen) (part : Entity) → IsShown chosen part → is_shown chosen part ≡ true
shown_to chosen (link.Package count) shown = refl
shown_to chosen (link.Declared file index) shown = kept_to chosen file index shown

-- entities

module _ (files : List File) (ids : Packages) where
  declared_by_is : (file index : ℕ) (f : File) → slice_get files file ≡ Some f → (facts : Facts)
      → f.facts ≡ Some facts → (d : Option Declaration) → slice_get facts.declarations index ≡ d
      → (entity : symbols.Entity)
      → option_map (declaration_in (home_of_file files ids file) facts) d ≡ Some entity
      → IsDeclaredAs files ids file index entity
  declared_by_is file index f at facts known None e entity h = absurd (none-some _ h)
  declared_by_is file index f at facts known (Some d) e entity h =
      record {
        facts = facts;
        declaration = d;
        has = record { has_facts = record { file = f; numbered = at; known = known }; numbered = e };
        is = sym (same_Some _ _ h);
      }

  declared_in_file : (file index : ℕ) (f : File) → slice_get files file ≡ Some f → (o : Option Facts)
      → f.facts ≡ o → (entity : symbols.Entity)
      → option_and_then (λ (facts : Facts). declared_in (home_of_file files ids file) facts index) o ≡ Some entity
      → IsDeclaredAs files ids file index entity
  declared_in_file file index f at None e entity h = absurd (none-some _ h)
  declared_in_file file index f at (Some facts) e entity h =
      declared_by_is file index f at facts e (slice_get facts.declarations index) refl entity h

  declared_in_files : (file index : ℕ) (o : Option File) → slice_get files file ≡ o → (entity : symbols.Entity)
      → option_and_then (λ (f : File). option_and_then
      (λ (facts : Facts). declared_in (home_of_file files ids file) facts index) f.facts) o
      ≡ Some entity → IsDeclaredAs files ids file index entity
  declared_in_files file index None e entity h = absurd (none-some _ h)
  declared_in_files file index (Some f) e entity h = declared_in_file file index f e f.facts refl entity h

  pub named_from : (name : List ℕ) (part : Entity) (entity : symbols.Entity)
      → entity_of files ids name part ≡ Some entity → IsNamedAs files ids name part entity
  named_from name (link.Package count) entity e = sym (same_Some _ _ e)
  named_from name (link.Declared file index) entity e =
      declared_in_files file index (slice_get files file) refl entity e

  pub named_to : (name : List ℕ) (part : Entity) (entity : symbols.Entity)
      → IsNamedAs files ids name part entity → entity_of files ids name part ≡ Some entity
  named_to name (link.Package count) entity is = ap Some (sym is)
  named_to name (link.Declared file index) entity is =
      declared_is files ids file index is.facts is.declaration is.has.has_facts is.has.numbered ∙ ap Some (sym is.is)

module _ (files : List File) (chosen : Chosen) (ids : Packages) (encoding : Encoding) (source : ℕ) (text : List ℕ) where
  abbrev Wanted : Occurrence → Type 0
  Wanted o = Occurs files chosen ids encoding source text o

  -- where the declarations of the source belong
  abbrev home : Home
  home = home_of_file files ids source

  module _ (file : File) (at : slice_get files source ≡ Some file) (facts : Facts) (known : HasFacts files source facts)
      (found : List (Option Target))
      (are_found : AllZip (IsFound files source) facts.uses found)
      (one_target : (type_use : Use) (a b : Target) → IsTarget files source type_use a
      → IsTarget files source type_use b → a ≡ b) where
    own_occurs : (o : Occurrence) → Contains (own_occurrence home.id file.path ∷ []) o → Wanted o
    own_occurs o h = subst Wanted (only (own_occurrence home.id file.path) o h) (of_file at)

    imports_occur : (o : Occurrence) → Contains (each_from (at_import ids encoding text files) 0 facts.imports) o
        → Wanted o
    imports_occur o h =
        let g = given_at (at_import ids encoding text files) facts.imports o h in
        let there = if_so (has_path files g.item.path)
        (occurrence_over encoding text (package_of_path ids g.item.path) g.item.span (OfFile g.item.path)
        import_role ∷ []) o g.given in
        subst Wanted (only _ o there.1)
        (of_import {imported = g.item} known (contained facts.imports g.at g.item g.item_is)
        (path_from files g.item.path there.0))

    packages_occur : (o : Occurrence)
        → Contains (each_from (at_package ids.run encoding text facts) 0 facts.package_name) o → Wanted o
    packages_occur o h =
        let g = given_at (at_package ids.run encoding text facts) facts.package_name o h in
        subst Wanted (only _ o g.given) (of_package g.at {component = g.item} known g.item_is)

    declared_occur : (o : Occurrence)
        → Contains (each_from (at_declaration home encoding text chosen source facts) 0 facts.declarations) o → Wanted o
    declared_occur o h =
        let g = given_at (at_declaration home encoding text chosen source facts) facts.declarations o h in
        let kept = if_so (keeps chosen source g.at)
        (definition_over encoding text home facts g.item (detail_at facts g.at) ∷ []) o g.given
        in
        subst Wanted (only _ o kept.1)
        (of_declaration g.at {declared = g.item} (record { has_facts = known; numbered = g.item_is })
        (kept_from chosen source g.at kept.0))

    entity_occurs : (o : Occurrence) (type_use : Use) (target : Target) (index : ℕ) (component : Component)
        (part : Entity) → Contains facts.uses type_use → IsTarget files source type_use target
        → slice_get type_use.components index ≡ Some component → slice_get target.parts index ≡ Some part
        → is_shown chosen part ≡ true
        → (e : Option symbols.Entity) → entity_of files ids target.name part ≡ e
        → Contains (at_entity (package_of_part files ids part) encoding text component.span e) o → Wanted o
    entity_occurs o type_use target index component part listed is c p shown None e h = absurd (not_in_none o h)
    entity_occurs o type_use target index component part listed is c p shown (Some entity) e h =
        subst Wanted (only _ o h) (of_component {component = component} {part = part} {entity = entity}
        (record {
          facts = facts;
          type_use = type_use;
          target = target;
          index = index;
          has_facts = known;
          listed = listed;
          is_target = is;
          component_is = c;
          part_is = p;
          entity_is = named_from files ids target.name part entity e;
        }) (shown_from chosen part shown))

    part_occurs : (o : Occurrence) (type_use : Use) (target : Target) (index : ℕ) (component : Component)
        → Contains facts.uses type_use → IsTarget files source type_use target
        → slice_get type_use.components index ≡ Some component → (part : Option Entity)
        → slice_get target.parts index ≡ part
        → Contains (at_part ids encoding text files chosen target.name component.span part) o → Wanted o
    part_occurs o type_use target index component listed is c None p h = absurd (not_in_none o h)
    part_occurs o type_use target index component listed is c (Some part) p h =
        let shown = if_so (is_shown chosen part)
        (at_entity (package_of_part files ids part) encoding text component.span
        (entity_of files ids target.name part)) o h in
        entity_occurs o type_use target index component part listed is c p shown.0
        (entity_of files ids target.name part) refl shown.1

    found_occurs : (o : Occurrence) (type_use : Use) → Contains facts.uses type_use → (its : Option Target)
        → IsFound files source type_use its
        → Contains (at_target ids encoding text files chosen its type_use) o → Wanted o
    found_occurs o type_use listed None is h = absurd (not_in_none o h)
    found_occurs o type_use listed (Some target) is h =
        let k = given_at (at_component ids encoding text files chosen target) type_use.components o h in
        part_occurs o type_use target k.at k.item listed is k.item_is (slice_get target.parts k.at) refl k.given

    uses_occur : (o : Occurrence) → Contains (each_from (at_use ids encoding text files chosen found) 0 facts.uses) o
        → Wanted o
    uses_occur o h =
        let g = given_at (at_use ids encoding text files chosen found) facts.uses o h in
        let t = zip_at (IsFound files source) facts.uses found are_found g.at g.item g.item_is in
        let within = subst (λ (its : Option (Option Target)). Contains
        (at_target ids encoding text files chosen (found_at its) g.item) o) t.1 g.given in
        found_occurs o g.item (contained facts.uses g.at g.item g.item_is) t.0 t.2 within

    -- in one of the lists
    abbrev pub InLists : Occurrence → Type 0
    InLists o =
        (((Contains (own_occurrence home.id file.path ∷ []) o
        ⊎ Contains (each_from (at_import ids encoding text files) 0 facts.imports) o)
        ⊎ Contains (each_from (at_package ids.run encoding text facts) 0 facts.package_name) o)
        ⊎ Contains (each_from (at_declaration home encoding text chosen source facts) 0 facts.declarations) o)
        ⊎ Contains (each_from (at_use ids encoding text files chosen found) 0 facts.uses) o

    pub lists_occur : (o : Occurrence) → InLists o → Wanted o
    lists_occur o h = ⊎_elim
        (⊎_elim (⊎_elim (⊎_elim (own_occurs o) (imports_occur o)) (packages_occur o)) (declared_occur o))
        (uses_occur o) h

    here : (x : Occurrence) → Contains (x ∷ []) x
    here x = at_head x x [] refl

    is_found : (type_use : Use) (target : Target) → IsTarget files source type_use target → (its : Option Target)
        → IsFound files source type_use its → its ≡ Some target
    is_found type_use target is None unresolved = absurd (unresolved target.name is.owner is.names)
    is_found type_use target is (Some other) too = ap Some (one_target type_use other target too is)

    component_listed : (component : Component) (part : Entity) (entity : symbols.Entity)
        → NamesIn files ids source component part entity → IsShown chosen part
        → Contains (each_from (at_use ids encoding text files chosen found) 0 facts.uses)
        (occurrence_over encoding text (package_of_part files ids part) component.span entity no_role)
    component_listed component part entity names shown =
        let o = occurrence_over encoding text (package_of_part files ids part) component.span entity no_role in
        let used = subst (λ (f : Facts). Contains f.uses names.type_use)
        (same_facts files source names.facts facts names.has_facts known) names.listed in
        let k = contained_at facts.uses names.type_use used in
        let t = zip_at (IsFound files source) facts.uses found are_found k.0 names.type_use k.1 in
        let there = ap found_at t.1 ∙ is_found names.type_use names.target names.is_target t.0 t.2 in
        let entity_there : Contains
        (at_entity (package_of_part files ids part) encoding text component.span
        (entity_of files ids names.target.name part)) o =
        rw (named_to files ids names.target.name part entity names.entity_is) (here o) in
        let part_there : Contains
        (at_part ids encoding text files chosen names.target.name component.span
        (slice_get names.target.parts names.index)) o =
        rw names.part_is (so (is_shown chosen part) _ o (shown_to chosen part shown) entity_there) in
        let inside = gives_at (at_component ids encoding text files chosen names.target) names.type_use.components o
        names.index component names.component_is part_there in
        gives_at (at_use ids encoding text files chosen found) facts.uses o k.0 names.type_use k.1
        (subst (λ (its : Option Target). Contains (at_target ids encoding text files chosen its names.type_use) o)
        (sym there) inside)

    pub occurs_listed : (o : Occurrence) → Wanted o → InLists o
    occurs_listed _ (of_file {file = other} there) =
        let same = same_Some _ _ (sym at ∙ there) in
        inl (inl (inl (inl (at_head (own_occurrence home.id other.path) (own_occurrence home.id file.path) []
        (ap (λ (f : File). own_occurrence home.id f.path) same)))))
    occurs_listed _ (of_import {facts = other} {imported = imported} has listed there) =
        let k = contained_at facts.imports imported
        (subst (λ (f : Facts). Contains f.imports imported) (same_facts files source other facts has known) listed)
        in
        inl (inl (inl (inr (gives_at (at_import ids encoding text files) facts.imports _ k.0 imported k.1
        (so (has_path files imported.path) _ _ (path_to files imported.path there) (here _))))))
    occurs_listed _ (of_package {facts = other} index {component = component} has e) =
        let same = same_facts files source other facts has known in
        let there = ap (λ (f : Facts). slice_get f.package_name index) (sym same) ∙ e in
        inl (inl (inr (gives_at (at_package ids.run encoding text facts) facts.package_name _ index component there
        (at_head _ _ [] (ap (λ (f : Facts). occurrence_over encoding text ids.run component.span
        (package_at f (index + 1)) definition_role) (sym same))))))
    occurs_listed _ (of_declaration {facts = other} index {declared = declared} has kept) =
        let same = same_facts files source other facts has.has_facts known in
        let there = ap (λ (f : Facts). slice_get f.declarations index) (sym same) ∙ has.numbered in
        inl (inr (gives_at (at_declaration home encoding text chosen source facts) facts.declarations _ index declared
        there
        (so (keeps chosen source index) _ _ (kept_to chosen source index kept)
        (at_head _ _ [] (ap (λ (f : Facts). definition_over encoding text home f declared (detail_at f index))
        (sym same))))))
    occurs_listed _ (of_component {component = component} {part = part} {entity = entity} names shown) =
        inr (component_listed component part entity names shown)
