-- The entities of linked files: what occurs names one, and a symbol's text is that of one.
use Rattle.std.proofs.Common.{◌≡◌, ◌∙◌, ◌⊎◌, inl, inr, ℕ, zero, ◌+◌, ◌<◌, Some, List, [], ◌∷◌, ◌++◌, take, sym, ap}
use Rattle.std.proofs.Common.{refl, subst, arith, ⊎_elim, Bool, Option}
use Rattle.std.specs.Prelude.{Contains}
use Rattle.std.specs.List.{slice_get}
use Rattle.std.specs.Str.{bytes_eq}
use Rattle.std.proofs.lemmas.Bool.{cases_Bool, false≢true}
use Rattle.std.proofs.lemmas.Option.{slice_get_within}
use Rattle.std.proofs.lemmas.List.Elements.{Contains-append_cases}
use Rattle.std.proofs.lemmas.Slice.Eq.{bytes_eq-Decides}
use Rattle.basics.proofs.ListLemmas.{behind_it, only, in_nothing}
use Rattle.proto_lex.specs.declared.position.Encoding.{Encoding}
use Rattle.proto_decl.specs.Names.{components_of, prefix_of}
use Rattle.proto_decl.specs.Facts.{Facts}
use Rattle.proto_decl.specs.Laws.{component_names}
use Rattle.proto_decl.specs.declared.imports.Imported.{Imported}
use Rattle.proto_decl.specs.declared.declaration.Declaration.{Declaration}
use Rattle.proto_decl.specs.declared.uses.Component.{Component}
use Rattle.proto_visibility.specs.declared.lookup.Entity.{Entity as Part}
use Rattle.proto_visibility.specs.declared.lookup.Entity.TheVariants as link
use Rattle.proto_visibility.specs.Files.{File, HasFacts, HaveOrigins, HasPath, IsPresent, IsSource}
use Rattle.proto_visibility.specs.Reaches.{IsReachable, LinksOptions}
use Rattle.proto_visibility.specs.Sees.LeadsTo.{at_once}
use Rattle.proto_visibility.specs.Sees.SeesBy.{import}
use Rattle.proto_visibility.specs.Reaches.Reaches.{sees as by_seeing}
use Rattle.proto_visibility.specs.Reaches.IsReachable.{reached}
use Rattle.basics.proofs.FirstLemmas.{contained}
use Rattle.option_link.specs.declared.facts.OptionFacts.{OptionFacts}
use Rattle.option_link.proofs.PartLemmas.{entity_of_part}
use Rattle.proto_visibility.specs.Knows.{IsEntityOf as IsNamed}
use Rattle.proto_visibility.specs.Knows.IsEntityOf.{packaged as named_package, declared as named_declared}
use Rattle.scip_symbol.specs.Package.{Package, IsPackage}
use Rattle.scip_model.specs.Packages.{Packages, ArePackages, package_of_path, package_of_file, package_of_part}
use Rattle.scip_symbol.specs.Entities.{Entity, OfFile, OfPackage, OfDeclaration, IsEntity}
use Rattle.scip_symbol.specs.OneEntity.{IsWithoutClash, IsAmong}
use Rattle.scip_model.specs.Chosen.{Chosen}
use Rattle.scip_model.specs.Conditions.{HaveGoodPaths}
use Rattle.scip_model.specs.Named.{HasDeclaration, IsNamedAs, NamesIn, text_of, package_at, declaration_in}
use Rattle.scip_model.specs.Named.{home_of_file}
use Rattle.scip_model.specs.Occurs.{Occurs}
use Rattle.scip_model.specs.Occurs as rule
use Rattle.scip_model.specs.Options.{OccursInOptions}
use Rattle.scip_model.specs.Options.OccursInOptions.{of_option}
use Rattle.scip_model.proofs.NamedApartLemmas.{AreApart, AreReachable, both, in-first, in-second, one-text}
use Rattle.scip_model.proofs.NamedApartLemmas.{one-declared}
use Rattle.scip_model.proofs.NamedEntityLemmas.{package-is, declaration-is}
use Rattle.scip_model.proofs.ConditionLinkedLemmas.{source-reachable}
use Rattle.scip_model.proofs.PackageLemmas.{by_path, file_good}
use Rattle.scip_records.specs.declared.records.Occurrence.{Occurrence}
use Rattle.protoscip.specs.NameLaws.{LawsOfNames}
use Rattle.protoscip.specs.Headline.{IsEntityOf, of_file, of_package, of_declaration, package_of_entity}
use Rattle.protoscip.specs.Headline.{entity_of, entity_in_option, OccursAs, by_rule, in_option}
use Rattle.protoscip.proofs.HeadlineDottedLemmas.{same_front}

-- ---- texts in a list

has_text : (texts : List (List ℕ)) (text : List ℕ) → Contains texts text ⊎ (Contains texts text → ⊥)
has_text [] text = inr (λ there. in_nothing text there)
has_text (first ∷ texts) text = elim (cases_Bool (bytes_eq first text)) [
  | inl same ↦ inl (contained (first ∷ texts) zero text (ap Some ((bytes_eq-Decides first text).0 same)))
  | inr other ↦ ⊎_elim
      (λ there. inl (behind_it first texts text there))
      (λ none. inr (λ there. ⊎_elim
      (λ here. false≢true (sym other ∙ (bytes_eq-Decides first text).1 (only first text here)))
      none
      (Contains-append_cases (first ∷ []) texts text there)))
      (has_text texts text)
]

-- ---- what occurs

-- if names in options are asked for, those of the source are linked
abbrev pub LinkedIfAsked : (asked : Option (List OptionFacts)) → List File → (source : ℕ) → Type 0
LinkedIfAsked asked files source = (known : List OptionFacts) → asked ≡ Some known → LinksOptions files source

module _ (files : List File) (ids : Packages) (origins : HaveOrigins files) (laws : LawsOfNames) where
  abbrev Is : Entity → Type 0
  Is = IsEntityOf files ids

  -- the file that an import of a source names
  imported_is : (source : ℕ) → IsSource files source → (facts : Facts) (imported : Imported)
      → HasFacts files source facts → Contains facts.imports imported → HasPath files imported.path
      → Is (OfFile imported.path)
  imported_is source is facts imported has listed there = named there
    where
      is_reachable : (number : ℕ) (file : File) → slice_get files number ≡ Some file → file.path ≡ imported.path
          → IsPresent files number → IsReachable files number
      is_reachable number file at path present =
          reached is (by_seeing (import (record {
            facts = facts;
            import = imported;
            file = file;
            known = has;
            listed = listed;
            kind = refl;
            numbered = at;
            path = path;
          }) at_once)) present

      named : HasPath files imported.path → Is (OfFile imported.path)
      named there =
          let at = there.1 in
          let IsFile : List ℕ → Type 0 = λ path. Is (OfFile path) in
          subst IsFile at.2 (of_file there.0 (is_reachable there.0 at.0 at.1 at.2 there.2) at.1)

  -- a package of the file that declares what a use names
  named_package_is : {owner : ℕ} {facts : Facts} → IsReachable files owner → HasFacts files owner facts
      → (whole : List ℕ) (number : ℕ) (part : Part) → 0 < number
      → IsNamed owner facts (prefix_of whole number) number part → (count : ℕ) → part ≡ link.Package count
      → Is (OfPackage (take count (components_of whole)))
  named_package_is {owner} {facts} is_reachable has whole number _ one (named_package prefix) count same =
      let Of : List (List ℕ) → Type 0 = λ parts. Is (OfPackage parts) in
      let IsFront : ℕ → Type 0 = λ n. Is (OfPackage (take n (components_of whole))) in
      let few = prefix.1 in
      let within = prefix.2 in
      let front = same_front whole number prefix.0 facts.package_name one few (omega (arith, few, within))
      (laws.simple facts (origins owner facts has)) (sym prefix.3) in
      subst IsFront (count_of number count same) (subst Of (sym front) (of_package owner is_reachable has few within))
    where
      count_of : (a b : ℕ) → link.Package a ≡ link.Package b → a ≡ b
      count_of a b e = cc
  named_package_is is_reachable has whole number _ one (named_declared at full) count same = absurd (cc)

  named_file_reachable : {owner : ℕ} {facts : Facts} {name : List ℕ} {number : ℕ} (part : Part)
      → IsReachable files owner → IsNamed owner facts name number part → (file index : ℕ)
      → part ≡ link.Declared file index → IsReachable files file
  named_file_reachable _ is_reachable (named_package prefix) file index same = absurd (cc)
  named_file_reachable {owner} _ is_reachable (named_declared {index = its} at full) file index same =
      subst (IsReachable files) (file_of owner its file index same) is_reachable
    where
      file_of : (a b c d : ℕ) → link.Declared a b ≡ link.Declared c d → a ≡ c
      file_of a b c d e = cc

  -- what a name names that is declared in a reachable file
  part_is : {owner : ℕ} {facts : Facts} → IsReachable files owner → HasFacts files owner facts → (whole : List ℕ)
      (number : ℕ)
      (part : Part) → 0 < number → IsNamed owner facts (prefix_of whole number) number part → (entity : Entity)
      → IsNamedAs files ids whole part entity → Is entity
  part_is is_reachable has whole number (link.Package count) some named entity is =
      subst Is (sym is) (named_package_is is_reachable has whole number (link.Package count) some named count refl)
  part_is is_reachable has whole number (link.Declared file index) some named entity is =
      subst Is (sym is.is)
      (of_declaration file (named_file_reachable (link.Declared file index) is_reachable named file index refl) is.has)

  component_is : (source : ℕ) → IsSource files source → (component : Component) (part : Part) (entity : Entity)
      → NamesIn files ids source component part entity → Is entity
  component_is source is component part entity names =
      let target = names.is_target in
      let owned = target.names.owned in
      part_is (reached is (by_seeing owned.gives.sees) owned.present) target.known
      names.target.name (target.skipped + names.index + 1) part (omega arith)
      (target.named names.index part names.part_is) entity names.entity_is

  module _ (chosen : Chosen) (encoding : Encoding) (source : ℕ) (text : List ℕ) where
    -- what an occurrence of a source names is an entity of the files
    entity_is : IsSource files source → (o : Occurrence) (occurs : Occurs files chosen ids encoding source text o)
        → Is (entity_of occurs)
    entity_is is _ (rule.of_file numbered) =
        of_file source (source-reachable files source is) numbered
    entity_is is _ (rule.of_import {facts = facts} {imported = imported} has listed there) =
        imported_is source is facts imported has listed there
    entity_is is _ (rule.of_package {facts = facts} index {component = component} has stands) =
        of_package source (source-reachable files source is) has (omega arith)
        (omega (arith, slice_get_within facts.package_name index component stands))
    entity_is is _ (rule.of_declaration index has kept) =
        of_declaration source (source-reachable files source is) has
    entity_is is _ (rule.of_component {component = component} {part = part} {entity = entity} names shown) =
        component_is source is component part entity names

    -- so is what a component of a name in an option names
    option_entity_is : {known : List OptionFacts} → IsSource files source → LinksOptions files source → (o : Occurrence)
        (occurs : OccursInOptions files known chosen ids encoding source text o) → Is (entity_in_option occurs)
    option_entity_is {known} is links _ (of_option {part = part} {entity = entity} names shown) =
        let target = names.is_target in
        let parts = target.parts in
        let its = entity_of_part files parts names.index part names.part_is in
        part_is (laws.reachable files known source is links text names.option names.target target) parts.known
        parts.declaration.full_name its.0 part its.1 its.2 entity names.entity_is

    pub entity_is_as : (asked : Option (List OptionFacts)) → LinkedIfAsked asked files source → IsSource files source
        → (o : Occurrence) (entity : Entity) (is_definition : Bool)
        → OccursAs asked files chosen ids encoding source text o entity is_definition → Is entity
    entity_is_as asked links is o _ _ (by_rule occurs) = entity_is is o occurs
    entity_is_as asked links is o _ _ (in_option {known = known} same occurs) =
        option_entity_is is (links known same) o occurs

-- ---- entities and symbols

module _ (files : List File) (ids : Packages) (apart : AreApart files ids) (good : HaveGoodPaths files)
    (are : ArePackages ids) (laws : LawsOfNames) where
  is_entity : (entity : Entity) → IsEntityOf files ids entity → IsEntity entity
  is_entity _ (of_file number {file = file} is_reachable at) = good number file at
  is_entity _ (of_package number {count = count} {facts = facts} is_reachable has some few) =
      package-is facts count (laws.named facts (apart.origins number facts has)) some few
  is_entity _ (of_declaration number {index = index} {facts = facts} {declared = declared} is_reachable has) =
      let origin = apart.origins number facts has.has_facts in
      declaration-is (home_of_file files ids number) facts declared (laws.named facts origin) (laws.paths facts origin)
      (contained facts.declarations index declared has.numbered)

  -- a declaration is one of the facts of a reachable file
  record IsDeclared (entity : Entity) : Type 0 where
    number : ℕ
    facts : Facts
    reachable : AreReachable files number facts
    declared : Declaration
    listed : Contains facts.declarations declared
    is : declaration_in (home_of_file files ids number) facts declared ≡ entity

  -- no declaration, so that any declarations will do
  IsElse : Entity → Type 0
  IsElse entity = (declarations : List Entity) → IsAmong declarations entity

  kind_of : (entity : Entity) → IsEntityOf files ids entity → IsDeclared entity ⊎ IsElse entity
  unfolding IsElse
  kind_of _ (of_file number is_reachable at) = inr (λ declarations. tt)
  kind_of _ (of_package number is_reachable has some few) = inr (λ declarations. tt)
  kind_of _ (of_declaration number {index = index} {facts = facts} {declared = declared} is_reachable has) =
      inl (record {
        number = number;
        facts = facts;
        reachable = record { is_reachable = is_reachable; known = has.has_facts };
        declared = declared;
        listed = contained facts.declarations index declared has.numbered;
        is = refl;
      })

  -- the declarations of two reachable files
  abbrev both_of : {a b : Entity} → IsDeclared a → IsDeclared b → List Entity
  both_of a b = both files ids apart a.number b.number a.facts b.facts a.reachable b.reachable

  first_in : {a b : Entity} (x : IsDeclared a) (y : IsDeclared b) → IsAmong (both_of x y) a
  first_in x y = subst (IsAmong (both_of x y)) x.is
      (in-first files ids apart x.number y.number x.facts y.facts x.reachable y.reachable x.declared x.listed)

  second_in : {a b : Entity} (x : IsDeclared a) (y : IsDeclared b) → IsAmong (both_of x y) b
  second_in x y = subst (IsAmong (both_of x y)) y.is
      (in-second files ids apart x.number y.number x.facts y.facts x.reachable y.reachable y.declared y.listed)

  no_clash : IsWithoutClash []
  no_clash = record {
    holder = λ components outer inner some there. absurd (in_nothing (OfDeclaration components (outer ++ inner)) there);
    one_name = λ components outer step other there also same.
        absurd (in_nothing (OfDeclaration components (outer ++ step ∷ [])) there);
  }

  module _ (id its_id : Package) (is_package : IsPackage id) (is_fine : IsPackage its_id) where
    -- two entities, each of facts of a reachable file, or of none
    one_of : {a b : Entity} (x : IsDeclared a) (y : IsDeclared b) (entity other : Entity) → IsEntity entity
        → IsEntity other → IsAmong (both_of x y) entity → IsAmong (both_of x y) other
        → text_of id entity ≡ text_of its_id other → entity ≡ other
    one_of x y entity other its also here there same =
        one-text files ids apart x.number y.number x.facts y.facts x.reachable y.reachable id its_id is_package is_fine
        entity other its also here there same

    one_else : (entity other : Entity) → IsEntity entity → IsEntity other → IsElse entity → IsElse other
        → text_of id entity ≡ text_of its_id other → entity ≡ other
    unfolding text_of IsElse
    one_else entity other its also here there same =
        laws.symbols id its_id [] is_package is_fine no_clash entity other its also (here []) (there []) same

    one_by : (entity other : Entity) → IsEntity entity → IsEntity other → IsDeclared entity ⊎ IsElse entity
        → IsDeclared other ⊎ IsElse other
        → text_of id entity ≡ text_of its_id other → entity ≡ other
    unfolding IsElse
    one_by entity other its also (inl a) (inl b) same =
        one_of a b entity other its also (first_in a b) (second_in a b) same
    one_by entity other its also (inl a) (inr b) same =
        one_of a a entity other its also (first_in a a) (b (both_of a a)) same
    one_by entity other its also (inr a) (inl b) same =
        one_of b b entity other its also (a (both_of b b)) (first_in b b) same
    one_by entity other its also (inr a) (inr b) same = one_else entity other its also a b same

    one_text_one : (entity other : Entity) → IsEntityOf files ids entity → IsEntityOf files ids other
        → text_of id entity ≡ text_of its_id other → entity ≡ other
    one_text_one entity other its also same =
        one_by entity other (is_entity entity its) (is_entity other also) (kind_of entity its) (kind_of other also) same

  -- ---- a declaration's entity is its own

  pub own_entity : (number index other its : ℕ) (facts more : Facts) (a b : Declaration)
      → IsReachable files number → IsReachable files other
      → HasDeclaration files number index facts a → HasDeclaration files other its more b
      → declaration_in (home_of_file files ids number) facts a ≡ declaration_in (home_of_file files ids other) more b
      → (number ≡ other) × (index ≡ its)
  own_entity number index other its facts more a b is_reachable also has there same =
      one-declared files ids apart number other facts more
      (record { is_reachable = is_reachable; known = has.has_facts })
      (record { is_reachable = also; known = there.has_facts }) ids.run ids.run are.run are.run
      index its a b
      has.numbered there.numbered (ap (text_of ids.run) same)

  -- ---- an entity has one package

  -- the package of an entity is one of the packages
  home_good : (entity : Entity) (is : IsEntityOf files ids entity)
      → IsPackage (package_of_entity files ids is)
  home_good _ (of_file number is_reachable at) = file_good files ids number are
  home_good _ (of_package number is_reachable has some few) = are.run
  home_good _ (of_declaration number is_reachable has) = file_good files ids number are

  path_of : (a b : List ℕ) → OfFile a ≡ OfFile b → a ≡ b
  path_of a b e = cc

  -- of a file it goes by the path
  file_home : (path : List ℕ) (entity : Entity) (is : IsEntityOf files ids entity) → entity ≡ OfFile path
      → package_of_entity files ids is ≡ package_of_path ids path
  file_home path _ (of_file number {file = file} is_reachable at) same =
      by_path files ids number file at ∙ ap (package_of_path ids) (path_of file.path path same)
  file_home path _ (of_package number is_reachable has some few) same = absurd cc
  file_home path _ (of_declaration number is_reachable has) same = absurd cc

  -- of a package it is the run's
  package_home : (components : List (List ℕ)) (entity : Entity) (is : IsEntityOf files ids entity)
      → entity ≡ OfPackage components → package_of_entity files ids is ≡ ids.run
  package_home components _ (of_file number is_reachable at) same = absurd cc
  package_home components _ (of_package number is_reachable has some few) same = refl
  package_home components _ (of_declaration number is_reachable has) same = absurd cc

  -- of a declaration it is that of the file
  declaration_home : (number index : ℕ) (facts : Facts) (declared : Declaration)
      → IsReachable files number
      → HasDeclaration files number index facts declared → (entity : Entity) (is : IsEntityOf files ids entity)
      → entity ≡ declaration_in (home_of_file files ids number) facts declared
      → package_of_entity files ids is ≡ package_of_file files ids number
  declaration_home number index facts declared is_reachable has _ (of_file other also at) same = absurd cc
  declaration_home number index facts declared is_reachable has _ (of_package other also its some few) same = absurd cc
  declaration_home number index facts declared is_reachable has _
      (of_declaration other {index = its} {facts = more} {declared = declaration} also there) same =
      ap (package_of_file files ids)
      (own_entity other its number index more facts declaration declared also is_reachable there has same).0

  pub one_home : (entity other : Entity) (is : IsEntityOf files ids entity)
      (its : IsEntityOf files ids other)
      → entity ≡ other → package_of_entity files ids is ≡ package_of_entity files ids its
  one_home entity _ is (of_file number {file = file} is_reachable at) same =
      file_home file.path entity is same ∙ sym (by_path files ids number file at)
  one_home entity _ is (of_package number {count = count} {facts = facts} is_reachable has some few) same =
      package_home (component_names (take count facts.package_name)) entity is same
  one_home entity _ is
      (of_declaration number {index = index} {facts = facts} {declared = declared} is_reachable has) same =
      declaration_home number index facts declared is_reachable has entity is same

  -- entities of the files with one symbol are one
  pub one_entity : (entity other : Entity) (is : IsEntityOf files ids entity)
      (its : IsEntityOf files ids other)
      → text_of (package_of_entity files ids is) entity ≡ text_of (package_of_entity files ids its) other
      → entity ≡ other
  one_entity entity other is its same =
      one_text_one (package_of_entity files ids is) (package_of_entity files ids its) (home_good entity is)
      (home_good other its) entity other is its same

  -- and have one symbol
  pub one_symbol : (entity other : Entity) (is : IsEntityOf files ids entity)
      (its : IsEntityOf files ids other)
      → entity ≡ other
      → text_of (package_of_entity files ids is) entity ≡ text_of (package_of_entity files ids its) other
  one_symbol entity other is its same =
      ap (λ (id : Package). text_of id entity) (one_home entity other is its same)
      ∙ ap (text_of (package_of_entity files ids its)) same

  -- ---- the symbol of an occurrence

  -- the package of what a name names that is declared in a reachable file
  part_home : {owner : ℕ} {facts : Facts} → IsReachable files owner → (whole front : List ℕ) (number : ℕ)
      (part : Part) → IsNamed owner facts front number part → (entity : Entity)
      → IsNamedAs files ids whole part entity → (is : IsEntityOf files ids entity)
      → package_of_part files ids part ≡ package_of_entity files ids is
  part_home is_reachable whole front number (link.Package count) named entity its is =
      sym (package_home (take count (components_of whole)) entity is its)
  part_home is_reachable whole front number (link.Declared file index) named entity its is =
      let reachable_too =
      named_file_reachable files ids apart.origins laws (link.Declared file index) is_reachable named file
      index refl in
      sym (declaration_home file index its.facts its.declaration reachable_too its.has entity is its.is)

  module _ (source : ℕ) where
    component_home : IsSource files source → (component : Component) (part : Part) (entity : Entity)
        → NamesIn files ids source component part entity → (is : IsEntityOf files ids entity)
        → package_of_part files ids part ≡ package_of_entity files ids is
    component_home is_source component part entity names is =
        let target = names.is_target in
        let owned = target.names.owned in
        part_home (reached is_source (by_seeing owned.gives.sees) owned.present)
        names.target.name _ _ part (target.named names.index part names.part_is) entity names.entity_is is

    -- it is that of the entity, in its package
    symbol_is : IsSource files source → (chosen : Chosen) (encoding : Encoding) (text : List ℕ) (o : Occurrence)
        (occurs : Occurs files chosen ids encoding source text o) (is : IsEntityOf files ids (entity_of occurs))
        → o.symbol ≡ text_of (package_of_entity files ids is) (entity_of occurs)
    symbol_is is_source chosen encoding text _ (rule.of_file {file = file} numbered) is =
        ap (λ (id : Package). text_of id (OfFile file.path))
        (by_path files ids source file numbered ∙ sym (file_home file.path (OfFile file.path) is refl))
    symbol_is is_source chosen encoding text _ (rule.of_import {imported = imported} has listed there) is =
        ap (λ (id : Package). text_of id (OfFile imported.path))
        (sym (file_home imported.path (OfFile imported.path) is refl))
    symbol_is is_source chosen encoding text _ (rule.of_package {facts = facts} index has stands) is =
        let entity = package_at facts (index + 1) in
        ap (λ (id : Package). text_of id entity)
        (sym (package_home (component_names (take (index + 1) facts.package_name)) entity is refl))
    symbol_is is_source chosen encoding text _
        (rule.of_declaration {facts = facts} index {declared = declared} has kept) is =
        let entity = declaration_in (home_of_file files ids source) facts declared in
        ap (λ (id : Package). text_of id entity)
        (sym (declaration_home source index facts declared
        (source-reachable files source is_source) has entity is refl))
    symbol_is is_source chosen encoding text _
        (rule.of_component {component = component} {part = part} {entity = entity} names shown) is =
        ap (λ (id : Package). text_of id entity) (component_home is_source component part entity names is)

    -- so is that of a component of a name in an option
    option_symbol_is : {known : List OptionFacts} → IsSource files source → LinksOptions files source
        → (chosen : Chosen) (encoding : Encoding) (text : List ℕ) (o : Occurrence)
        (occurs : OccursInOptions files known chosen ids encoding source text o)
        (is : IsEntityOf files ids (entity_in_option occurs))
        → o.symbol ≡ text_of (package_of_entity files ids is) (entity_in_option occurs)
    option_symbol_is {known} is_source links chosen encoding text _
        (of_option {part = part} {entity = entity} names shown) is =
        let target = names.is_target in
        let parts = target.parts in
        ap (λ (id : Package). text_of id entity)
        (part_home (laws.reachable files known source is_source links text names.option names.target target)
        parts.declaration.full_name _ _ part
        (entity_of_part files parts names.index part names.part_is).2 entity names.entity_is is)

    pub symbol_is_as : (asked : Option (List OptionFacts)) → LinkedIfAsked asked files source → IsSource files source
        → (chosen : Chosen) (encoding : Encoding) (text : List ℕ) (o : Occurrence)
        (entity : Entity) (is_definition : Bool)
        → OccursAs asked files chosen ids encoding source text o entity is_definition
        → (is : IsEntityOf files ids entity) → o.symbol ≡ text_of (package_of_entity files ids is) entity
    symbol_is_as asked links is_source chosen encoding text o _ _ (by_rule occurs) is =
        symbol_is is_source chosen encoding text o occurs is
    symbol_is_as asked links is_source chosen encoding text o _ _ (in_option {known = known} same occurs) is =
        option_symbol_is is_source (links known same) chosen encoding text o occurs is
