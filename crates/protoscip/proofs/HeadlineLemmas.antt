-- Queries over the index of a tree answer exactly the occurrences of the entity asked.
use Rattle.std.proofs.Common.{◌≡◌, ◌∙◌, ◌↔◌, ℕ, List, Option, Result, Ok, Err, ap, sym, subst}
use Rattle.std.proofs.Common.{refl, None, Some, inl, inr}
use Rattle.std.specs.Prelude.{Bool, true, false, ◌&&◌, Contains}
use Rattle.std.specs.declared.cmp.Ordering.{Ordering}
use Rattle.std.specs.Result.{result_map_both}
use Rattle.proto_lex.specs.declared.position.Encoding.{Encoding}
use Rattle.proto_decl.specs.Values.{Seen}
use Rattle.proto_decl.specs.Facts.{Facts}
use Rattle.proto_decl.specs.declared.uses.Use.{Use}
use Rattle.proto_visibility.specs.Files.{File, HasFacts, IsSource, HaveOrigins, HaveOwnPaths}
use Rattle.proto_visibility.specs.Kept.{Omissions}
use Rattle.proto_visibility.proofs.DuplicateLemmas.{clear_each}
use Rattle.proto_visibility.proofs.KeptAmongLemmas.{origin}
use Rattle.proto_visibility.proofs.KeptLemmas.{kept_are_clear}
use Rattle.basics.proofs.FirstLemmas.{contained}
use Rattle.index_hooks.specs.declared.choice.Choice.{Choice}
use Rattle.source_tree.specs.Files.{TreeFile}
use Rattle.source_tree.proofs.TreeLemmas.{mapped_from}
use Rattle.scip_symbol.specs.Package.{Package}
use Rattle.scip_build.specs.FactForms.{form_of}
use Rattle.scip_symbol.specs.Path.{IsGoodPath}
use Rattle.scip_model.specs.Packages.{Packages, ArePackages}
use Rattle.scip_symbol.specs.Entities.{Entity}
use Rattle.scip_model.specs.Chosen.{Chosen}
use Rattle.scip_model.specs.Conditions.{HaveGoodPaths, IsResolved, AllResolve}
use Rattle.scip_model.specs.Indexes.{HasDocumentWith, IsAscendingListOf}
use Rattle.scip_model.specs.Named.{text_of}
use Rattle.scip_model.specs.Occurs.{Occurs}
use Rattle.scip_model.specs.Occurs as rule
use Rattle.scip_model.specs.Options.{AllLinkOptions, OccursInOptions, OccursWith}
use Rattle.scip_model.specs.Options.OccursInOptions.{of_option}
use Rattle.option_link.specs.declared.facts.OptionFacts.{OptionFacts}
use Rattle.scip_model.proofs.NamedApartLemmas.{AreApart}
use Rattle.scip_records.specs.declared.records.Document.{Document}
use Rattle.scip_records.specs.declared.records.Index.{Index}
use Rattle.scip_records.specs.declared.records.Occurrence.{Occurrence}
use Rattle.scip_query.specs.OccurrenceAt.{Subject, subject_at, subject_found, subject_of}
use Rattle.scip_query.specs.References.{is_local, is_of, is_definition, references_of, definitions_of, references_at}
use Rattle.scip_query.specs.References.{definitions_at}
use Rattle.scip_query.specs.Sites.{Site, Numbered}
use Rattle.scip_build.specs.Builds.{IsBuilt}
use Rattle.scip_build.specs.Documents.{asks_in, texts_of}
use Rattle.scip_build.specs.Files.{ReadFile}
use Rattle.scip_build.specs.Keeping.{linked_of}
use Rattle.scip_build.specs.Linking.{linked_files}
use Rattle.scip_build.specs.Placing.{document_at}
use Rattle.scip_build.specs.declared.built.Built.{Built}
use Rattle.scip_build.specs.declared.faulty.Faulty.{Faulty}
use Rattle.scip_build.specs.declared.faulty.Faulty.TheVariants.{Refuse, Skip}
use Rattle.scip_build.specs.declared.settings.Settings.{Settings}
use Rattle.scip_build.proofs.KeptTreeLemmas.{linked_is}
use Rattle.scip_build.proofs.LinkedOptionLemmas.{asks_if}
use Rattle.scip_build.proofs.LinkingLemmas.{own_paths}
use Rattle.protoscip.specs.Headline.{IsEntityOf, package_of_entity, entity_of, entity_in_option, defines, OccursAs}
use Rattle.protoscip.specs.Headline.{by_rule, in_option, IsSite, site_cmp, IsOf}
use Rattle.protoscip.specs.Headline.{IsSiteOf, IsDefinitionOf}
use Rattle.protoscip.specs.Headline.{IsAt, Answers, AnswersNames, Headline, linked, ids}
use Rattle.protoscip.specs.Headline.{asked as asked_of}
use Rattle.protoscip.specs.NameLaws.{LawsOfNames}
use Rattle.protoscip.proofs.HeadlineEntityLemmas.{LinkedIfAsked, entity_is_as, symbol_is_as, one_entity, own_entity}
use Rattle.protoscip.proofs.HeadlineEntityLemmas.{one_symbol}
use Rattle.protoscip.proofs.HeadlineLinkedLemmas.{EachLinksOptions, linked_origin, have_origins, good_paths}
use Rattle.protoscip.proofs.HeadlineLinkedLemmas.{link_options}
use Rattle.protoscip.proofs.UseLawLemmas.{component_names, option_component_names}
use Rattle.protoscip.proofs.HeadlineSiteLemmas.{IsAsked, asked, of_symbol, defining, just}

-- no symbol of an entity is local
not_local : (id : Package) (entity : Entity) → is_local (text_of id entity) ≡ false
unfolding text_of
not_local id entity = refl

-- the role of what occurs is that of the rule
role_is : {files : List File} {chosen : Chosen} {ids : Packages} {encoding : Encoding} {source : ℕ} {text : List ℕ}
    {o : Occurrence}
    → (occurs : Occurs files chosen ids encoding source text o) → is_definition o ≡ defines occurs
role_is (rule.of_file numbered) = refl
role_is (rule.of_import has listed there) = refl
role_is (rule.of_package index has stands) = refl
role_is (rule.of_declaration index has kept) = refl
role_is (rule.of_component names shown) = refl

option_role_is : {files : List File} {known : List OptionFacts} {chosen : Chosen} {ids : Packages} {encoding : Encoding}
    {source : ℕ} {text : List ℕ} {o : Occurrence}
    → OccursInOptions files known chosen ids encoding source text o → is_definition o ≡ false
option_role_is (of_option names shown) = refl

role_is_as : {asked : Option (List OptionFacts)} {files : List File} {chosen : Chosen} {ids : Packages}
    {encoding : Encoding} {source : ℕ} {text : List ℕ} {o : Occurrence} {entity : Entity} {bit : Bool}
    → OccursAs asked files chosen ids encoding source text o entity bit → is_definition o ≡ bit
role_is_as (by_rule occurs) = role_is occurs
role_is_as (in_option same occurs) = option_role_is occurs

-- what occurs names something
module _ (files : List File) (chosen : Chosen) (ids : Packages) (encoding : Encoding) (source : ℕ) (text : List ℕ)
    (o : Occurrence) where
  record NamesSome (asked : Option (List OptionFacts)) : Type 0 where
    entity : Entity
    bit : Bool
    occurs : OccursAs asked files chosen ids encoding source text o entity bit

  names_some : (asked : Option (List OptionFacts)) → OccursWith asked files chosen ids encoding source text o
      → NamesSome asked
  names_some None occurs = record { entity = entity_of occurs; bit = defines occurs; occurs = by_rule occurs }
  names_some (Some known) (inl occurs) =
      record { entity = entity_of occurs; bit = defines occurs; occurs = by_rule occurs }
  names_some (Some known) (inr apart) =
      record { entity = entity_in_option apart.occurs; bit = false; occurs = in_option refl apart.occurs }

-- a list of one set is that of the same, told otherwise
alike : {X : Type 0} {cmp : X → X → Ordering} {P Q : X → Type 0} {list : List X} → ((x : X) → P x ↔ Q x)
    → IsAscendingListOf cmp P list → IsAscendingListOf cmp Q list
alike same of = record {
  exact = λ x. (λ there. (same x).0 ((of.exact x).0 there), λ its. (of.exact x).1 ((same x).1 its));
  ascends = of.ascends;
}

-- a use names a type where faults are refused, or where it is said to
resolves : {allows : Seen → Choice → Type 0} {settings : Settings} {tree : List TreeFile} {result : Built}
    (built : IsBuilt allows settings tree result) (source : ℕ) (facts : Facts) (type_use : Use)
    → IsSource (linked built) source
    → HasFacts (linked built) source facts → Contains facts.uses type_use
    → (settings.faulty ≡ Skip → IsResolved (linked built) source type_use)
    → IsResolved (linked built) source type_use
resolves {settings = settings} built source facts type_use is has listed named = by settings.faulty refl
  where
    by : (faulty : Faulty) → settings.faulty ≡ faulty
        → IsResolved (linked built) source type_use
    by Skip skip = named skip
    by Refuse refuse =
        let good = built.of_files.refused refuse in
        let Resolve : List ReadFile → Type 0 = λ rs. AllResolve (linked_files rs) in
        subst Resolve (sym good.all_kept) good.resolved source facts type_use is has listed

-- what holds of all files holds of them as they are linked
kept_origins : (omissions : Omissions) (all : List ReadFile) → HaveOrigins (linked_files all)
    → HaveOrigins (linked_files (linked_of omissions all))
kept_origins omissions all origins number facts has =
    let o = linked_origin omissions all number has.file has.numbered in
    origins (origin (linked_files all) omissions number) facts (record {
      file = o.original;
      numbered = o.numbered;
      known = o.facts ∙ has.known;
    })

kept_paths : (omissions : Omissions) (all : List ReadFile) → HaveGoodPaths (linked_files all)
    → HaveGoodPaths (linked_files (linked_of omissions all))
kept_paths omissions all good number file at =
    let o = linked_origin omissions all number file at in
    subst IsGoodPath o.path (good (origin (linked_files all) omissions number) o.original o.numbered)

kept_links : (omissions : Omissions) (all : List ReadFile) → EachLinksOptions (linked_files all)
    → EachLinksOptions (linked_files (linked_of omissions all))
kept_links omissions all links number file at =
    let o = linked_origin omissions all number file at in
    sym o.links ∙ links (origin (linked_files all) omissions number) o.original o.numbered

module _ {allows : Seen → Choice → Type 0} {settings : Settings} {tree : List TreeFile} {result : Built}
    (built : IsBuilt allows settings tree result) (apart : AreApart (linked built) (ids built))
    (good : HaveGoodPaths (linked built)) (are_packages : ArePackages (ids built)) (laws : LawsOfNames)
    (links : asks_in settings ≡ true → AllLinkOptions (linked built)) where
  Files : List File
  Files = linked built

  -- ---- the entity of an occurrence

  source_of : (document : Document)
      (has : HasDocumentWith (asked_of built) (linked built)
      (texts_of built.of_files.parsed) result.choices (ids built) settings.encoding document)
      → IsSource (linked built) has.source
  source_of document has = record {
    file = has.is.file;
    numbered = has.is.numbered;
    source = has.is.is_source;
    present = has.is.present;
  }

  links_of : (source : ℕ) → IsSource (linked built) source → LinkedIfAsked (asked_of built) (linked built) source
  links_of source is known same = links (asks_if (asks_in settings) built.of_files.parsed known same) source is

  of_files : (entity : Entity) (document : Document) (o : Occurrence) → IsOf built entity document o
      → IsEntityOf (linked built) (ids built) entity
  of_files entity document o is =
      entity_is_as (linked built) (ids built) apart.origins laws result.choices settings.encoding is.of_source.source
      is.of_source.text (asked_of built) (links_of is.of_source.source (source_of is.plain is.of_source))
      (source_of is.plain is.of_source) o entity is.defines_it is.occurs

  -- the text of an entity's symbol
  symbol_in : (entity : Entity) → IsEntityOf (linked built) (ids built) entity → List ℕ
  symbol_in entity of = text_of (package_of_entity (linked built) (ids built) of) entity

  symbol_of : (entity : Entity) (of : IsEntityOf (linked built) (ids built) entity)
      (document : Document) (o : Occurrence) → IsOf built entity document o → o.symbol ≡ symbol_in entity of
  unfolding symbol_in
  symbol_of entity of document o is =
      symbol_is_as (linked built) (ids built) apart good are_packages laws is.of_source.source (asked_of built)
      (links_of is.of_source.source (source_of is.plain is.of_source)) (source_of is.plain is.of_source) result.choices
      settings.encoding is.of_source.text o entity is.defines_it
      is.occurs of

  -- a document of the index is one of a source, where the settings place it
  plain_of : (document : Document) → Contains result.index.documents document
      → (plain : Document) × Contains built.plain.documents plain × (document_at settings.at plain ≡ document)
  plain_of document listed =
      mapped_from (document_at settings.at) built.plain.documents document
      (subst (λ (i : Index). Contains i.documents document) built.placed listed)

  entity_at : (document : Document) (o : Occurrence) → Contains result.index.documents document
      → Contains document.occurrences o → (entity : Entity) × IsOf built entity document o
  entity_at document o listed there =
      let of = plain_of document listed in
      let has = (built.of_files.index.documents.exact of.0).0 of.1 in
      let names = names_some (linked built) result.choices (ids built) settings.encoding has.source has.text o
      (asked_of built)
      ((has.is.occurrences.exact o).0 (subst (λ (d : Document). Contains d.occurrences o) (sym of.2) there)) in (
        names.entity,
        record {
          plain = of.0;
          of_source = has;
          placed = sym of.2;
          defines_it = names.bit;
          occurs = names.occurs;
        },
      )

  same_entity : (entity other : Entity) (is : IsEntityOf (linked built) (ids built) entity)
      (its : IsEntityOf (linked built) (ids built) other) → symbol_in entity is ≡ symbol_in other its
      → entity ≡ other
  unfolding symbol_in
  same_entity = one_entity (linked built) (ids built) apart good are_packages laws

  -- occurrences with one symbol are of one entity
  by_symbol : (entity other : Entity) (document another : Document) (o also : Occurrence) → IsOf built entity document o
      → IsOf built other another also → o.symbol ≡ also.symbol → other ≡ entity
  by_symbol entity other document another o also is its same =
      let other_is = of_files other another also its in
      let own_is = of_files entity document o is in
      same_entity other entity other_is own_is
      (sym (symbol_of other other_is another also its) ∙ (sym same ∙ symbol_of entity own_is document o is))

  each : (site : Site) → IsSite result.index site
      → (entity : Entity) × IsEntityOf (linked built) (ids built) entity × IsSiteOf built entity site
      × ((other : Entity) → IsSiteOf built other site → other ≡ entity)
  each site there =
      let listed = contained result.index.documents site.place.document site.document there.document_is in
      let of = entity_at site.document site.occurrence listed
      (contained site.document.occurrences site.place.occurrence site.occurrence there.occurrence_is) in (
        of.0,
        of_files of.0 site.document site.occurrence of.1,
        (there, of.1),
        λ other is. by_symbol of.0 other site.document site.document site.occurrence site.occurrence of.1 is.1 refl,
      )

  -- a site has the definition's role just where it defines
  role : (entity : Entity) (site : Site) → (of : IsSiteOf built entity site)
      → is_definition site.occurrence ≡ of.1.defines_it
  role entity site of = role_is_as of.1.occurs

  by_role : (entity : Entity) (site : Site) → (of : IsSiteOf built entity site) → (is_definition site.occurrence ≡ true)
      ↔ (of.1.defines_it ≡ true)
  by_role entity site of =
      let bit = is_definition site.occurrence in
      let rules = of.1.defines_it in
      let same : bit ≡ rules = role entity site of in
      (λ e. sym {a = bit} {b = rules} same ∙ e, λ e. same ∙ e)

  -- ---- the sites of what is asked

  module _ (path : List ℕ) (line column : ℕ) where
    -- the sites with the symbol asked are those of the entity there
    of_entity : (subject : Subject) (of : IsAsked result.index path line column subject) (entity : Entity)
        → IsOf built entity of.named.document of.occurrence → (site : Site)
        → (IsSite result.index site × (site.occurrence.symbol ≡ subject.symbol)) ↔ IsSiteOf built entity site
    of_entity subject of entity is site = (
      λ both.
          let its = each site both.0 in
          let same = by_symbol entity its.0 of.named.document site.document of.occurrence site.occurrence is its.2.1
          (of.symbol ∙ sym both.1) in
          (both.0, subst (λ (e : Entity). IsOf built e site.document site.occurrence) same its.2.1),
      λ its. (
        its.0,
        symbol_of entity (of_files entity of.named.document of.occurrence is) site.document site.occurrence its.1
            ∙ (sym (symbol_of entity (of_files entity of.named.document of.occurrence is) of.named.document
            of.occurrence is) ∙ of.symbol),
      ),
    )

    is_global : (subject : Subject) (of : IsAsked result.index path line column subject) (entity : Entity)
        → IsOf built entity of.named.document of.occurrence → is_local subject.symbol ≡ false
    unfolding symbol_in
    is_global subject of entity is =
        let its = of_files entity of.named.document of.occurrence is in
        ap is_local (sym of.symbol ∙ symbol_of entity its of.named.document of.occurrence is)
        ∙ not_local (package_of_entity (linked built) (ids built) its) entity

    at_position : (subject : Subject) (of : IsAsked result.index path line column subject) (entity : Entity)
        → IsOf built entity of.named.document of.occurrence → IsAt built path line column entity
    at_position subject of entity is =
        record {
          named = of.named;
          occurrence = of.occurrence;
          document_is = of.document_is;
          stands = of.stands;
          is = is;
        }

    -- a position with an entity has a subject
    subject_of_entity : (entity : Entity) → IsAt built path line column entity
        → (subject : Subject) × (subject_at result.index path (record { line = line; column = column }) ≡ Ok subject)
    subject_of_entity entity at = (
      record { asked = at.named; symbol = at.occurrence.symbol },
      ap (λ (named : Option Numbered). subject_of named (record { line = line; column = column })) at.document_is
          ∙ ap (subject_found at.named) at.stands,
    )

    -- an answer by what is found for the subject
    answers : {E : Type 0} (IsWanted : Entity → Site → Type 0) (sites : Subject → List Site) (r : Result Subject E)
        → ((subject : Subject) → r ≡ Ok subject
        → (entity : Entity) × IsAt built path line column entity
        × IsAscendingListOf site_cmp (IsWanted entity) (sites subject))
        → ((entity : Entity) → IsAt built path line column entity → (subject : Subject) × (r ≡ Ok subject))
        → Answers built IsWanted path line column (result_map_both sites (λ miss. miss) r)
    answers IsWanted sites (Ok subject) some none = some subject refl
    answers IsWanted sites (Err miss) some none = λ entity at. let of = none entity at in absurd (never of.0 of.1)
      where
        never : (subject : Subject) → Err miss ≡ Ok subject → ⊥
        never subject e = cc

    references : Answers built (IsSiteOf built) path line column
        (references_at result.index path (record { line = line; column = column }))
    references = answers (IsSiteOf built) (references_of result.index)
        (subject_at result.index path (record { line = line; column = column }))
        (λ subject is.
        let of = asked result.index path line column subject is in
        let entity = entity_at of.named.document of.occurrence of.listed of.there in
        let global = is_global subject of entity.0 entity.1 in
        let Same : Site → Type 0 = λ site. site.occurrence.symbol ≡ subject.symbol in (
          entity.0,
          at_position subject of entity.0 entity.1,
          alike (λ site. of_entity subject of entity.0 entity.1 site)
              (just result.index (is_of subject) Same (of_symbol subject global)),
        ))
        subject_of_entity

    definitions : Answers built (IsDefinitionOf built) path line column
        (definitions_at result.index path (record { line = line; column = column }))
    definitions = answers (IsDefinitionOf built) (definitions_of result.index)
        (subject_at result.index path (record { line = line; column = column }))
        (λ subject is.
        let of = asked result.index path line column subject is in
        let entity = entity_at of.named.document of.occurrence of.listed of.there in
        let global = is_global subject of entity.0 entity.1 in
        let Same : Site → Type 0 =
        λ site. (site.occurrence.symbol ≡ subject.symbol) × (is_definition site.occurrence ≡ true) in (
          entity.0,
          at_position subject of entity.0 entity.1,
          alike
              (λ site.
              let by_entity = of_entity subject of entity.0 entity.1 site in (
                λ both. let its = by_entity.0 (both.0, both.1.0) in (its, (by_role entity.0 site its).0 both.1.1),
                λ its. let both = by_entity.1 its.0 in (both.0, (both.1, (by_role entity.0 site its.0).1 its.1)),
              ))
              (just result.index (λ s. is_of subject s && is_definition s.occurrence) Same (defining subject global)),
        ))
        subject_of_entity

  pub answers_names : AnswersNames built
  unfolding symbol_in
  answers_names = record {
    used = λ source facts type_use component is has listed among named.
        component_names (linked built) (ids built) source laws.targets apart.origins facts type_use component is
        has listed among (resolves built source facts type_use is has listed named);
    in_options = λ known file text span is has.
        option_component_names (linked built) (ids built) file laws.in_options apart.origins known text span has;
    each = each;
    symbol = λ entity site of is. symbol_of entity of site.document site.occurrence is.1;
    one_to_one = λ entity other is its. (
      same_entity entity other is its,
      one_symbol (linked built) (ids built) apart good are_packages laws entity other is its,
    );
    own = own_entity (linked built) (ids built) apart good are_packages laws;
    role = role;
    references = references;
    definitions = definitions;
  }

pub headline : (allows : Seen → Choice → Type 0) → LawsOfNames → Headline allows
headline allows laws settings tree is_tree are_packages recorded bytes indexed =
    let built = indexed.built in
    let parsed = built.of_files.parsed in
    let kept = built.of_files.kept in
    let Origins : List ReadFile → Type 0 = λ rs. HaveOrigins (linked_files rs) in
    let Good : List ReadFile → Type 0 = λ rs. HaveGoodPaths (linked_files rs) in
    let own_all = own_paths settings.faulty settings.dialect (form_of settings) allows tree built.all built.read
    is_tree.own in
    let of_all = have_origins settings.faulty settings.dialect (form_of settings) allows tree built.all built.read in
    let good_all = good_paths settings.faulty settings.dialect (form_of settings) allows tree built.all built.read
    is_tree.good in
    let origins = subst Origins (sym kept.kept) (kept_origins kept.omissions built.all of_all) in
    let good = subst Good (sym kept.kept) (kept_paths kept.omissions built.all good_all) in
    let Link : List ReadFile → Type 0 = λ rs. EachLinksOptions (linked_files rs) in
    let links : asks_in settings ≡ true → AllLinkOptions (linked built) = λ asks source is.
    record {
      file = is.file;
      numbered = is.numbered;
      links = subst Link (sym kept.kept) (kept_links kept.omissions built.all
          (link_options settings.faulty settings.dialect (form_of settings) allows tree built.all built.read asks))
          source is.file is.numbered;
    } in
    let own_linked =
    (kept_are_clear settings.duplicates (linked_files built.all) kept.omissions kept.left_out own_all).0 in
    let Own : List ReadFile → Type 0 = λ rs. HaveOwnPaths (linked_files rs) in
    let own = subst Own (sym kept.kept) (subst HaveOwnPaths (sym (linked_is kept.omissions built.all)) own_linked) in
    let apart : AreApart (linked built) (ids built) = record {
      own = own;
      origins = origins;
      clear = (clear_each settings.duplicates (linked built) built.of_files.clear).clear;
      repeated = built.of_files.are_repeated;
      one_name = laws.one_name;
      spelled = record { named = laws.named; paths = laws.paths; held = laws.held };
      symbols = laws.symbols;
    } in
    let are : ArePackages (ids built) = record { run = are_packages.run; roots = are_packages.roots } in
    record {
      decodes = indexed.spelled.decodes;
      alone = indexed.spelled.alone;
      built = built;
      names = answers_names built apart good are laws links;
    }
