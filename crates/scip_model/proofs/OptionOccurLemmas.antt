-- What occurs of names in options: by name, by option, and of a source.
use Rattle.std.proofs.Common.{◌≡◌, ◌∙◌, sym, ap, refl, subst, ◌↔◌, inl, inr, ℕ, ◌+◌, ◌≤◌, true, Option, None, Some, List, []}
use Rattle.std.proofs.Common.{◌++◌, length, map, ⊎_elim, arith}
use Rattle.std.specs.Prelude.{MatchOption}
use Rattle.std.specs.List.{Contains, slice_get}
use Rattle.std.specs.declared.cmp.Ordering.TheVariants.{Equal}
use Rattle.std.specs.List.Sorted.{IsStrictlySortedBy}
use Rattle.std.specs.Cmp.{Equal-is}
use Rattle.std.proofs.lemmas.Cmp.{eq_by_cmp_equiv}
use Rattle.std.proofs.lemmas.List.Elements.{Contains-append_left, Contains-append_right, Contains-append_cases}
use Rattle.std.proofs.lemmas.Option.{none-some, same_Some, slice_get_within}
use Rattle.basics.proofs.FirstLemmas.{contained, contained_at}
use Rattle.basics.proofs.ListLemmas.{only}
use Rattle.proto_lex.specs.declared.span.Span.{Span}
use Rattle.proto_lex.specs.declared.position.Encoding.{Encoding}
use Rattle.proto_options.specs.declared.names.OptionName.{OptionName}
use Rattle.proto_options.specs.declared.options.FileOption.{FileOption}
use Rattle.proto_decl.specs.declared.declaration.Declaration.{Declaration}
use Rattle.proto_visibility.specs.Files.{File}
use Rattle.proto_visibility.specs.declared.lookup.Entity.{Entity}
use Rattle.option_link.specs.declared.facts.OptionFacts.{OptionFacts}
use Rattle.option_link.specs.declared.place.DeclaredPlace.{DeclaredPlace}
use Rattle.option_link.specs.declared.target.OptionTarget.{OptionTarget}
use Rattle.option_link.specs.OptionNames.{IsOptionTarget}
use Rattle.scip_records.specs.declared.records.Occurrence.{Occurrence}
use Rattle.scip_symbol.specs.Entities as symbols
use Rattle.scip_model.specs.declared.document_plan.PlannedOccurrence.{PlannedOccurrence}
use Rattle.scip_model.specs.Chosen.{Chosen}
use Rattle.scip_model.specs.Indexes.{IsAscendingListOf}
use Rattle.scip_model.specs.Named.{IsNamedAs}
use Rattle.scip_model.specs.OccurrenceOrder.{occurrence_cmp}
use Rattle.scip_model.specs.Occurs.{Occurs, no_role, occurrence_over}
use Rattle.scip_model.specs.Options.{OccursInOptions, OccursWith}
use Rattle.scip_model.specs.Options.OccursInOptions.{of_option}
use Rattle.scip_model.specs.Packages.{Packages, package_of_part}
use Rattle.scip_model.specs.Tables.Additions.{Adds, FromFront}
use Rattle.scip_model.specs.Tables.Listing.{at_entity, at_part, each_from, entity_of, is_shown}
use Rattle.scip_model.specs.Tables.Merges.{AreUntied, IsMergedApart}
use Rattle.scip_model.specs.Tables.OptionListing.{IsLastPart, OccursByOption, OccursByTarget, OccursInOptionsIf}
use Rattle.scip_model.specs.Tables.Plans.{AddsPlanned, AreAdded, Around, Grown, occurrence_of}
use Rattle.scip_model.proofs.ExternalSymbolLemmas.{adds-all, adds-more, adds-same}
use Rattle.scip_model.proofs.MergeLemmas.{at_head, not_in_none}
use Rattle.scip_model.proofs.OccurrenceOrderLemmas.{occurrence_total, tied}
use Rattle.scip_model.proofs.OccursLemmas.{given_at, gives_at, if_so, so, shown_from, shown_to, named_from, named_to}
use Rattle.scip_model.proofs.PlanLemmas.{grown_then}
use Rattle.scip_model.proofs.OptionTargetLemmas.{last-part, same-name, same-target}

-- ---- lists that gain

pub adds-nothing : {Y : Type 0} (P : Y → Type 0) (xs : List Y) → ((x : Y) → P x → ⊥) → Adds P xs xs
adds-nothing P xs none = λ x. (inl, ⊎_elim (λ h. h) (λ p. absurd (none x p)))

adds-listed : {Y : Type 0} (P : Y → Type 0) (old os : List Y) → ((x : Y) → Contains os x → P x)
    → ((x : Y) → P x → Contains os x) → Adds P old (old ++ os)
adds-listed P old os there back = λ x. (
  λ h. ⊎_elim inl (λ added. inr (there x added)) (Contains-append_cases old os x h),
  ⊎_elim (Contains-append_left old os x) (λ p. Contains-append_right old os x (back x p)),
)

pub added-planned : (around : Around) (texts : List (List ℕ)) (P : Occurrence → Type 0)
    (old new : List PlannedOccurrence) (os : List Occurrence) → ((x : Occurrence) → Contains os x → P x)
    → ((x : Occurrence) → P x → Contains os x) → AreAdded around texts old new os
    → AddsPlanned around texts P old new
added-planned around texts P old new os there back added = λ later grown.
    subst (Adds P (map (occurrence_of around later) old)) (sym (added later grown))
    (adds-listed P (map (occurrence_of around later) old) os there back)

pub planned-nothing : (around : Around) (texts : List (List ℕ)) (P : Occurrence → Type 0) (list : List PlannedOccurrence)
    → ((x : Occurrence) → P x → ⊥) → AddsPlanned around texts P list list
planned-nothing around texts P list none = λ later grown. adds-nothing P (map (occurrence_of around later) list) none

pub front-none : {X Y : Type 0} (P : X → Y → Type 0) (xs : List X) (ys : List Y) → Adds (FromFront P xs 0) ys ys
front-none P xs ys = adds-nothing (FromFront P xs 0) ys (λ y front. omega (arith, front.within))

-- one item more, and all
pub planned-more : {X : Type 0} (P : X → Occurrence → Type 0) (xs : List X) (count : ℕ) (x : X)
    (mid end : List (List ℕ)) (around : Around) (old one new : List PlannedOccurrence) → slice_get xs count ≡ Some x
    → Grown mid end → AddsPlanned around mid (FromFront P xs count) old one → AddsPlanned around end (P x) one new
    → AddsPlanned around end (FromFront P xs (count + 1)) old new
planned-more P xs count x mid end around old one new there step before now = λ later grown.
    let f = occurrence_of around later in
    adds-more P xs count x (map f old) (map f one) (map f new) there (before later (grown_then mid end later step grown))
    (now later grown)

pub planned-all : {X : Type 0} (P : X → Occurrence → Type 0) (xs : List X) (count : ℕ) (texts : List (List ℕ))
    (around : Around) (old new : List PlannedOccurrence) → length xs ≤ count
    → AddsPlanned around texts (FromFront P xs count) old new
    → AddsPlanned around texts (FromFront P xs (length xs)) old new
planned-all P xs count texts around old new past before = λ later grown.
    let f = occurrence_of around later in
    adds-all P xs count (map f old) (map f new) past (before later grown)

-- all of a list of what a file has
pub of-file : {A X Y : Type 0} (known : List A) (list_of : A → List X) (file : ℕ) (P : X → Y → Type 0) (items : List X)
    → MatchOption (slice_get known file) (items ≡ []) (λ a. items ≡ list_of a) → (old new : List Y)
    → Adds (FromFront P items (length items)) old new
    → Adds (λ y. (a : A) × (slice_get known file ≡ Some a) × (x : X) × Contains (list_of a) x × P x y) old new
of-file {A} {X} {Y} known list_of file P items is old new adds = by (slice_get known file) refl is
  where
    by : (o : Option A) → slice_get known file ≡ o → MatchOption o (items ≡ []) (λ a. items ≡ list_of a)
        → Adds (λ y. (a : A) × (slice_get known file ≡ Some a) × (x : X) × Contains (list_of a) x × P x y) old new
    by None e none =
        adds-same (FromFront P items (length items)) _ old new
        (λ y front. absurd (omega (arith, front.within, ap length none)))
        (λ y its. absurd (none-some _ (sym e ∙ its.1))) adds
    by (Some a) e all =
        adds-same (FromFront P items (length items)) _ old new
        (λ y front. (
          a,
          e,
          front.element,
          subst (λ (xs : List X). Contains xs front.element) all (contained items front.index front.element front.stands),
          front.is,
        ))
        (λ y its.
        let one : its.0 ≡ a = same_Some _ _ (sym its.1 ∙ e) in
        let listed = subst (λ (xs : List X). Contains xs its.2) (ap list_of one ∙ sym all) its.3 in
        let place = contained_at items its.2 listed in
        record {
          index = place.0;
          element = its.2;
          within = slice_get_within items place.0 its.2 place.1;
          stands = place.1;
          is = its.4;
        }) adds

module _ (files : List File) (known : List OptionFacts) (chosen : Chosen) (ids : Packages) (encoding : Encoding)
    (source : ℕ) (text : List ℕ) where
  abbrev ByTarget : FileOption → OptionTarget → Occurrence → Type 0
  ByTarget option target o = OccursByTarget files known chosen ids encoding source text option target o

  abbrev ByOption : FileOption → Occurrence → Type 0
  ByOption option o = OccursByOption files known chosen ids encoding source text option o

  abbrev InOptions : Occurrence → Type 0
  InOptions o = OccursInOptions files known chosen ids encoding source text o

  -- ---- of a name

  module _ (option : FileOption) (target : OptionTarget) (is : IsOptionTarget files known source text option target) where
    -- its parts, over its components
    abbrev pub part-at : ℕ → Span → List Occurrence
    part-at index span =
        at_part ids encoding text files chosen is.parts.declaration.full_name span (slice_get target.parts index)

    entity-named : (o : Occurrence) (index : ℕ) (span : Span) (part : Entity)
        → slice_get is.name.name.components index ≡ Some span → slice_get target.parts index ≡ Some part
        → is_shown chosen part ≡ true → (e : Option symbols.Entity)
        → entity_of files ids is.parts.declaration.full_name part ≡ e
        → Contains (at_entity (package_of_part files ids part) encoding text span e) o → ByTarget option target o
    entity-named o index span part c p shown None e h = absurd (not_in_none o h)
    entity-named o index span part c p shown (Some entity) e h = record {
      is_target = is;
      span = span;
      part = part;
      entity = entity;
      index = index;
      component_is = c;
      part_is = p;
      entity_is = named_from files ids is.parts.declaration.full_name part entity e;
      shown = shown_from chosen part shown;
      is = sym (only _ o h);
    }

    part-named : (o : Occurrence) (index : ℕ) (span : Span)
        → slice_get is.name.name.components index ≡ Some span → (part : Option Entity)
        → slice_get target.parts index ≡ part
        → Contains (at_part ids encoding text files chosen is.parts.declaration.full_name span part) o
        → ByTarget option target o
    part-named o index span c None p h = absurd (not_in_none o h)
    part-named o index span c (Some part) p h =
        let shown = if_so (is_shown chosen part)
        (at_entity (package_of_part files ids part) encoding text span
        (entity_of files ids is.parts.declaration.full_name part)) o h in
        entity-named o index span part c p shown.0 (entity_of files ids is.parts.declaration.full_name part) refl
        shown.1

    pub name-occurs : (o : Occurrence)
        → Contains (each_from part-at 0 is.name.name.components) o → ByTarget option target o
    name-occurs o h =
        let k = given_at part-at is.name.name.components o h in
        part-named o k.at k.item k.item_is (slice_get target.parts k.at) refl k.given

    pub name-listed : (o : Occurrence) → ByTarget option target o
        → Contains (each_from part-at 0 is.name.name.components) o
    name-listed o by =
        let name = same-name files known source text option target by.is_target is in
        let declaration = same-target files known source text option target by.is_target is by.index by.part by.part_is in
        let component : slice_get is.name.name.components by.index ≡ Some by.span =
        ap (λ (n : OptionName). slice_get n.name.components by.index) (sym name) ∙ by.component_is in
        let entity = subst (λ (d : Declaration). IsNamedAs files ids d.full_name by.part by.entity) declaration by.entity_is in
        let made = occurrence_over encoding text (package_of_part files ids by.part) by.span by.entity no_role in
        let entity_there : Contains (at_entity (package_of_part files ids by.part) encoding text by.span
        (entity_of files ids is.parts.declaration.full_name by.part)) made =
        rw (named_to files ids is.parts.declaration.full_name by.part by.entity entity) (at_head made made [] refl) in
        let part_there : Contains (part-at by.index by.span) made =
        rw by.part_is (so (is_shown chosen by.part) _ made (shown_to chosen by.part by.shown) entity_there) in
        subst (Contains (each_from part-at 0 is.name.name.components)) (sym by.is)
        (gives_at part-at is.name.name.components made by.index by.span component part_there)

  -- where nothing is named nothing occurs
  pub none-by-target : (option : FileOption) (target : OptionTarget)
      → ((at : DeclaredPlace) → IsLastPart target.parts at → ⊥) → (o : Occurrence)
      → ByTarget option target o → ⊥
  none-by-target option target none o by =
      none by.is_target.at (last-part files by.is_target.parts by.index by.part by.part_is)

  -- ---- of an option, and of all

  pub by-option : (option : FileOption) (targets : List OptionTarget)
      → ((target : OptionTarget) → Contains targets target ↔ IsOptionTarget files known source text option target)
      → (old new : List Occurrence) → Adds (FromFront (ByTarget option) targets (length targets)) old new
      → Adds (ByOption option) old new
  by-option option targets exact old new =
      adds-same (FromFront (ByTarget option) targets (length targets)) (ByOption option) old new
      (λ o front. record { target = front.element; by_target = front.is })
      (λ o by.
      let place = contained_at targets by.target ((exact by.target).1 by.by_target.is_target) in
      record {
        index = place.0;
        element = by.target;
        within = slice_get_within targets place.0 by.target place.1;
        stands = place.1;
        is = by.by_target;
      })

  in-options : (o : Occurrence) → (beside : OptionFacts) × (slice_get known source ≡ Some beside) × (option : FileOption)
      × Contains beside.options option × ByOption option o → InOptions o
  in-options o its =
      let by = its.4.by_target in
      subst InOptions (sym by.is)
      (of_option {span = by.span} {part = by.part} {entity = by.entity} (record {
        beside = its.0;
        its = its.1;
        option = its.2;
        listed = its.3;
        target = its.4.target;
        is_target = by.is_target;
        index = by.index;
        component_is = by.component_is;
        part_is = by.part_is;
        entity_is = by.entity_is;
      }) by.shown)

  from-options : (o : Occurrence) → InOptions o → (beside : OptionFacts) × (slice_get known source ≡ Some beside)
      × (option : FileOption) × Contains beside.options option × ByOption option o
  from-options _ (of_option {span = span} {part = part} {entity = entity} names shown) = (
    names.beside,
    names.its,
    names.option,
    names.listed,
    record {
      target = names.target;
      by_target = record {
        is_target = names.is_target;
        span = span;
        part = part;
        entity = entity;
        index = names.index;
        component_is = names.component_is;
        part_is = names.part_is;
        entity_is = names.entity_is;
        shown = shown;
        is = refl;
      };
    },
  )

  pub all-options : (options : List FileOption)
      → MatchOption (slice_get known source) (options ≡ []) (λ beside. options ≡ beside.options)
      → (old new : List Occurrence) → Adds (FromFront ByOption options (length options)) old new
      → Adds InOptions old new
  all-options options are old new adds =
      adds-same _ InOptions old new in-options from-options
      (of-file known (λ (beside : OptionFacts). beside.options) source ByOption options are old new adds)

  -- ---- with what occurs besides

  plain : (o : Occurrence) → InOptions o → (o.symbol_roles ≡ no_role) × (o.enclosing_range ≡ None)
  plain _ (of_option names shown) = (refl, refl)

  -- over one range and with one symbol there is one occurrence
  pub one-in-options : (x y : Occurrence) → InOptions x → InOptions y → x.range ≡ y.range → x.symbol ≡ y.symbol → x ≡ y
  one-in-options x y h k range symbol =
      let roles : x.symbol_roles ≡ y.symbol_roles = (plain x h).0 ∙ sym (plain y k).0 in
      let around : x.enclosing_range ≡ y.enclosing_range = (plain x h).1 ∙ sym (plain y k).1 in
      λ i. record { range = range i; symbol = symbol i; symbol_roles = roles i; enclosing_range = around i }

-- occurrences over one range and with one symbol are tied
over-one : (x y : Occurrence) → x.range ≡ y.range → x.symbol ≡ y.symbol → occurrence_cmp x y ≡ Equal
over-one x y range symbol =
    let made : Occurrence = record {
      range = x.range;
      symbol = x.symbol;
      symbol_roles = y.symbol_roles;
      enclosing_range = y.enclosing_range;
    } in
    let same : made ≡ y =
    λ i. record {
      range = range i;
      symbol = symbol i;
      symbol_roles = y.symbol_roles;
      enclosing_range = y.enclosing_range;
    } in
    ap (λ (o : Occurrence). occurrence_cmp o y) same
    ∙ (Equal-is (occurrence_cmp y y)).0 ((eq_by_cmp_equiv occurrence_total).refl y)

module _ (files : List File) (chosen : Chosen) (ids : Packages) (encoding : Encoding) (source : ℕ) (text : List ℕ) where
  abbrev Besides : Occurrence → Type 0
  Besides o = Occurs files chosen ids encoding source text o

  -- what occurs besides, with what occurs of options where it is asked for
  pub with-asked : (asked : Option (List OptionFacts)) (besides found list : List Occurrence)
      → IsAscendingListOf occurrence_cmp Besides besides
      → Adds (OccursInOptionsIf asked files chosen ids encoding source text) [] found
      → (IsStrictlySortedBy occurrence_cmp besides → AreUntied occurrence_cmp found found
      → IsMergedApart occurrence_cmp besides found list)
      → IsAscendingListOf occurrence_cmp (OccursWith asked files chosen ids encoding source text) list
  with-asked None besides found list are adds join =
      let nothing : (x : Occurrence) → Contains found x → ⊥ =
      λ x h. ⊎_elim (not_in_none x) (λ none. none) ((adds x).0 h) in
      let merged = join are.ascends (λ x y h. absurd (nothing x h)) in
      record {
        exact = λ x. (
          λ h. ⊎_elim (are.exact x).0 (λ its. absurd (nothing x its.0)) ((merged.all x).0 h),
          λ wanted. (merged.all x).1 (inl ((are.exact x).1 wanted)),
        );
        ascends = merged.ascends;
      }
  with-asked (Some known) besides found list are adds join =
      let of-options : (x : Occurrence) → Contains found x → OccursInOptions files known chosen ids encoding source text x =
      λ x h. ⊎_elim (λ none. absurd (not_in_none x none)) (λ its. its) ((adds x).0 h) in
      let merged = join are.ascends (λ x y h k e. let at = tied x y e in
      one-in-options files known chosen ids encoding source text x y (of-options x h) (of-options y k) at.0 at.1) in
      record {
        exact = λ x. (
          λ h. ⊎_elim (λ first. inl ((are.exact x).0 first))
              (λ its. inr (record {
                occurs = of-options x its.0;
                apart = λ other wanted range symbol.
                    its.1 other ((are.exact other).1 wanted) (over-one other x range symbol);
              })) ((merged.all x).0 h),
          λ wanted. (merged.all x).1 (⊎_elim (λ first. inl ((are.exact x).1 first))
              (λ its. inr (
                (adds x).1 (inr its.occurs),
                λ other h e. let at = tied other x e in
                    its.apart other ((are.exact other).0 h) at.0 at.1,
              )) wanted),
        );
        ascends = merged.ascends;
      }

  -- no two tie
  pub no-ties-with : (asked : Option (List OptionFacts)) → ((x y : Occurrence) → Besides x → Besides y
      → x.range ≡ y.range → x.symbol ≡ y.symbol → x ≡ y)
      → (x y : Occurrence) → OccursWith asked files chosen ids encoding source text x
      → OccursWith asked files chosen ids encoding source text y → x.range ≡ y.range → x.symbol ≡ y.symbol → x ≡ y
  no-ties-with None untied x y h k range symbol = untied x y h k range symbol
  no-ties-with (Some known) untied x y (inl h) (inl k) range symbol = untied x y h k range symbol
  no-ties-with (Some known) untied x y (inl h) (inr k) range symbol = absurd (k.apart x h range symbol)
  no-ties-with (Some known) untied x y (inr h) (inl k) range symbol = absurd (h.apart y k (sym range) (sym symbol))
  no-ties-with (Some known) untied x y (inr h) (inr k) range symbol =
      one-in-options files known chosen ids encoding source text x y h.occurs k.occurs range symbol
