-- Of what occurs in a document no two tie: over one range there is one role, and one range around.
use Rattle.std.proofs.Common.{◌≡◌, ◌∙◌, sym, ap, refl, subst, ◌⊎◌, inl, inr, ℕ, ◌<◌, List, [], ◌∷◌, map, arith, ⊎_elim}
use Rattle.std.proofs.Common.{Bool, ℤ, Some}
use Rattle.std.proofs.lemmas.Bool.{false≢true}
use Rattle.std.specs.Prelude.{◌≢◌, None}
use Rattle.std.specs.Ordering.{int_eq}
use Rattle.std.specs.List.{Contains, slice_get, flat_map}
use Rattle.std.proofs.lemmas.Bool.{cases_order}
use Rattle.std.proofs.lemmas.List.Elements.{All-contains, Contains-append_left, Contains-append_right}
use Rattle.std.proofs.lemmas.List.Elements.{Contains-append_cases}
use Rattle.proto_visibility.proofs.FileFactLemmas.{one_list_of_facts as same_facts}
use Rattle.basics.proofs.ListLemmas.{contains_map}
use Rattle.proto_lex.specs.declared.span.Span.{Span}
use Rattle.proto_lex.specs.declared.position.Encoding.{Encoding}
use Rattle.proto_lex.specs.Lexed.{IsPart, AreApart}
use Rattle.proto_lex.specs.PositionLaws.{CharactersRise}
use Rattle.scip_records.specs.Range.{RangeNumbers}
use Rattle.scip_records.specs.declared.records.Occurrence.{Occurrence}
use Rattle.proto_decl.specs.Facts.{Facts, NamesInOrder, PackageInOrder, component_spans, name_spans, use_spans}
use Rattle.proto_decl.specs.Laws.{StandInText, StandApart, named_spans}
use Rattle.proto_decl.specs.declared.imports.Imported.{Imported}
use Rattle.proto_decl.specs.declared.declaration.Declaration.{Declaration}
use Rattle.proto_decl.specs.declared.uses.Component.{Component}
use Rattle.proto_decl.specs.declared.uses.Use.{Use}
use Rattle.proto_visibility.specs.Files.{File, HasFacts}
use Rattle.basics.proofs.FirstLemmas.{contained}
use Rattle.scip_model.specs.Packages.{Packages}
use Rattle.scip_model.specs.Chosen.{Chosen}
use Rattle.scip_model.specs.Detailed.{detail_at}
use Rattle.scip_model.specs.Occurs.{Occurs, enclosing_with, range_over, start_of_text, no_role, definition_role}
use Rattle.scip_model.specs.Occurs.{import_role}
use Rattle.scip_model.specs.Occurs.Occurs.{of_file, of_import, of_package, of_declaration, of_component}
use Rattle.scip_model.proofs.MergeLemmas.{head_or_tail, not_in_none}
use Rattle.scip_model.proofs.NameOrderLemmas.{one_name, package_apart}

-- elements

all_mapped : {X Y : Type 0} (f : X → List Y) (xs : List X) (x : X) (y : Y) → Contains xs x → Contains (f x) y
    → Contains (flat_map f xs) y
all_mapped f [] x y h k = absurd (not_in_none x h)
all_mapped f (z ∷ xs) x y h k =
    ⊎_elim (λ same. Contains-append_left (f z) (flat_map f xs) y (subst (λ w. Contains (f w) y) (sym same) k))
    (λ later. Contains-append_right (f z) (flat_map f xs) y (all_mapped f xs x y later k))
    (head_or_tail x z xs h)

-- ranges

module _ (rise : CharactersRise) (encoding : Encoding) (text : List ℕ) where
  abbrev over : Span → RangeNumbers
  over span = range_over encoding text span

  -- a later start has another place
  later_start : (a b : Span) → IsPart text a → IsPart text b → a.start < b.start → over a ≡ over b → ⊥
  later_start a b first second less e =
      let before = rise encoding text a.start b.start first.starts_whole less
      (omega (arith, second.some, second.within)) in
      omega (
        arith,
        before.column (ap (λ (r : RangeNumbers). r.start_line) e),
        ap (λ (r : RangeNumbers). r.start_column) e,
      )

  one_start : (a b : Span) → IsPart text a → IsPart text b → over a ≡ over b → a.start ≡ b.start
  one_start a b first second e = elim (cases_order a.start b.start) [
    | inl same ↦ same
    | inr apart ↦ elim apart [
      | inl less ↦ absurd (later_start a b first second less e)
      | inr more ↦ absurd
          (later_start b a second first more (sym e))
    ]
  ]

  -- no part of the text is as empty as the start of the text
  not_empty : (a : Span) → IsPart text a → over a ≡ start_of_text → ⊥
  not_empty a part e =
      let before = rise encoding text a.start a.end part.starts_whole part.some part.within in
      let lines = ap (λ (r : RangeNumbers). r.start_line) e ∙ sym (ap (λ (r : RangeNumbers). r.end_line) e) in
      omega (
        arith,
        before.column lines,
        ap (λ (r : RangeNumbers). r.start_column) e,
        ap (λ (r : RangeNumbers). r.end_column) e,
      )

  apart_starts : (a b : Span) → IsPart text a → IsPart text b → AreApart a b → a.start ≢ b.start
  apart_starts a b first second (inl before) = λ e. omega (arith, first.some, before, e)
  apart_starts a b first second (inr behind) = λ e. omega (arith, second.some, behind, e)

  module _ (facts : Facts) (parts : StandInText text facts) (apart : StandApart facts)
      (names : NamesInOrder facts.declarations) (package_name : PackageInOrder facts) where
    -- where an occurrence stands, and in which role
    data Stands (o : Occurrence) : Type 0 where
      at_start : o.range ≡ start_of_text → o.symbol_roles ≡ definition_role → Stands o
      at_import : (imported : Imported) → Contains facts.imports imported → o.range ≡ over imported.span
          → o.symbol_roles ≡ import_role → Stands o
      at_name : (span : Span) → Contains (named_spans facts) span → o.range ≡ over span
          → o.symbol_roles ≡ definition_role → Stands o
      at_use : (span : Span) → Contains (use_spans facts.uses) span → o.range ≡ over span → o.symbol_roles ≡ no_role
          → Stands o

    import_part : (imported : Imported) → Contains facts.imports imported → IsPart text imported.span
    import_part imported h =
        All-contains (IsPart text) (map (λ (i : Imported). i.span) facts.imports) imported.span parts.imports
        (contains_map (λ (i : Imported). i.span) facts.imports imported h)

    name_part : (span : Span) → Contains (named_spans facts) span → IsPart text span
    name_part span h =
        ⊎_elim (All-contains (IsPart text) (name_spans facts.declarations) span parts.names)
        (All-contains (IsPart text) (component_spans facts.package_name) span parts.package_name)
        (Contains-append_cases (name_spans facts.declarations) (component_spans facts.package_name) span h)

    use_part : (span : Span) → Contains (use_spans facts.uses) span → IsPart text span
    use_part span h = All-contains (IsPart text) (use_spans facts.uses) span parts.uses h

    start_import : (imported : Imported) → Contains facts.imports imported → over imported.span ≡ start_of_text → ⊥
    start_import imported h e = not_empty imported.span (import_part imported h) e

    start_use : (span : Span) → Contains (use_spans facts.uses) span → over span ≡ start_of_text → ⊥
    start_use span h e = not_empty span (use_part span h) e

    import_name : (imported : Imported) (span : Span) → Contains facts.imports imported
        → Contains (named_spans facts) span → over imported.span ≡ over span → ⊥
    import_name imported span h k e =
        apart.imports imported span h (Contains-append_left (named_spans facts) (use_spans facts.uses) span k)
        (one_start imported.span span (import_part imported h) (name_part span k) e)

    import_use : (imported : Imported) (span : Span) → Contains facts.imports imported
        → Contains (use_spans facts.uses) span → over imported.span ≡ over span → ⊥
    import_use imported span h k e =
        apart.imports imported span h (Contains-append_right (named_spans facts) (use_spans facts.uses) span k)
        (one_start imported.span span (import_part imported h) (use_part span k) e)

    use_name : (used name : Span) → Contains (use_spans facts.uses) used → Contains (named_spans facts) name
        → over used ≡ over name → ⊥
    use_name used name h k e =
        apart_starts used name (use_part used h) (name_part name k) (apart.uses used name h k)
        (one_start used name (use_part used h) (name_part name k) e)

    one_role : (o p : Occurrence) → Stands o → Stands p → o.range ≡ p.range → o.symbol_roles ≡ p.symbol_roles
    one_role o p (at_start e r) (at_start f s) same = r ∙ sym s
    one_role o p (at_start e r) (at_import i h f s) same = absurd (start_import i h (sym f ∙ (sym same ∙ e)))
    one_role o p (at_start e r) (at_name n h f s) same = r ∙ sym s
    one_role o p (at_start e r) (at_use u h f s) same = absurd (start_use u h (sym f ∙ (sym same ∙ e)))
    one_role o p (at_import i h e r) (at_start f s) same = absurd (start_import i h (sym e ∙ (same ∙ f)))
    one_role o p (at_import i h e r) (at_import j k f s) same = r ∙ sym s
    one_role o p (at_import i h e r) (at_name n k f s) same = absurd (import_name i n h k (sym e ∙ (same ∙ f)))
    one_role o p (at_import i h e r) (at_use u k f s) same = absurd (import_use i u h k (sym e ∙ (same ∙ f)))
    one_role o p (at_name n h e r) (at_start f s) same = r ∙ sym s
    one_role o p (at_name n h e r) (at_import i k f s) same = absurd (import_name i n k h (sym f ∙ (sym same ∙ e)))
    one_role o p (at_name n h e r) (at_name m k f s) same = r ∙ sym s
    one_role o p (at_name n h e r) (at_use u k f s) same = absurd (use_name u n k h (sym f ∙ (sym same ∙ e)))
    one_role o p (at_use u h e r) (at_start f s) same = absurd (start_use u h (sym e ∙ (same ∙ f)))
    one_role o p (at_use u h e r) (at_import i k f s) same = absurd (import_use i u k h (sym f ∙ (sym same ∙ e)))
    one_role o p (at_use u h e r) (at_name n k f s) same = absurd (use_name u n h k (sym e ∙ (same ∙ f)))
    one_role o p (at_use u h e r) (at_use v k f s) same = r ∙ sym s

    -- the range around an occurrence: only around a declaration's definition there is one
    abbrev IsNamed : Occurrence → Declaration → Type 0
    IsNamed o declared = Contains facts.declarations declared × (o.range ≡ over declared.name)
        × (o.symbol_roles ≡ definition_role)

    data Encloses (o : Occurrence) : Type 0 where
      without : o.enclosing_range ≡ None → ((declared : Declaration) → IsNamed o declared → ⊥) → Encloses o
      named : (index : ℕ) (declared : Declaration) → slice_get facts.declarations index ≡ Some declared
          → o.range ≡ over declared.name → o.symbol_roles ≡ definition_role
          → o.enclosing_range ≡ enclosing_with encoding text (detail_at facts index) → Encloses o

    abbrev is_definition : ℤ → Bool
    is_definition roles = int_eq roles definition_role

    declared_part : (declared : Declaration) → Contains facts.declarations declared → IsPart text declared.name
    declared_part declared h = name_part declared.name (Contains-append_left (name_spans facts.declarations)
        (component_spans facts.package_name) declared.name
        (contains_map (λ (d : Declaration). d.name) facts.declarations declared h))

    one_around : (o p : Occurrence) → Encloses o → Encloses p → o.range ≡ p.range → o.symbol_roles ≡ p.symbol_roles
        → o.enclosing_range ≡ p.enclosing_range
    one_around o p (without e none) (without f others) same roles = e ∙ sym f
    one_around o p (without e none) (named j b at r s f) same roles =
        absurd (none b (contained facts.declarations j b at, same ∙ r, roles ∙ s))
    one_around o p (named i a at r s e) (without f none) same roles =
        absurd (none a (contained facts.declarations i a at, sym same ∙ r, sym roles ∙ s))
    one_around o p (named i a at r s e) (named j b there t u f) same roles =
        let starts = one_start a.name b.name (declared_part a (contained facts.declarations i a at))
        (declared_part b (contained facts.declarations j b there)) (sym r ∙ (same ∙ t)) in
        e
        ∙ (ap (λ (index : ℕ). enclosing_with encoding text (detail_at facts index))
        (one_name facts.declarations names i j a b at there starts)
        ∙ sym f)

    module _ (files : List File) (chosen : Chosen) (ids : Packages) (source : ℕ)
        (known : HasFacts files source facts) where
      encloses : (o : Occurrence) → Occurs files chosen ids encoding source text o → Encloses o
      encloses _ (of_file there) =
          without refl (λ declared is. not_empty declared.name (declared_part declared is.0) (sym is.1))
      encloses _ (of_import has listed there) =
          without refl (λ declared is. false≢true (ap is_definition is.2))
      encloses _ (of_package {facts = other} index {component = component} has e) =
          let there = ap (λ (f : Facts). slice_get f.package_name index)
          (sym (same_facts files source other facts has known)) ∙ e in
          let listed = contains_map (λ (c : Component). c.span) facts.package_name component
          (contained facts.package_name index component there) in
          let part = name_part component.span (Contains-append_right (name_spans facts.declarations)
          (component_spans facts.package_name) component.span listed) in
          without refl (λ declared is. package_apart facts package_name declared component.span is.0 listed
          (one_start component.span declared.name part (declared_part declared is.0) is.1))
      encloses _ (of_declaration {facts = other} index {declared = declared} has kept) =
          let same = same_facts files source other facts has.has_facts known in
          let there = ap (λ (f : Facts). slice_get f.declarations index) (sym same) ∙ has.numbered in
          named index declared there refl refl
          (ap (λ (f : Facts). enclosing_with encoding text (detail_at f index)) same)
      encloses _ (of_component names shown) = without refl (λ declared is. false≢true (ap is_definition is.2))

      pub arounds_by_range : (o p : Occurrence) → Occurs files chosen ids encoding source text o
          → Occurs files chosen ids encoding source text p → o.range ≡ p.range → o.symbol_roles ≡ p.symbol_roles
          → o.enclosing_range ≡ p.enclosing_range
      arounds_by_range o p first second same roles = one_around o p (encloses o first) (encloses p second) same roles

      stands : (o : Occurrence) → Occurs files chosen ids encoding source text o → Stands o
      stands _ (of_file there) = at_start refl refl
      stands _ (of_import {facts = other} {imported = imported} has listed there) =
          at_import imported (subst (λ (f : Facts). Contains f.imports imported)
          (same_facts files source other facts has known) listed) refl refl
      stands _ (of_package {facts = other} index {component = component} has e) =
          let there = ap (λ (f : Facts). slice_get f.package_name index)
          (sym (same_facts files source other facts has known)) ∙ e in
          at_name component.span
          (Contains-append_right (name_spans facts.declarations) (component_spans facts.package_name) component.span
          (contains_map (λ (c : Component). c.span) facts.package_name component
          (contained facts.package_name index component there))) refl refl
      stands _ (of_declaration {facts = other} index {declared = declared} has kept) =
          let there = ap (λ (f : Facts). slice_get f.declarations index)
          (sym (same_facts files source other facts has.has_facts known)) ∙ has.numbered in
          at_name declared.name
          (Contains-append_left (name_spans facts.declarations) (component_spans facts.package_name) declared.name
          (contains_map (λ (d : Declaration). d.name) facts.declarations declared
          (contained facts.declarations index declared there))) refl refl
      stands _ (of_component {component = component} names shown) =
          let used = subst (λ (f : Facts). Contains f.uses names.type_use)
          (same_facts files source names.facts facts names.has_facts known) names.listed in
          at_use component.span
          (all_mapped (λ (u : Use). component_spans u.components) facts.uses names.type_use component.span used
          (contains_map (λ (c : Component). c.span) names.type_use.components component
          (contained names.type_use.components names.index component names.component_is))) refl refl

      pub roles_by_range : (o p : Occurrence) → Occurs files chosen ids encoding source text o
          → Occurs files chosen ids encoding source text p → o.range ≡ p.range → o.symbol_roles ≡ p.symbol_roles
      roles_by_range o p first second same = one_role o p (stands o first) (stands p second) same

-- an occurrence is the file's own, or the file's facts are known
module _ (files : List File) (chosen : Chosen) (ids : Packages) (encoding : Encoding) (source : ℕ) (text : List ℕ) where
  abbrev IsKnown : Type 0
  IsKnown = (facts : Facts) × HasFacts files source facts

  abbrev IsOwn : Occurrence → Type 0
  IsOwn o = (o.symbol_roles ≡ definition_role) × (o.enclosing_range ≡ None)

  own_or_known : (o : Occurrence) → Occurs files chosen ids encoding source text o → IsOwn o ⊎ IsKnown
  own_or_known _ (of_file there) = inl (refl, refl)
  own_or_known _ (of_import {facts = facts} has listed there) = inr (facts, has)
  own_or_known _ (of_package {facts = facts} index has e) = inr (facts, has)
  own_or_known _ (of_declaration {facts = facts} index has kept) = inr (facts, has.has_facts)
  own_or_known _ (of_component names shown) = inr (names.facts, names.has_facts)

  -- where the facts of a file are, in order
  pub record Places (facts : Facts) : Type 0 where
    pub parts : StandInText text facts
    pub apart : StandApart facts
    pub names : NamesInOrder facts.declarations
    pub package_name : PackageInOrder facts

  pub no_ties : (rise : CharactersRise) → ((facts : Facts) → HasFacts files source facts → Places facts)
      → (o p : Occurrence) → Occurs files chosen ids encoding source text o
      → Occurs files chosen ids encoding source text p → o.range ≡ p.range → o.symbol ≡ p.symbol → o ≡ p
  no_ties rise places o p first second ranges symbols =
      let by_facts : IsKnown → o.symbol_roles ≡ p.symbol_roles = λ known.
      let at = places known.0 known.1 in
      roles_by_range rise encoding text known.0 at.parts at.apart at.names at.package_name files chosen ids source
      known.1 o p first second ranges in
      let roles : o.symbol_roles ≡ p.symbol_roles =
      ⊎_elim (λ own. ⊎_elim (λ other. own.0 ∙ sym other.0) by_facts (own_or_known p second)) by_facts
      (own_or_known o first) in
      let around_by_facts : IsKnown → o.enclosing_range ≡ p.enclosing_range = λ known.
      let at = places known.0 known.1 in
      arounds_by_range rise encoding text known.0 at.parts at.apart at.names at.package_name files chosen ids source
      known.1 o p first second ranges roles in
      let around : o.enclosing_range ≡ p.enclosing_range =
      ⊎_elim (λ own. ⊎_elim (λ other. own.1 ∙ sym other.1) around_by_facts (own_or_known p second)) around_by_facts
      (own_or_known o first) in
      λ i. record { range = ranges i; symbol = symbols i; symbol_roles = roles i; enclosing_range = around i }
