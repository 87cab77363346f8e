-- Of a source's facts: its lists of occurrences ascend, and merged they are the list of what occurs.
use Rattle.std.proofs.Common.{◌≡◌, ap, refl, subst, inl, inr, ℕ, Bool, true, false, Option, Some, None, List, []}
use Rattle.std.proofs.Common.{◌∷◌, ◌++◌, map, arith, ⊎_elim}
use Rattle.std.specs.Prelude.{if◌then◌else◌}
use Rattle.std.specs.List.{AllZip, Contains, slice_get, flat_map}
use Rattle.std.specs.declared.cmp.Ordering.TheVariants.{Equal}
use Rattle.std.specs.List.Sorted.{IsStrictlySortedBy}
use Rattle.proto_decl.proofs.OutlineOrderLemmas.{order_from}
use Rattle.proto_lex.specs.declared.span.Span.{Span}
use Rattle.proto_lex.specs.declared.position.Encoding.{Encoding}
use Rattle.proto_lex.specs.Lexed.{AreInOrder}
use Rattle.proto_lex.specs.PositionLaws.{CharactersRise}
use Rattle.scip_records.specs.declared.records.Occurrence.{Occurrence}
use Rattle.proto_decl.specs.Facts.{Facts, PackageInOrder, NamesInOrder, UsesInOrder, ImportsInOrder, component_spans}
use Rattle.proto_decl.specs.Facts.{name_spans, use_spans}
use Rattle.proto_decl.specs.Laws.{StandInText}
use Rattle.proto_decl.specs.declared.imports.Imported.{Imported}
use Rattle.proto_decl.specs.declared.declaration.Declaration.{Declaration}
use Rattle.proto_decl.specs.declared.uses.Component.{Component}
use Rattle.proto_decl.specs.declared.uses.Use.{Use}
use Rattle.scip_symbol.specs.Entities as symbols
use Rattle.scip_symbol.specs.Package.{Package}
use Rattle.proto_visibility.specs.Files.{File, HasFacts}
use Rattle.proto_link.specs.Targets.{IsTarget}
use Rattle.proto_link.specs.declared.target.Target.{Target}
use Rattle.proto_visibility.specs.declared.lookup.Entity.{Entity}
use Rattle.scip_model.specs.Packages.{Packages, package_of_part}
use Rattle.scip_model.specs.Named.{Home, home_of_file}
use Rattle.scip_model.specs.Chosen.{Chosen}
use Rattle.scip_model.specs.Conditions.{IsFound}
use Rattle.scip_model.specs.Occurs.{Occurs}
use Rattle.scip_model.specs.Indexes.{IsAscendingListOf}
use Rattle.scip_model.specs.OccurrenceOrder.{occurrence_cmp}
use Rattle.scip_model.specs.Tables.Merges.{IsMerged, AreUntied}
use Rattle.scip_model.specs.Tables.Listing.{own_occurrence, each_from, has_path, found_at, keeps, is_shown}
use Rattle.scip_model.specs.Tables.Listing.{entity_of, at_import, at_package, at_declaration, at_entity, at_part}
use Rattle.scip_model.specs.Tables.Listing.{at_component, at_target, at_use}
use Rattle.scip_model.proofs.ListingLemmas.{StandAt, each_stand, ascends}
use Rattle.scip_model.proofs.ListingLemmas.StandAt.{none as stands_none, skip as stands_skip, here as stands_here}
use Rattle.scip_model.proofs.OccursLemmas.{InLists, lists_occur, occurs_listed}

-- spans in order

order_left : (place : ℕ) (spans others : List Span) → AreInOrder place (spans ++ others) → AreInOrder place spans
order_left place [] others order = tt
order_left place (span ∷ spans) others order = (order.0, order.1, order_left span.end spans others order.2)

pub order_right : (place : ℕ) (spans others : List Span) → AreInOrder place (spans ++ others) → AreInOrder 0 others
order_right place [] others order = order_from place 0 others (omega arith) order
order_right place (span ∷ spans) others order = order_right span.end spans others order.2

package_order : (facts : Facts) → PackageInOrder facts → AreInOrder 0 (component_spans facts.package_name)
package_order facts p =
    order_left 0 (component_spans facts.package_name) (name_spans p.behind)
    (order_right 0 (name_spans p.before) (component_spans facts.package_name ++ name_spans p.behind) p.in_order)

single : {A : Type 0} (f : A → Span) (xs : List A) → flat_map (λ x. f x ∷ []) xs ≡ map f xs
single f [] = refl
single f (x ∷ xs) = ap (λ ys. f x ∷ ys) (single f xs)

module _ (ids : Packages) (encoding : Encoding) (text : List ℕ) where
  abbrev Stands : List Span → List Occurrence → Type 0
  Stands spans os = StandAt encoding text spans os

  each_single : {A : Type 0} (gives : ℕ → A → List Occurrence) (f : A → Span)
      → ((index : ℕ) (x : A) → Stands (f x ∷ []) (gives index x)) → (xs : List A)
      → Stands (map f xs) (each_from gives 0 xs)
  each_single gives f stands xs =
      subst (λ (spans : List Span). Stands spans (each_from gives 0 xs)) (single f xs)
      (each_stand encoding text gives (λ x. f x ∷ []) stands 0 xs)

  package_stands : (id : Package) (facts : Facts)
      → Stands (component_spans facts.package_name) (each_from (at_package id encoding text facts) 0 facts.package_name)
  package_stands id facts = each_single (at_package id encoding text facts) (λ (component : Component). component.span)
      (λ index x. stands_here refl stands_none) facts.package_name

  stands_if : (b : Bool) (span : Span) (os : List Occurrence) → Stands (span ∷ []) os
      → Stands (span ∷ []) (if b then os else [])
  stands_if true span os h = h
  stands_if false span os h = stands_skip stands_none

  imports_stand : (files : List File) (imports : List Imported)
      → Stands (map (λ (imported : Imported). imported.span) imports)
      (each_from (at_import ids encoding text files) 0 imports)
  imports_stand files imports =
      each_single (at_import ids encoding text files) (λ (imported : Imported). imported.span)
      (λ index x. stands_if (has_path files x.path) x.span _ (stands_here refl stands_none)) imports

  names_stand : (home : Home) (chosen : Chosen) (source : ℕ) (facts : Facts)
      → Stands (name_spans facts.declarations)
      (each_from (at_declaration home encoding text chosen source facts) 0 facts.declarations)
  names_stand home chosen source facts =
      each_single (at_declaration home encoding text chosen source facts)
      (λ (declaration : Declaration). declaration.name)
      (λ index x. stands_if (keeps chosen source index) x.name _ (stands_here refl stands_none)) facts.declarations

  skip_all : (spans : List Span) → Stands spans []
  skip_all [] = stands_none
  skip_all (span ∷ spans) = stands_skip (skip_all spans)

  entity_stands : (id : Package) (span : Span) (e : Option symbols.Entity)
      → Stands (span ∷ []) (at_entity id encoding text span e)
  entity_stands id span None = stands_skip stands_none
  entity_stands id span (Some entity) = stands_here refl stands_none

  part_stands : (files : List File) (chosen : Chosen) (name : List ℕ) (span : Span) (part : Option Entity)
      → Stands (span ∷ []) (at_part ids encoding text files chosen name span part)
  part_stands files chosen name span None = stands_skip stands_none
  part_stands files chosen name span (Some part) =
      stands_if (is_shown chosen part) span _
      (entity_stands (package_of_part files ids part) span (entity_of files ids name part))

  target_stands : (files : List File) (chosen : Chosen) (target : Option Target) (type_use : Use)
      → Stands (component_spans type_use.components) (at_target ids encoding text files chosen target type_use)
  target_stands files chosen None type_use = skip_all (component_spans type_use.components)
  target_stands files chosen (Some target) type_use =
      each_single (at_component ids encoding text files chosen target) (λ (component : Component). component.span)
      (λ index x. part_stands files chosen target.name x.span (slice_get target.parts index)) type_use.components

  uses_stand : (files : List File) (chosen : Chosen) (found : List (Option Target)) (uses : List Use)
      → Stands (use_spans uses) (each_from (at_use ids encoding text files chosen found) 0 uses)
  uses_stand files chosen found uses =
      each_stand encoding text (at_use ids encoding text files chosen found)
      (λ (used : Use). component_spans used.components)
      (λ index x. target_stands files chosen (found_at (slice_get found index)) x) 0 uses

  one_ascends : (o : Occurrence) → IsStrictlySortedBy occurrence_cmp (o ∷ [])
  unfolding IsStrictlySortedBy
  one_ascends o = (tt, tt)

  module _ (rise : CharactersRise) (files : List File) (chosen : Chosen) (source : ℕ) (file : File)
      (at : slice_get files source ≡ Some file) (facts : Facts)
      (known : HasFacts files source facts) (stands : StandInText text facts) (names : NamesInOrder facts.declarations)
      (uses : UsesInOrder facts.uses) (imports : ImportsInOrder facts.imports)
      (package_name : PackageInOrder facts) (found : List (Option Target))
      (are_found : AllZip (IsFound files source) facts.uses found)
      (one_target : (type_use : Use) (a b : Target) → IsTarget files source type_use a
      → IsTarget files source type_use b → a ≡ b) where
    abbrev Wanted : Occurrence → Type 0
    Wanted o = Occurs files chosen ids encoding source text o

    -- where the declarations of the source belong
    abbrev home : Home
    home = home_of_file files ids source

    abbrev own_list : List Occurrence
    own_list = own_occurrence home.id file.path ∷ []

    abbrev import_list : List Occurrence
    import_list = each_from (at_import ids encoding text files) 0 facts.imports

    abbrev package_list : List Occurrence
    package_list = each_from (at_package ids.run encoding text facts) 0 facts.package_name

    abbrev name_list : List Occurrence
    name_list = each_from (at_declaration home encoding text chosen source facts) 0 facts.declarations

    abbrev use_list : List Occurrence
    use_list = each_from (at_use ids encoding text files chosen found) 0 facts.uses

    abbrev Merges : (first second both : List Occurrence) → Type 0
    Merges first second both = AreUntied occurrence_cmp first second → IsMerged occurrence_cmp first second both

    listed : (o : Occurrence)
        → InLists files chosen ids encoding source text file at facts known found are_found one_target o → Wanted o
    listed o h = lists_occur files chosen ids encoding source text file at facts known found are_found one_target o h

    -- of what occurs, only what is equal is tied
    module _ (untied : (x y : Occurrence) → Wanted x → Wanted y → occurrence_cmp x y ≡ Equal → x ≡ y) where
      apart : (first second : List Occurrence) → ((x : Occurrence) → Contains first x → Wanted x)
          → ((x : Occurrence) → Contains second x → Wanted x) → AreUntied occurrence_cmp first second
      apart first second from_first from_second x y h k = untied x y (from_first x h) (from_second y k)

      both : (first second whole : List Occurrence) → IsMerged occurrence_cmp first second whole
          → ((x : Occurrence) → Contains first x → Wanted x) → ((x : Occurrence) → Contains second x → Wanted x)
          → (x : Occurrence) → Contains whole x → Wanted x
      both first second whole m from_first from_second x h = ⊎_elim (from_first x) (from_second x) ((m.all x).0 h)

      pub merged_lists : (a b c d : List Occurrence) → Merges own_list import_list a → Merges a package_list b
          → Merges b name_list c → Merges c use_list d
          → IsAscendingListOf occurrence_cmp Wanted d
      merged_lists a b c d merge_first merge_second merge_third merge_fourth =
          let of_own : (x : Occurrence) → Contains own_list x → Wanted x = λ x h. listed x (inl (inl (inl (inl h)))) in
          let of_imports : (x : Occurrence) → Contains import_list x → Wanted x =
          λ x h. listed x (inl (inl (inl (inr h)))) in
          let of_packages : (x : Occurrence) → Contains package_list x → Wanted x =
          λ x h. listed x (inl (inl (inr h))) in
          let of_names : (x : Occurrence) → Contains name_list x → Wanted x = λ x h. listed x (inl (inr h)) in
          let of_uses : (x : Occurrence) → Contains use_list x → Wanted x = λ x h. listed x (inr h) in
          let first = merge_first (apart own_list import_list of_own of_imports) in
          let of_a = both own_list import_list a first of_own of_imports in
          let second = merge_second (apart a package_list of_a of_packages) in
          let of_b = both a package_list b second of_a of_packages in
          let third = merge_third (apart b name_list of_b of_names) in
          let of_c = both b name_list c third of_b of_names in
          let fourth = merge_fourth (apart c use_list of_c of_uses) in
          record {
            exact = λ x. (
              both c use_list d fourth of_c of_uses x,
              λ wanted. (fourth.all x).1
                  (⊎_elim (λ l. inl ((third.all x).1
                  (⊎_elim (λ k. inl ((second.all x).1 (⊎_elim (λ j. inl ((first.all x).1 j)) inr k))) inr l))) inr
                  (occurs_listed files chosen ids encoding source text file at facts known found are_found one_target x
                  wanted)),
            );
            ascends =
                let by_imports = ascends encoding text rise 0
                (map (λ (imported : Imported). imported.span) facts.imports) import_list imports stands.imports
                (imports_stand files facts.imports) in
                let by_package = ascends encoding text rise 0 (component_spans facts.package_name) package_list
                (package_order facts package_name) stands.package_name (package_stands ids.run facts) in
                let by_names = ascends encoding text rise 0 (name_spans facts.declarations) name_list names stands.names
                (names_stand home chosen source facts) in
                let by_uses = ascends encoding text rise 0 (use_spans facts.uses) use_list uses stands.uses
                (uses_stand files chosen found facts.uses) in
                fourth.ascends (third.ascends
                (second.ascends (first.ascends (one_ascends _) by_imports) by_package) by_names) by_uses;
          }
