use Rattle.std.proofs.Common.{◌≡◌, ◌∙◌, ap, sym, subst, refl, None, List, ℕ, [], ◌∷◌, ◌++◌, map, arith}
use Rattle.std.specs.List.{All, AllZip}
use Rattle.proto_lex.specs.Lexed.{IsPart}
use Rattle.proto_decl.specs.declared.imports.Imported.{Imported}
use Rattle.proto_decl.specs.declared.declaration.Declaration.{Declaration}
use Rattle.proto_decl.specs.declared.uses.Component.{Component}
use Rattle.proto_decl.specs.declared.uses.Use.{Use}
use Rattle.scip_model.specs.Tables.Listing.{own_occurrence, each_from, at_import, at_use, unresolved_use_at}
use Rattle.std.proofs.lemmas.Option.{slice_get_within}
use Rattle.proto_lex.specs.declared.span.Span.{Span}
use Rattle.scip_model.proofs.ListingNameableLemmas.{target_nameable}
use Rattle.scip_model.proofs.ConditionUnresolvedLemmas.{unresolved_of}
use Rattle.scip_model.proofs.ConditionLemmas.{all_of_map, uses_stand_there, stand_there, choices_there, merged_of}
use Rattle.scip_model.proofs.ListingDocumentLemmas.{merged_lists}
use Rattle.scip_model.proofs.OccurrenceOrderLemmas.{tied}
use Rattle.scip_model.specs.OccurrenceOrder.{occurrence_cmp}
use Rattle.scip_model.specs.Occurs.{Occurs}
use Rattle.scip_model.specs.Conditions.{AreOfText, IsFound, AreUnresolvedUses}
use Rattle.proto_visibility.specs.Files.{HaveOrigins}
use Rattle.proto_visibility.specs.Clashes.{NoClash}
use Rattle.proto_visibility.specs.declared.clash.Duplicates.TheVariants.{Keep}
use Rattle.scip_model.specs.Named.{home_of_file}
use Rattle.scip_model.specs.Packages.{path_if_there}
use Rattle.scip_model.specs.Tables.Plans.{around_in, own_texts, occurrence_of}
use Rattle.scip_model.proofs.PlanLemmas.{grown_same, grown_then}
use Rattle.scip_records.specs.declared.records.Occurrence.{Occurrence}
use Rattle.std.specs.declared.cmp.Ordering.TheVariants.{Equal}
use Rattle.proto_visibility.proofs.FileFactLemmas.{one_list_of_facts as same_facts}
use Rattle.scip_model.proofs.source_document.occurrences.Goals as goal

pub import_occurrences-requires-clause-parts : goal.import_occurrences-requires-clause-parts
import_occurrences-requires-clause-parts c =
    let text = c.args.maker.now.text.now in
    let facts = c.args.facts.now in
    subst (λ (imports : List Imported). All (λ (imported : Imported). IsPart text imported.span) imports)
    (sym c.imports.ensures)
    (all_of_map (IsPart text) (λ (imported : Imported). imported.span) facts.imports
    (stand_there text facts c.requires.text c.facts_occur_in_order.ensures.placed).imports)

pub package_occurrences-requires : goal.package_occurrences-requires
package_occurrences-requires c =
    let text = c.args.maker.now.text.now in
    let facts = c.args.facts.now in
    all_of_map (IsPart text) (λ (component : Component). component.span) facts.package_name
    (stand_there text facts c.requires.text c.facts_occur_in_order.ensures.placed).package_name

pub declaration_occurrences-requires-clause-parts : goal.declaration_occurrences-requires-clause-parts
declaration_occurrences-requires-clause-parts c =
    let text = c.args.maker.now.text.now in
    let facts = c.args.facts.now in
    all_of_map (IsPart text) (λ (declaration : Declaration). declaration.name) facts.declarations
    (stand_there text facts c.requires.text c.facts_occur_in_order.ensures.placed).names

pub declaration_occurrences-requires-clause-chosen : goal.declaration_occurrences-requires-clause-chosen
declaration_occurrences-requires-clause-chosen c =
    choices_there c.args.maker.now.package.now.files c.args.maker.now.choices.now c.args.maker.now.source c.args.facts.now
    c.requires.choices c.requires.known

pub use_occurrences-requires-clause-own : goal.use_occurrences-requires-clause-own
use_occurrences-requires-clause-own c = (
  c.args.facts.now,
  c.requires.known,
  grown_then (own_texts (home_of_file c.args.maker.now.package.now.files c.args.maker.now.package.now.ids
      c.args.maker.now.source) c.args.maker.now.package.now.ids.run c.args.facts.now) c.args.texts.now
      c.import_occurrences.new.texts c.requires.texts c.in_ok-imports.ensures.grown,
)

pub returns-clause-grown : goal.returns-clause-grown
returns-clause-grown c =
    grown_then c.args.texts.now c.import_occurrences.new.texts c.use_occurrences.new.texts
    c.in_ok-imports.ensures.grown c.in_ok-uses.ensures.grown

pub use_occurrences-requires-clause-stand : goal.use_occurrences-requires-clause-stand
use_occurrences-requires-clause-stand c =
    let text = c.args.maker.now.text.now in
    let facts = c.args.facts.now in
    subst (λ (uses : List Use). All
    (λ (used : Use). All (λ (component : Component). IsPart text component.span) used.components) uses)
    (sym c.uses.ensures)
    (uses_stand_there text facts.uses
    (stand_there text facts c.requires.text c.facts_occur_in_order.ensures.placed).uses)

pub use_occurrences-requires-clause-source : goal.use_occurrences-requires-clause-source
use_occurrences-requires-clause-source c =
    slice_get_within c.args.maker.now.package.now.files c.args.maker.now.source c.requires.source.file
    c.requires.source.numbered

pub use_occurrences-requires-clause-nameable : goal.use_occurrences-requires-clause-nameable
use_occurrences-requires-clause-nameable c = λ used found target is e.
    let files = c.args.maker.now.package.now.files in
    let source = c.args.maker.now.source in
    target_nameable files source (subst HaveOrigins c.linker.ensures.files c.facts_occur_in_order.ensures.origins) c.facts_occur_in_order.ensures.spelled used
    target (subst (IsFound files source used) e is)

pub returns-clause-unresolved_uses : goal.returns-clause-unresolved_uses
returns-clause-unresolved_uses c =
    let files = c.args.maker.now.package.now.files in
    let source = c.args.maker.now.source in
    let facts = c.args.facts.now in
    let made = c.in_ok-uses.ensures.planned in
    let all : AllZip (IsFound files source) facts.uses made.0 =
    subst (λ (uses : List Use). AllZip (IsFound files source) uses made.0) c.uses.ensures made.1 in
    let list = made.3
    ∙ (ap (λ (spans : List Span). spans ++ each_from (unresolved_use_at made.0) 0 c.uses.result.now) c.requires.empty
    ∙ ap (λ (uses : List Use). each_from (unresolved_use_at made.0) 0 uses) c.uses.ensures) in
    subst (λ (spans : List Span). AreUnresolvedUses files source spans) (sym list)
    (unresolved_of files source facts made.0 c.requires.known all)

pub returns-clause-planned : goal.returns-clause-planned
returns-clause-planned c =
    let files = c.args.maker.now.package.now.files in
    let chosen = c.args.maker.now.choices.now in
    let ids = c.args.maker.now.package.now.ids in
    let source = c.args.maker.now.source in
    let home = home_of_file files ids source in
    let linked = c.linker.ensures.files in
    let encoding = c.args.maker.now.encoding in
    let text = c.args.maker.now.text.now in
    let facts = c.args.facts.now in
    let made = c.in_ok-uses.ensures.planned in
    let found = made.0 in
    let all : AllZip (IsFound files source) facts.uses found =
    subst (λ (uses : List Use). AllZip (IsFound files source) uses found) c.uses.ensures made.1 in
    let path = c.requires.path in
    let origin = c.requires.text.origin in
    let texts = c.use_occurrences.new.texts in
    let around = around_in encoding text facts in
    let f = occurrence_of around texts in
    let later = c.in_ok-uses.ensures.grown in
    let grown = grown_then (own_texts home ids.run facts) c.args.texts.now texts c.requires.texts
    (grown_then c.args.texts.now c.import_occurrences.new.texts texts c.in_ok-imports.ensures.grown later) in
    let own = c.in_ok-own.ensures around home ids.run facts (omega arith) texts grown
    ∙ ap (λ (p : List ℕ). own_occurrence home.id p ∷ []) (ap path_if_there path.1) in
    let packages = c.in_ok-packages.ensures home texts grown in
    let names = c.in_ok-names.ensures ids.run texts grown in
    let imports = c.in_ok-imports.ensures.planned around texts later
    ∙ ap (λ (xs : List Imported). each_from (at_import ids encoding text files) 0 xs) c.imports.ensures in
    let untied : (x y : Occurrence) → Occurs files chosen ids encoding source text x
    → Occurs files chosen ids encoding source text y → occurrence_cmp x y ≡ Equal → x ≡ y =
    λ x y first second e. c.facts_occur_in_order.ensures.untied None files chosen ids encoding source text
    (λ other known. subst (AreOfText text) (same_facts files source facts other c.requires.known known) c.requires.text)
    x y first second (tied x y e).0 (tied x y e).1 in
    let uses = made.2 around texts (grown_same texts)
    ∙ ap (λ (xs : List Use). each_from (at_use ids encoding text files chosen found) 0 xs) c.uses.ensures in
    merged_lists ids encoding text c.facts_occur_in_order.ensures.characters files chosen source path.0 path.1 facts
    c.requires.known
    (stand_there text facts c.requires.text c.facts_occur_in_order.ensures.placed)
    (c.facts_occur_in_order.ensures.order.names facts origin)
    (c.facts_occur_in_order.ensures.order.uses facts origin)
    (c.facts_occur_in_order.ensures.order.imports facts origin)
    (c.facts_occur_in_order.ensures.order.package_name facts origin) found all
    (c.facts_occur_in_order.ensures.targets Keep files (subst HaveOrigins linked c.facts_occur_in_order.ensures.origins)
    (subst (NoClash Keep) linked c.facts_occur_in_order.ensures.clear.clear) source c.requires.source) untied
    (map f c.in_ok-with_imports.with_imports.items) (map f c.in_ok-with_packages.with_packages.items)
    (map f c.in_ok-with_names.with_names.items) (map f c.in_ok-list.list.items)
    (merged_of own imports (c.in_ok-with_imports.ensures.untied around))
    (merged_of refl packages (c.in_ok-with_packages.ensures.untied around))
    (merged_of refl names (c.in_ok-with_names.ensures.untied around))
    (merged_of refl uses (c.in_ok-list.ensures.untied around))
