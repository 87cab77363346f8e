use Rattle.std.specs.Option.{option_map}
use Rattle.std.proofs.Common.{◌≡◌, ◌∙◌, ◌<◌, ap, sym, refl, subst, List, ℕ, length, map}
use Rattle.scip_model.proofs.ConditionLinkedLemmas.{source-facts}
use Rattle.scip_model.proofs.NamedLemmas.{some_facts, given_facts, facts_there}
use Rattle.std.proofs.lemmas.Option.{slice_get_within, same_Some}
use Rattle.scip_symbol.specs.Package.{Package}
use Rattle.scip_model.specs.Packages.{path_if_there}
use Rattle.scip_model.specs.Named.{Home}
use Rattle.scip_model.specs.Makers.{source_home, source_texts}
use Rattle.scip_model.specs.declared.document_maker.DocumentMaker.{DocumentMaker}
use Rattle.option_link.specs.Linked.{LinkedOptions}
use denote.Ref.{Bor}
use Rattle.proto_decl.specs.Facts.{Facts}
use Rattle.scip_model.proofs.OptionOccurLemmas.{with-asked}
use Rattle.proto_visibility.specs.Absences.{NoneBroken}
use Rattle.scip_model.specs.Tables.Plans.{own_texts, Grown}
use Rattle.scip_symbol.specs.Path.{IsGoodPath}
use Rattle.scip_model.proofs.PlanLemmas.{grown_same, grown_then}
use Rattle.proto_visibility.specs.Files.{File, HasPathAt}
use Rattle.index_hooks.specs.declared.choice.Choice.{Choice}
use Rattle.scip_model.specs.Entries.{HasEntry}
use Rattle.scip_model.specs.Indexes.{IsAscendingListOf, info_cmp}
use Rattle.scip_model.specs.OccurrenceOrder.{occurrence_cmp}
use Rattle.scip_model.specs.Options.{OccursWith}
use Rattle.scip_model.specs.Tables.EntryLists.{choices_for, package_names}
use Rattle.scip_model.specs.Tables.Plans.{around_by, around_in, arounds_in, entry_of, occurrence_of}
use Rattle.scip_records.specs.Range.{RangeNumbers}
use Rattle.scip_model.proofs.source_document.plan_asked.Goals as goal

pub facts_of-requires : goal.facts_of-requires
facts_of-requires c =
    let source = c.requires.source in
    subst (λ (files : List File). c.args.maker.now.source < length files) (sym c.linker-linker.ensures.files)
    (slice_get_within c.args.maker.now.package.now.files c.args.maker.now.source source.file source.numbered)

pub path_of-path-requires : goal.path_of-path-requires
path_of-path-requires c =
    let source = c.requires.source in
    subst (λ (files : List File). c.args.maker.now.source < length files) (sym c.linker-linker.ensures.files)
    (slice_get_within c.args.maker.now.package.now.files c.args.maker.now.source source.file source.numbered)

pub unwrap-facts-requires : goal.unwrap-facts-requires
unwrap-facts-requires c =
    let files = c.args.maker.now.package.now.files in
    let source = c.args.maker.now.source in
    let facts = source-facts files source (subst NoneBroken c.linker-linker.ensures.files c.linked.ensures.clear.read)
    c.requires.source in
    some_facts files source facts.0 c.facts_of.result facts.1
    (facts_there files c.linker-linker.result.now source c.facts_of.result c.linker-linker.ensures.files
    c.facts_of.ensures)

pub occurrences-requires-clause-known : goal.occurrences-requires-clause-known
occurrences-requires-clause-known c =
    let files = c.args.maker.now.package.now.files in
    let source = c.args.maker.now.source in
    given_facts files source c.facts_of.result c.unwrap-facts.result c.unwrap-facts.ensures
    (facts_there files c.linker-linker.result.now source c.facts_of.result c.linker-linker.ensures.files
    c.facts_of.ensures)

pub occurrences-requires-clause-text : goal.occurrences-requires-clause-text
occurrences-requires-clause-text c =
    let files = c.args.maker.now.package.now.files in
    let source = c.args.maker.now.source in
    c.requires.text c.unwrap-facts.result.now
    (given_facts files source c.facts_of.result c.unwrap-facts.result c.unwrap-facts.ensures
    (facts_there files c.linker-linker.result.now source c.facts_of.result c.linker-linker.ensures.files
    c.facts_of.ensures))

pub occurrences-requires-clause-path : goal.occurrences-requires-clause-path
occurrences-requires-clause-path c =
    subst (λ (files : List File). HasPathAt files c.path_of-path.result.now c.args.maker.now.source)
    c.linker-linker.ensures.files c.path_of-path.ensures

pub entry_numbers-requires-clause-known : goal.entry_numbers-requires-clause-known
entry_numbers-requires-clause-known c =
    let files = c.args.maker.now.package.now.files in
    let source = c.args.maker.now.source in
    given_facts files source c.facts_of.result c.unwrap-facts.result c.unwrap-facts.ensures
    (facts_there files c.linker-linker.result.now source c.facts_of.result c.linker-linker.ensures.files
    c.facts_of.ensures)

pub entry_numbers-requires-clause-path : goal.entry_numbers-requires-clause-path
entry_numbers-requires-clause-path c =
    subst (λ (files : List File). HasPathAt files c.path_of-path.result.now c.args.maker.now.source)
    c.linker-linker.ensures.files c.path_of-path.ensures

pub home_of-home-requires : goal.home_of-home-requires
home_of-home-requires c =
    let source = c.requires.source in
    slice_get_within c.args.maker.now.package.now.files c.args.maker.now.source source.file source.numbered

pub own_texts-requires : goal.own_texts-requires
own_texts-requires c =
    let source = c.requires.source in
    subst (λ (home : Home). IsGoodPath home.path) (sym c.home_of-home.ensures)
    (subst IsGoodPath (sym (ap path_if_there source.numbered))
    (c.requires.paths c.args.maker.now.source source.file source.numbered))

own-grown : (maker : DocumentMaker) (facts : Facts) (home : Home) (run : Package) (own texts : List (List ℕ))
    → texts ≡ own → own ≡ own_texts home run facts → home ≡ source_home maker → run ≡ maker.package.now.ids.run
    → Grown (source_texts maker facts) texts
own-grown maker facts home run own texts new is homes runs =
    subst (λ (its : List (List ℕ)). Grown its texts)
    (new ∙ (is ∙ (ap (λ (h : Home). own_texts h run facts) homes
    ∙ ap (λ (r : Package). own_texts (source_home maker) r facts) runs)))
    (grown_same texts)

pub occurrences_if_asked-requires-clause-own : goal.occurrences_if_asked-requires-clause-own
occurrences_if_asked-requires-clause-own c = (
  c.unwrap-facts.result.now,
  given_facts c.args.maker.now.package.now.files c.args.maker.now.source c.facts_of.result c.unwrap-facts.result
      c.unwrap-facts.ensures
      (facts_there c.args.maker.now.package.now.files c.linker-linker.result.now c.args.maker.now.source
      c.facts_of.result c.linker-linker.ensures.files c.facts_of.ensures),
  own-grown c.args.maker.now c.unwrap-facts.result.now c.home_of-home.result c.run.result.now c.in_ok-own.own
      c.new-texts.result c.new-texts.ensures c.in_ok-own.ensures c.home_of-home.ensures c.run.ensures.value,
)

pub occurrences-requires-clause-texts : goal.occurrences-requires-clause-texts
occurrences-requires-clause-texts c =
    grown_then (source_texts c.args.maker.now c.unwrap-facts.result.now) c.new-texts.result
    c.occurrences_if_asked.new.texts
    (own-grown c.args.maker.now c.unwrap-facts.result.now c.home_of-home.result c.run.result.now c.in_ok-own.own
    c.new-texts.result c.new-texts.ensures c.in_ok-own.ensures c.home_of-home.ensures c.run.ensures.value)
    c.in_ok-of_options.ensures.grown

pub entry_numbers-requires-clause-texts : goal.entry_numbers-requires-clause-texts
entry_numbers-requires-clause-texts c =
    let own = source_texts c.args.maker.now c.unwrap-facts.result.now in
    grown_then own c.occurrences_if_asked.new.texts c.occurrences.new.texts
    (grown_then own c.new-texts.result c.occurrences_if_asked.new.texts
    (own-grown c.args.maker.now c.unwrap-facts.result.now c.home_of-home.result c.run.result.now c.in_ok-own.own
    c.new-texts.result c.new-texts.ensures c.in_ok-own.ensures c.home_of-home.ensures c.run.ensures.value)
    c.in_ok-of_options.ensures.grown) c.in_ok-besides.ensures.grown

pub declaration_ranges-requires : goal.declaration_ranges-requires
declaration_ranges-requires c =
    let files = c.args.maker.now.package.now.files in
    let source = c.args.maker.now.source in
    c.requires.text c.unwrap-facts.result.now
    (given_facts files source c.facts_of.result c.unwrap-facts.result c.unwrap-facts.ensures
    (facts_there files c.linker-linker.result.now source c.facts_of.result c.linker-linker.ensures.files
    c.facts_of.ensures))

pub returns-clause-unresolved_uses : goal.returns-clause-unresolved_uses
returns-clause-unresolved_uses c = rw c.from_vec.ensures c.in_ok-besides.ensures.unresolved_uses

pub returns-clause-document : goal.returns-clause-document
returns-clause-document c =
    let maker = c.args.maker.now in
    let files = maker.package.now.files in
    let source = maker.source in
    let facts = c.unwrap-facts.result.now in
    let path = subst (λ (list : List File). HasPathAt list c.path_of-path.result.now source)
    c.linker-linker.ensures.files c.path_of-path.ensures in
    let texts = c.occurrences.new.texts in
    let same_file = same_Some _ _ (sym path.1 ∙ c.requires.source.numbered) in
    let its = c.path_of-path.result.now in
    let numbers = c.in_ok-entries.entries.items in
    let arounds = c.in_ok-arounds.arounds in
    let symbols = ap (λ (names : List (List ℕ)).
    map (entry_of texts its names facts c.of_file.result.now arounds) numbers)
    (c.in_ok-packages.ensures ∙ ap package_names c.package_name.ensures)
    ∙ (ap (λ (choices : List Choice).
    map (entry_of texts its (package_names facts.package_name) facts choices arounds) numbers) c.of_file.ensures
    ∙ ap (λ (own : List (List ℕ)). map (entry_of texts its (package_names facts.package_name) facts
    (choices_for maker.choices.now source) own) numbers)
    (c.in_ok-arounds.ensures ∙ ap (λ (home : Home). arounds_in home facts) c.home_of-home.ensures)) in
    let planned = λ (ranges : List RangeNumbers).
    map (occurrence_of (around_by facts ranges) texts) c.in_ok-occurrences.occurrences.items in
    let around = around_in maker.encoding maker.text.now facts in
    let f = occurrence_of around texts in
    let asked = option_map (λ (linked : Bor LinkedOptions). linked.now.known) c.args.options in
    record {
      file = c.requires.source.file;
      numbered = c.requires.source.numbered;
      is_source = c.requires.source.source;
      present = c.requires.source.present;
      relative_path = sym path.2 ∙ ap (λ (f : File). f.path) same_file;
      occurrences = subst (IsAscendingListOf occurrence_cmp
          (OccursWith asked files maker.choices.now maker.package.now.ids maker.encoding source maker.text.now))
          (ap planned (sym c.in_ok-ranges.ensures))
          (with-asked files maker.choices.now maker.package.now.ids maker.encoding source maker.text.now asked
          (map f c.in_ok-besides.besides.items) (map f c.in_ok-of_options.of_options.items)
          (map f c.in_ok-occurrences.occurrences.items) c.in_ok-besides.ensures.planned
          (c.in_ok-of_options.ensures.planned around texts c.in_ok-besides.ensures.grown)
          (c.in_ok-occurrences.ensures around));
      symbols = subst (IsAscendingListOf info_cmp (HasEntry files maker.choices.now maker.package.now.ids source))
          (sym symbols) c.in_ok-entries.ensures;
      language = refl;
      position_encoding = refl;
    }
