-- No document of a tree without faults has an entry of the symbol of an external entry.
use Rattle.std.proofs.Common.{◌≡◌, ◌∙◌, ◌<◌, Bool, true, false, List, length, ap, sym, refl}
use Rattle.std.proofs.Common.{subst}
use Rattle.std.specs.Prelude.{IfSome}
use Rattle.std.specs.List.{Contains}
use Rattle.std.specs.List.Sorted.{IsStrictlySortedBy}
use Rattle.std.proofs.lemmas.List.Elements.{All-contains}
use Rattle.std.proofs.lemmas.Option.{slice_get_within}
use Rattle.basics.proofs.FirstLemmas.{contained}
use Rattle.basics.proofs.ListLemmas.{item_at}
use Rattle.proto_decl.specs.Values.{Seen}
use Rattle.proto_visibility.specs.declared.clash.Duplicates.{Duplicates}
use Rattle.proto_visibility.specs.declared.clash.Duplicates.TheVariants.{Keep}
use Rattle.proto_visibility.specs.Files.{File, HaveOrigins}
use Rattle.proto_visibility.specs.Linked.{HaveClearNames}
use Rattle.proto_visibility.specs.Kept.{NothingIsLeftOutOfGoodFiles}
use Rattle.proto_visibility.proofs.KeptAmongLemmas.{from_mapped}
use Rattle.proto_link.specs.Laws.{OneDeclarationAName}
use Rattle.option_link.specs.Laws.{TargetsAreReachable}
use Rattle.index_hooks.specs.declared.choice.Choice.{Choice}
use Rattle.source_tree.specs.Files.{TreeFile}
use Rattle.source_tree.specs.Path.{IsGoodPath}
use Rattle.scip_records.specs.declared.records.Document.{Document}
use Rattle.scip_model.specs.Conditions.{HaveGoodPaths}
use Rattle.scip_model.specs.Indexes.{info_cmp}
use Rattle.scip_model.specs.Laws.{SymbolsNameOne}
use Rattle.scip_model.specs.Options.{AllLinkOptions}
use Rattle.scip_model.specs.Packages.{ArePackages, naming}
use Rattle.scip_model.specs.Tables.KnownFacts.{AreApart, AreIdentifiers}
use Rattle.scip_model.proofs.PartUndefinedLemmas as model
use Rattle.scip_build.specs.FactForms.{form_of}
use Rattle.scip_build.specs.Linking.{linked_file, linked_files}
use Rattle.scip_build.specs.Documents.{asked_if, asks_in}
use Rattle.scip_build.specs.Kept.{NothingIsToldOfAGoodTree}
use Rattle.scip_build.specs.Laws.{ParsedFilesHaveOwnPaths}
use Rattle.scip_build.specs.Parts.{BuiltTree, HasApartExternals, IsBuiltTree, IsFaultless}
use Rattle.scip_build.proofs.PartGoodLemmas.{AllAreLinked, are_repeated, good, index_is}
use Rattle.scip_build.proofs.PartBuiltLemmas.{document_from, externals_are, tree_file}

-- the facts of files that were read are those of texts
abbrev pub ReadHaveOrigins : (allows : Seen → Choice → Type 0) → Type 0
ReadHaveOrigins allows = (all : BuiltTree) (is : IsBuiltTree allows all) → HaveOrigins (linked_files is.all)

-- files that are one namespace are one each
abbrev pub ClearEach : Type 0
ClearEach = (duplicates : Duplicates) (files : List File) → HaveClearNames duplicates files → HaveClearNames Keep files

module _ (told_law : NothingIsToldOfAGoodTree) (left_law : NothingIsLeftOutOfGoodFiles) (all_linked : AllAreLinked)
    (one_name : OneDeclarationAName) (spelled : AreIdentifiers) (symbols : SymbolsNameOne)
    (targets : TargetsAreReachable) (clear_each : ClearEach) (allows : Seen → Choice → Type 0)
    (origins : ReadHaveOrigins allows) (paths_law : ParsedFilesHaveOwnPaths allows)
    (all : BuiltTree) (is : IsBuiltTree allows all) (free : IsFaultless allows all is)
    (packages : ArePackages all.settings.«package») where
  abbrev files : List File
  files = linked_files is.all

  stand_apart : AreApart files (naming all.settings.«package» is.of_files.repeated)
  stand_apart =
      let linked = (good told_law left_law all_linked allows all is free.none).0 in
      record {
        own = paths_law all.settings.faulty all.settings.dialect (form_of all.settings) all.tree is.all is.read
            free.is_tree.own;
        origins = origins all is;
        clear = (clear_each all.settings.duplicates files (record { read = linked.read; clear = linked.clear })).clear;
        repeated = are_repeated told_law left_law all_linked allows all is free.none;
        one_name = one_name;
        spelled = spelled;
        symbols = symbols;
      }

  good_paths : HaveGoodPaths files
  good_paths k file stands =
      let read = from_mapped linked_file is.all k file stands in
      let its = tree_file told_law left_law all_linked allows all is free.none k read.0 read.1 in
      subst IsGoodPath (sym its.2 ∙ ap (λ (f : File). f.path) read.2)
      (All-contains (λ (f : TreeFile). IsGoodPath f.path) all.tree its.0 free.is_tree.good
      (contained all.tree k its.0 its.1))

  links : (asks : Bool) → asks_in all.settings ≡ asks → IfSome (asked_if asks is.all) (λ known. AllLinkOptions files)
  links false same = tt
  links true same = λ source is_source.
      let read = from_mapped linked_file is.all source is_source.file is_source.numbered in
      let within : source < length all.tree = rw (sym is.read.one_each) (slice_get_within is.all source read.0 read.1)
      in
      let file = item_at all.tree source within in
      let one = is.read.each source file.0 read.0 file.1 read.1 in
      record {
        file = is_source.file;
        numbered = is_source.numbered;
        links = ap (λ (f : File). f.links_options) (sym read.2) ∙ (one.links ∙ same);
      }

  pub apart_externals : HasApartExternals all
  apart_externals = record {
    by_symbol = subst (IsStrictlySortedBy info_cmp)
        (sym (externals_are told_law left_law all_linked allows all is free.none))
        (index_is told_law left_law all_linked allows all is free.none).externals.ascends;
    undefined = λ entry other listed defined.
        let made = index_is told_law left_law all_linked allows all is free.none in
        let external = (made.externals.exact entry).0
        (subst (λ es. Contains es entry) (externals_are told_law left_law all_linked allows all is free.none) listed) in
        let own = document_from told_law left_law all_linked allows all is free.none defined.document defined.listed in
        let has = (made.documents.exact own.0).0 own.1 in
        let among = subst (λ (d : Document). Contains d.symbols other) own.2 defined.has in
        model.undefined files (naming all.settings.«package» is.of_files.repeated) all.built.choices stand_apart
        (record { run = packages.run; roots = packages.roots }) good_paths targets
        (asked_if (asks_in all.settings) is.all) (links (asks_in all.settings) refl) _ entry external has.source
        (record {
          file = has.is.file;
          numbered = has.is.numbered;
          source = has.is.is_source;
          present = has.is.present;
        }) other ((has.is.symbols.exact other).0 among);
  }
