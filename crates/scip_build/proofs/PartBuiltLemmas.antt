-- What is built of a part of a tree without faults is what is built of the whole.
use Rattle.std.proofs.Common.{◌≡◌, ◌∙◌, ◌⊎◌, inl, inr, ℕ, ◌<◌, Bool, true, false, not, List, [], ◌∷◌, length, map}
use Rattle.std.proofs.Common.{Some}
use Rattle.std.proofs.Common.{ap, sym, refl, subst}
use Rattle.std.specs.List.{AllByRecursion, Contains, filter, slice_get}
use Rattle.std.specs.Option.{option_map}
use Rattle.std.specs.declared.cmp.Ordering.TheVariants.{Less}
use Rattle.std.specs.Ordering.{bool_cmp, nat_cmp, ordering_then}
use Rattle.std.specs.Cmp.Lexicographic.{slice_cmp}
use Rattle.std.specs.List.Sorted.{IsStrictlySortedBy}
use Rattle.std.proofs.lemmas.Bool.{false≢true}
use Rattle.std.proofs.lemmas.Cmp.{nat_list_cmp_total}
use Rattle.std.proofs.lemmas.List.Kept.{IsStrictlySortedBy-filter}
use Rattle.std.proofs.lemmas.Option.{same_Some, slice_get-map, slice_get_within}
use Rattle.basics.proofs.ElementLemmas.{In, from_contained, from_filter, from_map, in_filter, in_map}
use Rattle.basics.proofs.ElementLemmas.{contained as in_contained}
use Rattle.basics.proofs.FirstLemmas.{at_contained, contained}
use Rattle.basics.proofs.ListLemmas.{contains_map, item_at, map_twice}
use Rattle.proto_decl.specs.Values.{Seen}
use Rattle.proto_visibility.specs.Files.{File, IsSource}
use Rattle.proto_visibility.specs.Kept.{NothingIsLeftOutOfGoodFiles}
use Rattle.proto_visibility.proofs.KeptAmongLemmas.{from_mapped}
use Rattle.index_hooks.specs.declared.choice.Choice.{Choice}
use Rattle.source_tree.specs.Files.{TreeFile, file_cmp}
use Rattle.source_tree.specs.Trees.{IsTree}
use Rattle.scip_records.specs.declared.records.Document.{Document}
use Rattle.scip_records.specs.declared.records.Index.{Index}
use Rattle.scip_records.specs.declared.records.SymbolInformation.{SymbolInformation}
use Rattle.scip_model.specs.Entries.{HasEntry}
use Rattle.scip_model.specs.Indexes.{IsIndexWith, document_cmp, metadata_of}
use Rattle.scip_model.specs.Packages.{naming}
use Rattle.scip_model.specs.Laws.{NothingIsRepeated}
use Rattle.scip_model.specs.Parts.{Indexed, IsDefinedIn, IsDocumentIn, IsWholePart}
use Rattle.scip_model.specs.Parts as model
use Rattle.scip_model.proofs.IndexSortLemmas.{one-ascending}
use Rattle.scip_model.proofs.PartOptionLemmas.{parts_document_alike}
use Rattle.scip_build.specs.Files.{ReadFile}
use Rattle.scip_build.specs.Linking.{linked_file, linked_files}
use Rattle.scip_build.specs.Documents.{asked_in, texts_of}
use Rattle.scip_build.specs.Kept.{NothingIsToldOfAGoodTree}
use Rattle.scip_build.specs.Laws.{NoFactsWhereUnreadable, OneBesideAFile, OneListOfFacts, ParsedFilesHaveOwnPaths}
use Rattle.scip_build.specs.Placing.{document_at, index_at, path_at}
use Rattle.scip_build.specs.Parts.{BuiltTree, ComesOfSource, HasDocuments, IsBuiltAlike, IsBuiltPart, IsBuiltTree}
use Rattle.scip_build.specs.Parts.{IsDefinedBy, IsFaultless, is_source, source_paths}
use Rattle.scip_build.proofs.PartTreeLemmas.{read_there}
use Rattle.scip_build.proofs.PartGoodLemmas.{AllAreLinked, all_paths, index_is, indexed, none_told, read_part}
use Rattle.scip_build.proofs.PartGoodLemmas.{to_whole, whole_part}

-- ---- lists by path

abbrev pub path_in : Document → List ℕ
path_in document = document.relative_path

all_paths_above : (document : Document) (documents : List Document)
    → AllByRecursion (λ other. document_cmp document other ≡ Less) documents
    → AllByRecursion (λ path. slice_cmp nat_cmp document.relative_path path ≡ Less) (map path_in documents)
all_paths_above document [] all = tt
all_paths_above document (other ∷ others) all = (all.0, all_paths_above document others all.1)

pub sorted_paths : (documents : List Document) → IsStrictlySortedBy document_cmp documents
    → IsStrictlySortedBy (slice_cmp nat_cmp) (map path_in documents)
unfolding IsStrictlySortedBy
sorted_paths [] ascends = tt
sorted_paths (document ∷ documents) ascends =
    (all_paths_above document documents ascends.0, sorted_paths documents ascends.1)

-- sources come by path
by_path : (file other : TreeFile) → file.is_included ≡ false → other.is_included ≡ false → file_cmp file other ≡ Less
    → slice_cmp nat_cmp file.path other.path ≡ Less
by_path file other source also less =
    sym (ap (λ b. ordering_then (bool_cmp b other.is_included) (slice_cmp nat_cmp file.path other.path)) source
    ∙ ap (λ b. ordering_then (bool_cmp false b) (slice_cmp nat_cmp file.path other.path)) also) ∙ less

abbrev path_of : TreeFile → List ℕ
path_of file = file.path

sources_above : (file : TreeFile) (files : List TreeFile) → AllByRecursion (λ other. file_cmp file other ≡ Less) files
    → file.is_included ≡ false → ((other : TreeFile) → In other files → other.is_included ≡ false)
    → AllByRecursion (λ path. slice_cmp nat_cmp file.path path ≡ Less) (map path_of files)
sources_above file [] all source sources = tt
sources_above file (other ∷ others) all source sources = (
  by_path file other source (sources other (inl refl)) all.0,
  sources_above file others all.1 source (λ next there. sources next (inr there)),
)

all_sorted : (files : List TreeFile) → IsStrictlySortedBy file_cmp files
    → ((file : TreeFile) → In file files → file.is_included ≡ false)
    → IsStrictlySortedBy (slice_cmp nat_cmp) (map path_of files)
unfolding IsStrictlySortedBy
all_sorted [] rising sources = tt
all_sorted (file ∷ files) rising sources = (
  sources_above file files rising.0 (sources file (inl refl)) (λ next there. sources next (inr there)),
  all_sorted files rising.1 (λ next there. sources next (inr there)),
)

not_included : (b : Bool) → not b ≡ true → b ≡ false
not_included true is_true = absurd (false≢true is_true)
not_included false is_true = refl

sorted_sources : (tree : List TreeFile) → IsStrictlySortedBy file_cmp tree
    → IsStrictlySortedBy (slice_cmp nat_cmp) (source_paths tree)
sorted_sources tree rising =
    all_sorted (filter is_source tree) (IsStrictlySortedBy-filter file_cmp is_source tree rising)
    (λ file there. not_included file.is_included (from_filter is_source file tree there).1)

module _ (told_law : NothingIsToldOfAGoodTree) (left_law : NothingIsLeftOutOfGoodFiles) (all_linked : AllAreLinked)
    (allows : Seen → Choice → Type 0) (tree : BuiltTree) (is : IsBuiltTree allows tree)
    (none : tree.built.told ≡ []) where
  abbrev plain : Index
  plain = is.plain

  placed : tree.built.index ≡ index_at tree.settings.at plain
  placed = is.placed

  -- ---- documents and external entries, as they are placed

  pub document_in : (document : Document) → Contains plain.documents document
      → Contains tree.built.index.documents (document_at tree.settings.at document)
  document_in document there =
      subst (λ (i : Index). Contains i.documents (document_at tree.settings.at document)) (sym placed)
      (contains_map (document_at tree.settings.at) plain.documents document there)

  pub document_from : (document : Document) → Contains tree.built.index.documents document
      → (own : Document) × Contains plain.documents own × (document ≡ document_at tree.settings.at own)
  document_from document there =
      let placed_there = subst (λ (i : Index). Contains i.documents document) placed there in
      let from = from_map (document_at tree.settings.at) document plain.documents
      (from_contained (map (document_at tree.settings.at) plain.documents) document placed_there) in
      (from.0, in_contained plain.documents from.0 from.1, from.2)

  pub externals_are : tree.built.index.external_symbols ≡ plain.external_symbols
  externals_are = ap (λ (i : Index). i.external_symbols) placed

  pub metadata_are : tree.built.index.metadata ≡ plain.metadata
  metadata_are = ap (λ (i : Index). i.metadata) placed

  -- ---- sources, by their paths

  -- a source of the tree
  pub tree_file : (k : ℕ) (read : ReadFile) → slice_get is.all k ≡ Some read
      → (file : TreeFile) × (slice_get tree.tree k ≡ Some file) × (read.path ≡ file.path)
      × (read.is_included ≡ file.is_included) × (read.is_left_out ≡ false)
  tree_file k read stands =
      let within : k < length tree.tree = rw (sym is.read.one_each) (slice_get_within is.all k read stands) in
      let file = item_at tree.tree k within in
      let one = is.read.each k file.0 read file.1 stands in
      (file.0, file.1, one.path, one.is_included, one.present)

  pub source_listed : (k : ℕ) (read : ReadFile) → slice_get is.all k ≡ Some read → IsSource (linked_files is.all) k
      → Contains (source_paths tree.tree) read.path
  source_listed k read stands source =
      let its = tree_file k read stands in
      let here : linked_file read ≡ source.file =
      same_Some (linked_file read) source.file
      (sym (ap (option_map linked_file) stands) ∙ (sym (slice_get-map linked_file is.all k) ∙ source.numbered)) in
      let included : its.0.is_included ≡ false =
      sym its.3 ∙ (ap (λ (f : File). f.is_included) here ∙ source.source) in
      subst (Contains (source_paths tree.tree)) (sym its.2)
      (in_contained (source_paths tree.tree) its.0.path
      (in_map path_of its.0 (filter is_source tree.tree)
      (in_filter is_source its.0 (ap not included) tree.tree
      (from_contained tree.tree its.0 (contained tree.tree k its.0 its.1)))))

  pub record IsSourceThere (path : List ℕ) : Type 0 where
    pub number : ℕ
    pub read : ReadFile
    pub numbered : slice_get is.all number ≡ Some read
    pub source : IsSource (linked_files is.all) number
    pub same : read.path ≡ path

  pub source_there : (path : List ℕ) → Contains (source_paths tree.tree) path → IsSourceThere path
  source_there path listed =
      let from = from_map path_of path (filter is_source tree.tree)
      (from_contained (source_paths tree.tree) path listed)
      in
      let passes = from_filter is_source from.0 tree.tree from.1 in
      let there = in_contained tree.tree from.0 passes.0 in
      let stands = at_contained tree.tree from.0 there in
      let within : there.0 < length is.all =
      rw is.read.one_each (slice_get_within tree.tree there.0 from.0 stands) in
      let read = item_at is.all there.0 within in
      let one = is.read.each there.0 from.0 read.0 stands read.1 in
      record {
        number = there.0;
        read = read.0;
        numbered = read.1;
        source = record {
          file = linked_file read.0;
          numbered = slice_get-map linked_file is.all there.0 ∙ ap (option_map linked_file) read.1;
          source = one.is_included ∙ not_included from.0.is_included passes.1;
          present = one.present;
        };
        same = one.path ∙ sym from.2;
      }

  -- ---- the documents are at the paths of the sources

  pub paths_are : IsTree tree.tree → HasDocuments tree
  paths_are is_tree =
      let plain_paths : map path_in plain.documents ≡ source_paths tree.tree =
      one-ascending nat_list_cmp_total (map path_in plain.documents) (source_paths tree.tree)
      (sorted_paths plain.documents made.documents.ascends) (sorted_sources tree.tree is_tree.rising) of_document
      of_source
      in
      ap (λ (i : Index). map path_in i.documents) placed
      ∙ (map_twice path_in (document_at tree.settings.at) plain.documents
      ∙ (sym (map_twice (path_at tree.settings.at) path_in plain.documents)
      ∙ ap (map (path_at tree.settings.at)) plain_paths))
    where
      made : IsIndexWith (asked_in tree.settings is.all) (linked_files is.all) (texts_of is.all) tree.built.choices
          (naming tree.settings.«package» is.of_files.repeated) tree.settings.encoding tree.settings.project_root plain
      made = index_is told_law left_law all_linked allows tree is none

      of_document : (path : List ℕ) → Contains (map path_in plain.documents) path
          → Contains (source_paths tree.tree) path
      of_document path there =
          let from = from_map path_in path plain.documents
          (from_contained (map path_in plain.documents) path there) in
          let has = (made.documents.exact from.0).0 (in_contained plain.documents from.0 from.1) in
          let read = from_mapped linked_file is.all has.source has.is.file has.is.numbered in
          subst (Contains (source_paths tree.tree))
          (ap (λ (f : File). f.path) read.2 ∙ (sym has.is.relative_path ∙ sym from.2))
          (source_listed has.source read.0 read.1 (record {
            file = has.is.file;
            numbered = has.is.numbered;
            source = has.is.is_source;
            present = has.is.present;
          }))

      of_source : (path : List ℕ) → Contains (source_paths tree.tree) path
          → Contains (map path_in plain.documents) path
      of_source path listed =
          let its = source_there path listed in
          let document = made.each its.number its.source in
          let numbered : slice_get (linked_files is.all) its.number ≡ Some document.2.is.file =
          subst (λ n. slice_get (linked_files is.all) n ≡ Some document.2.is.file) document.3 document.2.is.numbered in
          let one : linked_file its.read ≡ document.2.is.file =
          same_Some (linked_file its.read) document.2.is.file
          (sym (ap (option_map linked_file) its.numbered)
          ∙ (sym (slice_get-map linked_file is.all its.number) ∙ numbered)) in
          subst (Contains (map path_in plain.documents))
          (document.2.is.relative_path ∙ (ap (λ (f : File). f.path) (sym one) ∙ its.same))
          (contains_map path_in plain.documents document.0 document.1)

-- ---- of a part

module _ (one : OneListOfFacts) (one_beside : OneBesideAFile) (apart : NoFactsWhereUnreadable)
    (told_law : NothingIsToldOfAGoodTree) (left_law : NothingIsLeftOutOfGoodFiles) (all_linked : AllAreLinked)
    (once_law : NothingIsRepeated) (allows : Seen → Choice → Type 0) (paths_law : ParsedFilesHaveOwnPaths allows)
    (whole : BuiltTree) (is : IsBuiltTree allows whole) (free : IsFaultless allows whole is) where
  abbrev whole_made : IsIndexWith (asked_in whole.settings is.all) (linked_files is.all) (texts_of is.all)
      whole.built.choices (naming whole.settings.«package» is.of_files.repeated) whole.settings.encoding
      whole.settings.project_root is.plain
  whole_made = index_is told_law left_law all_linked allows whole is free.none

  abbrev whole_is : Indexed
  whole_is = indexed told_law left_law all_linked allows whole is free.none

  module _ (part : BuiltTree) (of : IsBuiltPart allows whole is part) where
    abbrev told : part.built.told ≡ []
    told = none_told one one_beside apart told_law left_law all_linked once_law allows paths_law whole is free part of

    abbrev there : ℕ → ℕ
    there = to_whole one one_beside apart told_law left_law all_linked once_law allows paths_law whole is free part of

    abbrev part_is : Indexed
    part_is = indexed told_law left_law all_linked allows part of.built told

    abbrev made : IsIndexWith (asked_in part.settings of.built.all) (linked_files of.built.all) (texts_of of.built.all)
        part.built.choices (naming part.settings.«package» of.built.of_files.repeated) part.settings.encoding
        part.settings.project_root of.built.plain
    made = index_is told_law left_law all_linked allows part of.built told

    abbrev a_part : IsWholePart part_is whole_is there
    a_part = whole_part one one_beside apart told_law left_law all_linked once_law allows paths_law whole is free part
        of

    document_too : (document : Document) → Contains of.built.plain.documents document
        → Contains is.plain.documents document
    document_too document listed =
        let has = (made.documents.exact document).0 listed in
        (whole_made.documents.exact document).1 (record {
          source = there has.source;
          text = has.text;
          text_is = sym (a_part.of_whole.texts has.source has.is.file has.is.numbered) ∙ has.text_is;
          is = subst (λ encoding. IsDocumentIn whole_is encoding (there has.source) has.text document)
              of.of_whole.set.same.encoding (parts_document_alike.documents part_is whole_is there a_part
              part.settings.encoding
              has.source has.text document has.is);
        })

    placed_too : (document : Document) → Contains part.built.index.documents document
        → Contains whole.built.index.documents document
    placed_too document listed =
        let own = document_from told_law left_law all_linked allows part of.built told document listed in
        subst (Contains whole.built.index.documents)
        (ap (λ at. document_at at own.0) (sym of.of_whole.set.same.at) ∙ sym own.2)
        (document_in told_law left_law all_linked allows whole is free.none own.0 (document_too own.0 own.1))

    defined_by : (entry : SymbolInformation) → IsDefinedIn whole_is entry
        → IsDefinedBy whole.built.index.documents entry
    defined_by entry defined =
        let document = whole_made.each defined.0 defined.1 in
        record {
          document = document_at whole.settings.at document.0;
          listed = document_in told_law left_law all_linked allows whole is free.none document.0 document.1;
          has = (document.2.is.symbols.exact entry).1
              (subst (λ n. HasEntry whole_is.files whole_is.chosen whole_is.ids n entry) (sym document.3) defined.2);
        }

    external_too : (entry : SymbolInformation) → Contains part.built.index.external_symbols entry
        → Contains whole.built.index.external_symbols entry ⊎ IsDefinedBy whole.built.index.documents entry
    external_too entry listed =
        let own = subst (λ es. Contains es entry)
        (externals_are told_law left_law all_linked allows part of.built told) listed in
        elim (parts_document_alike.own part_is whole_is there a_part entry ((made.externals.exact entry).0 own)) [
          | inl external ↦ inl (subst (λ es. Contains es entry)
              (sym (externals_are told_law left_law all_linked allows whole is free.none))
              ((whole_made.externals.exact entry).1 external))
          | inr defined ↦ inr (defined_by entry defined)
        ]

    pub alike : IsBuiltAlike whole part
    alike = record {
      none = told;
      metadata = metadata_are told_law left_law all_linked allows part of.built told ∙ (made.metadata_is
          ∙ (ap (λ root. Some (metadata_of root)) of.of_whole.set.same.project_root ∙ (sym whole_made.metadata_is
          ∙ sym (metadata_are told_law left_law all_linked allows whole is free.none))));
      documents = placed_too;
      externals = external_too;
    }

    -- an external entry of the whole that comes of a source of the part
    pub external_of : (entry : SymbolInformation) (comes : model.ComesOfSource whole_is entry) (read : ReadFile)
        → slice_get is.all comes.source ≡ Some read → Contains (source_paths part.tree) read.path
        → Contains part.built.index.external_symbols entry
    external_of entry comes read numbered listed =
        let here = source_there told_law left_law all_linked allows part of.built told read.path listed in
        let its = read_there one one_beside apart allows whole is
        (read_part one one_beside apart told_law left_law all_linked once_law allows paths_law whole is free part of)
        of.of_whole here.number here.read here.numbered in
        let paths = all_paths one one_beside apart told_law left_law all_linked once_law allows paths_law whole is free
        (read_part one one_beside apart told_law left_law all_linked once_law allows paths_law whole is free part of)
        of.of_whole in
        let same = paths (there here.number) comes.source (linked_file its.other) (linked_file read)
        (slice_get-map linked_file is.all (there here.number) ∙ ap (option_map linked_file) its.numbered)
        (slice_get-map linked_file is.all comes.source ∙ ap (option_map linked_file) numbered)
        (sym its.path ∙ here.same) in
        subst (λ es. Contains es entry) (sym (externals_are told_law left_law all_linked allows part of.built told))
        ((made.externals.exact entry).1 (comes.each part_is there a_part here.number here.source same))

  pub comes_of : (entry : SymbolInformation) → Contains whole.built.index.external_symbols entry
      → ComesOfSource allows whole is entry
  comes_of entry listed =
      let external = (whole_made.externals.exact entry).0
      (subst (λ es. Contains es entry) (externals_are told_law left_law all_linked allows whole is free.none) listed) in
      let comes = parts_document_alike.each whole_is entry external in
      let read = from_mapped linked_file is.all comes.source comes.is_source.file comes.is_source.numbered in
      record {
        source = read.0.path;
        listed = source_listed told_law left_law all_linked allows whole is free.none comes.source read.0 read.1
            comes.is_source;
        each = λ part of listed_there. external_of part of entry comes read.0 read.1 listed_there;
      }
