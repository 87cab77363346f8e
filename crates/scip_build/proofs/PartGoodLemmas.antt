-- A part of a tree without faults is without faults, and of the whole's files: with the same texts, choices and
-- packages.
use Rattle.std.proofs.Common.{◌≡◌, ◌∙◌, inl, inr, ℕ, ◌<◌, Bool, true, false, List, [], length, map, Some}
use Rattle.std.proofs.Common.{ap}
use Rattle.std.proofs.Common.{sym, refl, subst, arith}
use Rattle.std.specs.List.{Contains, slice_get}
use Rattle.std.specs.Option.{option_map}
use Rattle.std.proofs.lemmas.Bool.{cases_order}
use Rattle.std.proofs.lemmas.List.{length-map}
use Rattle.std.proofs.lemmas.Option.{same_Some, slice_get-map}
use Rattle.basics.proofs.FirstLemmas.{contained}
use Rattle.basics.proofs.ListLemmas.{in_nothing, item_at}
use Rattle.proto_decl.specs.Values.{Seen}
use Rattle.proto_visibility.specs.declared.clash.Duplicates.{Duplicates}
use Rattle.proto_visibility.specs.declared.clash.Duplicates.TheVariants.{Refuse, Keep}
use Rattle.proto_visibility.specs.declared.files.FilePlace.{FilePlace}
use Rattle.proto_visibility.specs.Files.{File, HaveOwnPaths, IsPresent}
use Rattle.proto_visibility.specs.Clashes.{NoClash}
use Rattle.proto_visibility.specs.Linked.{CanBeLinked}
use Rattle.proto_visibility.specs.Kept.{Omissions, AreAllKept, NothingIsLeftOutOfGoodFiles}
use Rattle.proto_visibility.specs.Parts.{HasAllReached, IsPart, renumbered}
use Rattle.proto_visibility.proofs.KeptAmongLemmas.{from_mapped}
use Rattle.proto_visibility.proofs.PartLemmas.{facts_to, shares}
use Rattle.proto_visibility.proofs.PartLinkedLemmas.{one_number, parts_can_be_linked, reachable_to, source_to}
use Rattle.proto_visibility.proofs.PartReachLemmas.{all_seen}
use Rattle.proto_link.proofs.PartLemmas.{names_in_part}
use Rattle.option_link.specs.declared.facts.OptionFacts.{OptionFacts}
use Rattle.option_link.specs.Parts.{AreKnownAlike}
use Rattle.option_link.proofs.PartTargetLemmas.{parts_name_alike}
use Rattle.index_hooks.specs.declared.choice.Choice.{Choice}
use Rattle.scip_model.specs.Conditions.{AllResolve}
use Rattle.scip_model.specs.Packages.{RepeatedNames, names_at, naming, package_if_there, package_of_file}
use Rattle.scip_model.specs.Packages.{package_of_path, path_at, path_if_there}
use Rattle.scip_model.specs.Repeated.{AreRepeated, HasOutermost, IsRepeated, home_of_file}
use Rattle.scip_model.specs.Options.{AllLinkOptions}
use Rattle.scip_model.specs.Indexes.{IsIndexWith}
use Rattle.scip_model.specs.Laws.{NothingIsRepeated}
use Rattle.scip_model.specs.Parts.{AreAskedAlike, Indexed, IsWholePart}
use Rattle.scip_model.proofs.PackageLemmas.{whatever-repeated}
use Rattle.scip_build.specs.declared.read_form.ReadForm.{ReadForm}
use Rattle.scip_build.specs.declared.settings.Settings.{Settings}
use Rattle.scip_build.specs.FactForms.{form_of}
use Rattle.scip_build.specs.Parsed.{asks_options}
use Rattle.scip_build.specs.Files.{ReadFile}
use Rattle.scip_build.specs.Linking.{choices_of, linked_file, linked_files}
use Rattle.scip_build.specs.Documents.{HasReadText, HaveNoGaps, IsGapAt, asked_if, asked_in, asks_in, beside_in}
use Rattle.scip_build.specs.Documents.{known_in}
use Rattle.scip_build.specs.Documents.{text_of, texts_of}
use Rattle.scip_build.specs.Keeping.{linked_of}
use Rattle.scip_build.specs.Kept.{NothingIsToldOfAGoodTree}
use Rattle.scip_build.specs.Laws.{NoFactsWhereUnreadable, OneBesideAFile, OneListOfFacts, ParsedFilesHaveOwnPaths}
use Rattle.scip_build.specs.Parts.{BuiltTree, IsBuiltPart, IsBuiltTree, IsFaultless, IsPartTree}
use Rattle.scip_build.proofs.PartTreeLemmas.{ReadTree, at, has_all_reached, is_part, read_there}

-- all are linked, if none is left out
abbrev pub AllAreLinked : Type 0
AllAreLinked = (omissions : Omissions) (all : List ReadFile) → length omissions ≡ length all → AreAllKept omissions
    → linked_of omissions all ≡ all

abbrev pub IsGood : Settings → List ReadFile → Type 0
IsGood settings all = CanBeLinked settings.duplicates (linked_files all) × AllResolve (linked_files all)
    × HaveNoGaps (asked_in settings all) all (linked_files all)

-- ---- of a tree of which nothing is told

module _ (told_law : NothingIsToldOfAGoodTree) (left_law : NothingIsLeftOutOfGoodFiles) (all_linked : AllAreLinked)
    (allows : Seen → Choice → Type 0) (tree : BuiltTree) (is : IsBuiltTree allows tree)
    (none : tree.built.told ≡ []) where
  abbrev pub read : List ReadFile
  read = is.all

  pub good : IsGood tree.settings read
  good = (told_law tree.settings.duplicates (asks_in tree.settings) read is.of_files.parsed tree.built.told
      is.of_files.kept).0 none

  pub parsed_is : is.of_files.parsed ≡ read
  parsed_is =
      let kept = is.of_files.kept in
      let all_kept = (left_law tree.settings.duplicates (linked_files read) kept.omissions kept.left_out).1
      (record { read = good.0.read; clear = good.0.clear }) in
      kept.kept ∙ all_linked kept.omissions read (kept.left_out.one_each ∙ length-map read linked_file) all_kept

  abbrev pub indexed : Indexed
  indexed = record {
    files = linked_files read;
    texts = texts_of read;
    chosen = tree.built.choices;
    ids = naming tree.settings.«package» is.of_files.repeated;
    asked = asked_in tree.settings read;
  }

  pub index_is : IsIndexWith (asked_in tree.settings read) (linked_files read) (texts_of read) tree.built.choices
      (naming tree.settings.«package» is.of_files.repeated) tree.settings.encoding tree.settings.project_root is.plain
  index_is = subst (λ p. IsIndexWith (asked_in tree.settings p) (linked_files p) (texts_of p) tree.built.choices
      (naming tree.settings.«package» is.of_files.repeated) tree.settings.encoding tree.settings.project_root is.plain)
      parsed_is is.of_files.index

  pub are_repeated : AreRepeated (linked_files read) is.of_files.repeated
  are_repeated = subst (λ p. AreRepeated (linked_files p) is.of_files.repeated) parsed_is is.of_files.are_repeated

nothing_at : (number : ℕ) → names_at [] number ≡ []
nothing_at number = refl

-- ---- of a part of such a tree

module _ (one : OneListOfFacts) (one_beside : OneBesideAFile) (apart : NoFactsWhereUnreadable)
    (told_law : NothingIsToldOfAGoodTree) (left_law : NothingIsLeftOutOfGoodFiles) (all_linked : AllAreLinked)
    (once_law : NothingIsRepeated) (allows : Seen → Choice → Type 0) (paths_law : ParsedFilesHaveOwnPaths allows)
    (whole : BuiltTree) (is : IsBuiltTree allows whole) (free : IsFaultless allows whole is) (part : ReadTree allows)
    (of : IsPartTree whole is.all part.settings part.tree) where
  abbrev pub to : ℕ → ℕ
  to = at one one_beside apart allows whole is part of

  abbrev all : List File
  all = linked_files is.all

  abbrev own : List File
  own = linked_files part.all

  pub all_paths : HaveOwnPaths all
  all_paths = paths_law whole.settings.faulty whole.settings.dialect (form_of whole.settings) whole.tree is.all is.read
      free.is_tree.own

  pub own_paths : HaveOwnPaths own
  own_paths = paths_law part.settings.faulty part.settings.dialect (form_of part.settings) part.tree part.all
      part.read of.is_tree.own

  pub are : IsPart own all to
  are = is_part one one_beside apart allows whole is part of

  pub reached : HasAllReached own all to
  reached = has_all_reached one one_beside apart allows whole is part of all_paths

  whole_good : IsGood whole.settings is.all
  whole_good = good told_law left_law all_linked allows whole is free.none

  -- ---- nothing is repeated

  never_repeated : (duplicates : Duplicates) → whole.settings.duplicates ≡ duplicates → is.of_files.repeated ≡ []
  never_repeated Refuse same =
      once_law all is.of_files.repeated
      (subst (λ d. NoClash d all) same whole_good.0.clear)
      (are_repeated told_law left_law all_linked allows whole is free.none)
  never_repeated Keep same =
      (are_repeated told_law left_law all_linked allows whole is free.none).none (free.unrepeated same)

  pub whole_repeats : is.of_files.repeated ≡ []
  whole_repeats = never_repeated whole.settings.duplicates refl

  none_repeated : (number : ℕ) (name : List ℕ) → IsRepeated all number name → ⊥
  none_repeated number name repeats =
      let there = ((are_repeated told_law left_law all_linked allows whole is free.none).exact number name).1 repeats in
      in_nothing name (subst (λ names. Contains names name)
      (ap (λ (r : RepeatedNames). names_at r number) whole_repeats ∙ nothing_at number) there)

  outermost_to : (number : ℕ) (name : List ℕ) → HasOutermost own number name → HasOutermost all (to number) name
  outermost_to number name has =
      let known = facts_to own all to (shares own all to are) number has.facts has.known in
      record {
        facts = renumbered known.0 has.facts;
        declaration = has.declaration;
        is_reachable = reachable_to own all to are reached number has.is_reachable;
        known = known.1;
        listed = has.listed;
        outermost = has.outermost;
        named = has.named;
      }

  part_repeats_none : (number : ℕ) (name : List ℕ) → IsRepeated own number name → ⊥
  part_repeats_none number name repeats = elim (cases_order (to repeats.earlier) (to number)) [
    | inl same ↦ (
        let one_file = one_number own all to are own_paths repeats.earlier number repeats.had.known.file
        repeats.has.known.file repeats.had.known.numbered repeats.has.known.numbered same in
        absurd (omega (arith, repeats.before, one_file)))
    | inr other ↦ elim other [
      | inl less ↦ none_repeated (to number) name (record {
        has = outermost_to number name repeats.has;
        earlier = to repeats.earlier;
        before = less;
        had = outermost_to repeats.earlier name repeats.had;
      })
      | inr more ↦ none_repeated (to repeats.earlier) name (record {
        has = outermost_to repeats.earlier name repeats.had;
        earlier = to number;
        before = more;
        had = outermost_to number name repeats.has;
      })
    ]
  ]

  -- ---- it can be linked, its uses name types, and no option has a gap

  resolves : AllResolve own
  resolves source facts type_use is_source has listed =
      let known = facts_to own all to (shares own all to are) source facts has in
      let there = whole_good.1 (to source) (renumbered known.0 facts) type_use
      (source_to own all to are source is_source)
      known.1 listed in
      let names = names_in_part own all to own_paths are source is_source.file is_source.numbered
      (all_seen own all to are reached source is_source) type_use there.0 there.1 there.2 in
      (there.0, names.0.number, names.1)

  linked : CanBeLinked whole.settings.duplicates own
  linked = parts_can_be_linked whole.settings.duplicates own all to own_paths are reached whole_good.0

  -- ---- names in options

  asks_are : asks_in part.settings ≡ asks_in whole.settings
  asks_are =
      ap (λ (form : ReadForm). asks_options part.settings.dialect form.options) of.set.same.form
      ∙ ap (λ d. asks_options d whole.settings.options) of.set.same.dialect

  known_alike : AreKnownAlike own to (known_in part.all) (known_in is.all)
  known_alike k file stands =
      let from = from_mapped linked_file part.all k file stands in
      let its = read_there one one_beside apart allows whole is part of k from.0 from.1 in
      record {
        own = beside_in from.0.contents;
        other = beside_in its.other.contents;
        of_own = slice_get-map (λ (f : ReadFile). beside_in f.contents) part.all k
            ∙ ap (option_map (λ (f : ReadFile). beside_in f.contents)) from.1;
        of_other = slice_get-map (λ (f : ReadFile). beside_in f.contents) is.all (to k)
            ∙ ap (option_map (λ (f : ReadFile). beside_in f.contents)) its.numbered;
        fields = its.alike.beside.fields;
        messages = its.alike.beside.messages;
        options = λ source. its.alike.beside.options
            (sym its.is_own.is_included ∙ (ap (λ (f : File). f.is_included) from.2 ∙ source));
      }

  link_options : asks_in part.settings ≡ true → AllLinkOptions own
  link_options asks source is_source =
      let from = from_mapped linked_file part.all source is_source.file is_source.numbered in
      let its = read_there one one_beside apart allows whole is part of source from.0 from.1 in
      record {
        file = is_source.file;
        numbered = is_source.numbered;
        links = ap (λ (f : File). f.links_options) (sym from.2) ∙ (its.is_own.links ∙ (sym asks_are ∙ asks));
      }

  asked_alike : (asks : Bool) → asks_in part.settings ≡ asks
      → AreAskedAlike own to (asked_if asks part.all) (asked_if asks is.all)
  asked_alike false same = tt
  asked_alike true same = (link_options same, known_alike)

  text_there : (k : ℕ) (text : List ℕ) → HasReadText part.all k text → HasReadText is.all (to k) text
  text_there k text has =
      let its = read_there one one_beside apart allows whole is part of k has.parsed_file has.numbered in
      let contents = its.alike.read has.contents has.read in
      record {
        parsed_file = its.other;
        contents = contents.0;
        numbered = its.numbered;
        read = contents.1;
        text_is = contents.2 ∙ has.text_is;
      }

  gap_to : (asks : Bool) → asks_in part.settings ≡ asks → (place : FilePlace)
      → IsGapAt (asked_if asks part.all) part.all own place
      → IsGapAt (asked_if asks is.all) is.all all (record { file = to place.file; span = place.span })
  gap_to false same place is_gap = absurd is_gap.gap
  gap_to true same place is_gap =
      let source = is_gap.source in
      let gap = is_gap.gap in
      let known = known_alike place.file source.file source.numbered in
      let here : gap.beside ≡ known.own = same_Some gap.beside known.own (sym gap.its ∙ known.of_own) in
      record {
        source = source_to own all to are place.file source;
        text = is_gap.text;
        has_text = text_there place.file is_gap.text is_gap.has_text;
        gap = record {
          beside = known.other;
          its = known.of_other;
          option = gap.option;
          listed = subst (λ options. Contains options gap.option)
              (ap (λ (f : OptionFacts). f.options) here ∙ known.options source.source) gap.listed;
          is_gap = record {
            number = gap.is_gap.number;
            name = gap.is_gap.name;
            is_gap = (parts_name_alike.gaps own all to (known_in part.all) (known_in is.all) own_paths are reached
                known_alike place.file source (link_options same place.file source) is_gap.text gap.option
                gap.is_gap.number gap.is_gap.name).0 gap.is_gap.is_gap;
            place = gap.is_gap.place;
          };
        };
      }

  no_gaps : HaveNoGaps (asked_in part.settings part.all) part.all own
  no_gaps place is_gap =
      whole_good.2 (record { file = to place.file; span = place.span })
      (subst (λ asks. IsGapAt (asked_if asks is.all) is.all all (record { file = to place.file; span = place.span }))
      asks_are (gap_to (asks_in part.settings) refl place is_gap))

  -- ---- so it is without faults

  pub part_good : IsGood part.settings part.all
  part_good = (
    subst (λ d. CanBeLinked d own) (sym of.set.same.duplicates) linked,
    resolves,
    no_gaps,
  )

-- ---- what is built of a part

module _ (one : OneListOfFacts) (one_beside : OneBesideAFile) (apart : NoFactsWhereUnreadable)
    (told_law : NothingIsToldOfAGoodTree) (left_law : NothingIsLeftOutOfGoodFiles) (all_linked : AllAreLinked)
    (once_law : NothingIsRepeated) (allows : Seen → Choice → Type 0) (paths_law : ParsedFilesHaveOwnPaths allows)
    (whole : BuiltTree) (is : IsBuiltTree allows whole) (free : IsFaultless allows whole is) (part : BuiltTree)
    (of : IsBuiltPart allows whole is part) where
  abbrev pub read_part : ReadTree allows
  read_part =
      record { settings = part.settings; tree = part.tree; all = of.built.all; read = of.built.read }

  abbrev pub to_whole : ℕ → ℕ
  to_whole = at one one_beside apart allows whole is read_part of.of_whole

  abbrev all_files : List File
  all_files = linked_files is.all

  abbrev own_files : List File
  own_files = linked_files of.built.all

  pub none_told : part.built.told ≡ []
  none_told = (told_law part.settings.duplicates (asks_in part.settings) of.built.all of.built.of_files.parsed
      part.built.told of.built.of_files.kept).1
      (part_good one one_beside apart told_law left_law all_linked once_law allows paths_law whole is free read_part
      of.of_whole)

  part_repeats : of.built.of_files.repeated ≡ []
  part_repeats = (are_repeated told_law left_law all_linked allows part of.built none_told).none
      (part_repeats_none one one_beside apart told_law left_law all_linked once_law allows paths_law whole is free
      read_part of.of_whole)

  abbrev pub part_indexed : Indexed
  part_indexed = indexed told_law left_law all_linked allows part of.built none_told

  abbrev pub whole_indexed : Indexed
  whole_indexed = indexed told_law left_law all_linked allows whole is free.none

  home_there : (k : ℕ) (file : File) → slice_get own_files k ≡ Some file
      → home_of_file own_files part_indexed.ids k ≡ home_of_file all_files whole_indexed.ids (to_whole k)
  home_there k file stands =
      let from = from_mapped linked_file of.built.all k file stands in
      let its = read_there one one_beside apart allows whole is read_part of.of_whole k from.0 from.1 in
      let here : slice_get own_files k ≡ Some (linked_file from.0) = stands ∙ ap Some (sym from.2) in
      let there : slice_get all_files (to_whole k) ≡ Some (linked_file its.other) =
      slice_get-map linked_file is.all (to_whole k) ∙ ap (option_map linked_file) its.numbered in
      let listed = contained part.tree k its.file its.of_tree in
      let ours : package_of_path part.settings.«package» from.0.path
      ≡ package_of_path whole.settings.«package» from.0.path =
      subst (λ path. package_of_path part.settings.«package» path ≡ package_of_path whole.settings.«package» path)
      (sym its.is_own.path) (of.of_whole.set.files its.file listed) in
      let id : package_of_file own_files part_indexed.ids k ≡ package_of_file all_files whole_indexed.ids (to_whole k) =
      ap (package_if_there part_indexed.ids) here
      ∙ (sym (whatever-repeated part.settings.«package» of.built.of_files.repeated from.0.path)
      ∙ (ours ∙ (ap (package_of_path whole.settings.«package») its.path
      ∙ (whatever-repeated whole.settings.«package» is.of_files.repeated its.other.path
      ∙ ap (package_if_there whole_indexed.ids) (sym there))))) in
      let path : path_at own_files k ≡ path_at all_files (to_whole k) =
      ap path_if_there here ∙ (its.path ∙ ap path_if_there (sym there)) in
      let names : names_at of.built.of_files.repeated k ≡ names_at is.of_files.repeated (to_whole k) =
      ap (λ (r : RepeatedNames). names_at r k) part_repeats
      ∙ (nothing_at k ∙ (sym (nothing_at (to_whole k)) ∙ ap (λ (r : RepeatedNames). names_at r (to_whole k))
      (sym (whole_repeats one one_beside apart told_law left_law all_linked once_law allows paths_law whole is free
      read_part of.of_whole))))
      in
      λ i. record { id = id i; path = path i; repeated = names i }

  pub whole_part : IsWholePart part_indexed whole_indexed to_whole
  whole_part = record {
    of_whole = record {
      own_paths = own_paths one one_beside apart told_law left_law all_linked once_law allows paths_law whole is free
          read_part of.of_whole;
      present = λ number within. present number within;
      files = are one one_beside apart told_law left_law all_linked once_law allows paths_law whole is free read_part
          of.of_whole;
      texts = texts;
      chosen = chosen;
      named = record { run = of.of_whole.set.run; homes = home_there };
      asked = subst (λ asks. AreAskedAlike own_files to_whole (asked_in part.settings of.built.all)
          (asked_if asks is.all)) (asks_are one one_beside apart told_law left_law all_linked once_law allows paths_law
          whole is free read_part of.of_whole)
          (asked_alike one one_beside apart told_law left_law all_linked once_law allows paths_law whole is free
          read_part of.of_whole (asks_in part.settings) refl);
    };
    reached = reached one one_beside apart told_law left_law all_linked once_law allows paths_law whole is free
        read_part of.of_whole;
  }
    where
      present : (number : ℕ) → number < length own_files → IsPresent own_files number
      present number within =
          let file = item_at own_files number within in
          let from = from_mapped linked_file of.built.all number file.0 file.1 in
          let its = read_there one one_beside apart allows whole is read_part of.of_whole number from.0 from.1 in
          record {
            file = file.0;
            numbered = file.1;
            present = ap (λ (f : File). f.is_left_out) (sym from.2) ∙ its.is_own.present;
          }

      texts : (number : ℕ) (file : File) → slice_get own_files number ≡ Some file
          → slice_get (texts_of of.built.all) number ≡ slice_get (texts_of is.all) (to_whole number)
      texts number file stands =
          let from = from_mapped linked_file of.built.all number file stands in
          let its = read_there one one_beside apart allows whole is read_part of.of_whole number from.0 from.1 in
          slice_get-map text_of of.built.all number ∙ (ap (option_map text_of) from.1 ∙ (ap Some its.alike.text
          ∙ (ap (option_map text_of) (sym its.numbered) ∙ sym (slice_get-map text_of is.all (to_whole number)))))

      part_choices : (number : ℕ) → slice_get part.built.choices number
          ≡ option_map choices_of (slice_get of.built.all number)
      part_choices number =
          ap (λ cs. slice_get cs number) (of.built.of_files.choices
          ∙ ap (map choices_of) (parsed_is told_law left_law all_linked allows part of.built none_told))
          ∙ slice_get-map choices_of of.built.all number

      whole_choices : (number : ℕ) → slice_get whole.built.choices number
          ≡ option_map choices_of (slice_get is.all number)
      whole_choices number =
          ap (λ cs. slice_get cs number) (is.of_files.choices
          ∙ ap (map choices_of) (parsed_is told_law left_law all_linked allows whole is free.none))
          ∙ slice_get-map choices_of is.all number

      chosen : (number : ℕ) (file : File) → slice_get own_files number ≡ Some file
          → slice_get part.built.choices number ≡ slice_get whole.built.choices (to_whole number)
      chosen number file stands =
          let from = from_mapped linked_file of.built.all number file stands in
          let its = read_there one one_beside apart allows whole is read_part of.of_whole number from.0 from.1 in
          elim of.chosen [
            | inl alike ↦ alike number (to_whole number) its.file its.there.other its.of_tree its.there.numbered
                its.there.path
            | inr agree ↦ (
                part_choices number ∙ (ap (option_map choices_of) from.1 ∙ (ap Some (its.alike.choices agree)
                ∙ (ap (option_map choices_of) (sym its.numbered) ∙ sym (whole_choices (to_whole number))))))
          ]
