-- What is built by the same choices is one, and where one choice alone may come for what is seen, the choices are.
use Rattle.std.proofs.Common.{◌≡◌, ◌∙◌, ℕ, ◌<◌, Bool, List, [], ◌∷◌, ◌++◌, length, map, Option, Some, Result}
use Rattle.std.proofs.Common.{ap, sym}
use Rattle.std.proofs.Common.{refl, subst}
use Rattle.std.specs.declared.cmp.Ordering.{Ordering}
use Rattle.std.specs.declared.cmp.Ordering.TheVariants.{Less}
use Rattle.std.specs.Ordering.{on}
use Rattle.std.specs.List.{AllByRecursion, Contains, slice_get}
use Rattle.std.specs.List.Sorted.{IsStrictlySortedBy}
use Rattle.std.specs.Option.{option_map}
use Rattle.std.proofs.lemmas.List.{length-map, map-append, map-id}
use Rattle.std.proofs.lemmas.Option.{same_Some, slice_get-map, slice_get_within}
use Rattle.basics.proofs.ListLemmas.{contains_map, item_at}
use Rattle.scip_build.specs.declared.read_form.ReadForm.{ReadForm}
use Rattle.option_link.specs.declared.facts.OptionFacts.{OptionFacts}
use Rattle.proto_parse.specs.dialect.Dialect.{Dialect}
use Rattle.proto_decl.specs.Facts.{Facts}
use Rattle.proto_decl.specs.Values.{Seen}
use Rattle.proto_lex.specs.declared.position.Encoding.{Encoding}
use Rattle.proto_visibility.specs.declared.omissions.FileOmission.{FileOmission}
use Rattle.proto_visibility.specs.declared.omissions.FileOmission.TheVariants as left_for
use Rattle.proto_visibility.specs.Files.{File}
use Rattle.proto_visibility.specs.Absences.{IsMissing}
use Rattle.proto_visibility.specs.Kept.{Omissions, IsOmission, AreOmissions, kept_of, left_of}
use Rattle.proto_visibility.specs.Kept as link
use Rattle.basics.proofs.FirstLemmas.{contained}
use Rattle.proto_link.specs.Laws.{OneOmissionList}
use Rattle.scip_build.specs.FactForms.{form_of}
use Rattle.scip_model.specs.Packages.{Packages, naming}
use Rattle.scip_model.specs.Repeated.{AreRepeated}
use Rattle.index_hooks.specs.declared.choice.Choice.{Choice}
use Rattle.scip_model.specs.Chosen.{Chosen}
use Rattle.scip_model.specs.Indexes.{IsIndexWith}
use Rattle.scip_model.specs.Laws.{OneIndex}
use Rattle.source_tree.specs.Files.{TreeFile}
use Rattle.source_tree.proofs.TreeLemmas.{mapped_from}
use Rattle.scip_build.specs.declared.settings.Settings.{Settings}
use Rattle.scip_build.specs.declared.built.Built.{Built}
use Rattle.scip_build.specs.declared.faulty.Faulty.{Faulty}
use Rattle.scip_build.specs.declared.fault.FileFault.{FileFault}
use Rattle.scip_build.specs.declared.omission.Omission.{Omission}
use Rattle.scip_build.specs.declared.omission.Omission.TheVariants as omitted
use Rattle.scip_build.specs.Parsed.{asks_options, IsUnreadable}
use Rattle.scip_build.specs.Files.{FileContents, ReadFile}
use Rattle.scip_build.specs.ParsedFiles.{AreChosen, AreContentsOf, HasContents, AreParsedFiles}
use Rattle.scip_build.specs.Placing.{index_at}
use Rattle.scip_build.specs.Linking.{linked_file, linked_files, choices_in, choices_of, HasFault}
use Rattle.scip_build.specs.Documents.{asked_if, asked_in, asks_in, beside_in, known_in, text_of, texts_of}
use Rattle.scip_build.specs.Documents.{IsToldUse}
use Rattle.scip_build.specs.Keeping.{as_left_out, linked_numbers, linked_of}
use Rattle.scip_build.specs.Kept.{IsLeftFor, place_among_all, IsTold, Key, told_key, key_cmp}
use Rattle.scip_build.specs.Kept.IsTold.{of_file, of_import, of_use, of_ambiguous, of_uncertain, of_gap}
use Rattle.scip_build.proofs.UncertainNameLemmas.{uncertain_too}
use Rattle.proto_visibility.specs.declared.fault.LinkFault.TheVariants as link_fault
use Rattle.scip_build.specs.Builds.{IsBuilt}
use Rattle.scip_build.specs.Laws.{OneListOfFacts, OneBesideAFile, NoFactsWhereUnreadable, OneFileFault}
use Rattle.scip_build.specs.BuildLaws.{TellTheSame, SetTheSame, AllowOne, OneTold, OneBuiltOfChoices, OneBuilt}
use Rattle.scip_model.proofs.IndexSortLemmas.{one-ascending}
use Rattle.scip_build.proofs.ChosenAlikeLemmas.{same_choices}
use Rattle.scip_build.proofs.LinkingLemmas.{same_mapped, one_linking}
use Rattle.scip_build.proofs.OptionGapLemmas.{gap_too, read_in, reads_of, same_asked}
use Rattle.scip_build.proofs.ReadAlikeLemmas.{contents_at, same_in, same_known, same_reads, same_texts}
use Rattle.scip_build.proofs.ReadyLemmas.{whole_at, have_origins}
use Rattle.scip_build.proofs.SameNamesLemmas.{same_index, same_names}
use Rattle.scip_build.proofs.KeptTreeLemmas.{map_kept, map_left}
use Rattle.scip_build.proofs.KeptToldLemmas.{key_total, of_same, one_told}
use Rattle.scip_build.proofs.BuildLawGoodTreeLemmas.{fault_of}

-- a file with a fault can't be read
unreadable : (faulty : Faulty) (dialect : Dialect) (form : ReadForm) (allows : Seen → Choice → Type 0)
    (tree : List TreeFile) (parsed : List ReadFile) → AreParsedFiles faulty dialect form allows tree parsed
    → (number : ℕ) (fault : FileFault)
    → HasFault parsed number fault
    → (file : TreeFile) × (slice_get tree number ≡ Some file) × IsUnreadable dialect file.is_unread file.text fault
unreadable faulty dialect form allows tree parsed are number fault has =
    let within : number < length tree =
    rw (sym are.one_each) (slice_get_within parsed number has.parsed_file has.numbered) in
    let there = item_at tree number within in
    let Contents : Result FileContents FileFault → Type 0 = HasContents faulty dialect form allows number there.0 in
    let contents = subst Contents has.unread (are.each number there.0 has.parsed_file there.1 has.numbered).contents in
    (there.0, there.1, contents.1)

module _ (apart : NoFactsWhereUnreadable) (allows others : Seen → Choice → Type 0) (faulty another : Faulty)
    (dialect : Dialect) (form : ReadForm) where
  chosen_alike : OneListOfFacts → AllowOne allows others → (number : ℕ) (file : TreeFile) (a b : FileContents)
      → AreContentsOf dialect form file.is_included file.is_unread allows number file.text a
      → AreContentsOf dialect form file.is_included file.is_unread others number file.text b
      → a.choices ≡ b.choices
  chosen_alike one agree number file a b has also =
      let facts : a.facts ≡ b.facts =
      one dialect form.facts number file.text a.facts b.facts has.1.facts_in also.1.facts_in
      in
      let Of : Facts → Type 0 = λ f. AreChosen others f.declarations b.choices in
      same_choices allows others agree a.facts.declarations a.choices b.choices has.1.chosen
      (subst Of (sym facts) also.1.chosen)

  module _ (tree : List TreeFile) (parsed again : List ReadFile)
      (are : AreParsedFiles faulty dialect form allows tree parsed)
      (also : AreParsedFiles another dialect form others tree again) where
    same_lists : OneListOfFacts → AllowOne allows others → map choices_of parsed ≡ map choices_of again
    same_lists one agree = same_mapped choices_of parsed again (are.one_each ∙ sym also.one_each)
        (λ k a b at and. let has = contents_at apart allows others faulty another dialect form tree parsed again are
        also k a b at and in
        same_in apart allows others faulty another dialect form choices_in k has.0 (chosen_alike one agree k has.0)
        (λ x y. refl) a.contents b.contents has.1 has.2)

-- what is said of files that are left out is said of them as they were
abbrev IsSaidOfLeft : {Y : Type 0} → (ReadFile → Y) → (Y → Y) → Type 0
IsSaidOfLeft f g = (parsed_file : ReadFile) → f (as_left_out parsed_file) ≡ g (f parsed_file)

abbrev said_of : {Y : Type 0} → (Y → Y) → Omissions → List Y → List Y
said_of g omissions ys = kept_of omissions ys ++ map g (left_of omissions ys)

said_of_linked : {Y : Type 0} (f : ReadFile → Y) (g : Y → Y) → IsSaidOfLeft f g → (omissions : Omissions)
    (all : List ReadFile) → map f (linked_of omissions all) ≡ said_of g omissions (map f all)
said_of_linked {Y} f g said omissions all =
    let left = map as_left_out (left_of omissions all) in
    map-append f (kept_of omissions all) left
    ∙ (ap (λ ys. ys ++ map f left) (map_kept f omissions all)
    ∙ ap (λ ys. kept_of omissions (map f all) ++ ys)
    (each (left_of omissions all) ∙ ap (map g) (map_left f omissions all)))
  where
    each : (xs : List ReadFile) → map f (map as_left_out xs) ≡ map g (map f xs)
    each [] = refl
    each (x ∷ xs) = ap (λ y. y ∷ map f (map as_left_out xs)) (said x) ∙ ap (λ ys. g (f x) ∷ ys) (each xs)

-- what is the same of all is of those that are linked
kept_same : {Y : Type 0} (f : ReadFile → Y) (g : Y → Y) → IsSaidOfLeft f g
    → (all again parsed others : List ReadFile) (a b : Omissions) → parsed ≡ linked_of a all
    → others ≡ linked_of b again → a ≡ b → map f all ≡ map f again → map f parsed ≡ map f others
kept_same f g said all again parsed others a b first second omissions whole =
    ap (map f) first ∙ (said_of_linked f g said a all
    ∙ (ap (said_of g a) whole ∙ (ap (λ o. said_of g o (map f again)) omissions
    ∙ (sym (said_of_linked f g said b again) ∙ ap (map f) (sym second)))))

module _ (one : OneListOfFacts) (one_beside : OneBesideAFile) (apart : NoFactsWhereUnreadable)
    (one_fault : OneFileFault) (one_list : OneOmissionList) (allows others : Seen → Choice → Type 0)
    (settings another : Settings) (tree : List TreeFile) (built other : Built)
    (same : TellTheSame settings another) (is : IsBuilt allows settings tree built)
    (also : IsBuilt others another tree other) where
  abbrev all : List ReadFile
  all = is.all

  abbrev again : List ReadFile
  again = also.all

  abbrev a : Omissions
  a = is.of_files.kept.omissions

  abbrev b : Omissions
  b = also.of_files.kept.omissions

  read_again : AreParsedFiles another.faulty settings.dialect (form_of settings) others tree again
  read_again =
      let Read : Dialect → Type 0 = λ d. AreParsedFiles another.faulty d (form_of another) others tree again in
      let In : ReadForm → Type 0 = λ form. AreParsedFiles another.faulty settings.dialect form others tree again in
      subst In (sym same.form) (subst Read (sym same.dialect) also.read)

  all_linked : linked_files all ≡ linked_files again
  all_linked =
      one_linking one apart settings.faulty another.faulty settings.dialect (form_of settings) allows others tree all
      again is.read read_again

  same_omissions : a ≡ b
  same_omissions =
      let Are : List File → Type 0 = λ files. AreOmissions settings.duplicates files b in
      let also_left = subst (λ d. AreOmissions d (linked_files again) b) (sym same.duplicates)
      also.of_files.kept.left_out in
      one_list settings.duplicates (linked_files all)
      (have_origins all (whole_at settings.faulty settings.dialect (form_of settings) allows tree all is.read)) a b
      is.of_files.kept.left_out (subst Are (sym all_linked) also_left)

  kept_alike : {Y : Type 0} (f : ReadFile → Y) (g : Y → Y) → IsSaidOfLeft f g → map f all ≡ map f again
      → map f is.of_files.parsed ≡ map f also.of_files.parsed
  kept_alike f g said = kept_same f g said all again is.of_files.parsed also.of_files.parsed a b
      is.of_files.kept.kept also.of_files.kept.kept same_omissions

  same_files : linked_files is.of_files.parsed ≡ linked_files also.of_files.parsed
  same_files = kept_alike linked_file link.as_left_out (λ parsed_file. refl) all_linked

  choices_are : AllowOne allows others → built.choices ≡ other.choices
  choices_are agree = is.of_files.choices ∙ (kept_alike choices_of (λ choices. choices) (λ parsed_file. refl)
      (same_lists apart allows others settings.faulty another.faulty settings.dialect (form_of settings) tree all again
      is.read read_again one agree) ∙ sym also.of_files.choices)

  texts_are : texts_of is.of_files.parsed ≡ texts_of also.of_files.parsed
  texts_are = kept_alike text_of (λ text. text) (λ parsed_file. refl)
      (same_texts apart allows others settings.faulty another.faulty settings.dialect (form_of settings) tree all again
      is.read read_again)

  -- what is asked of options is the same of both
  asks_are : asks_in settings ≡ asks_in another
  asks_are =
      let To : Dialect → Type 0 = λ d. asks_in settings ≡ asks_options d another.options in
      subst To same.dialect (ap (λ (form : ReadForm). asks_options settings.dialect form.options) same.form)

  reads_are : reads_of all ≡ reads_of again
  reads_are = same_reads apart allows others settings.faulty another.faulty settings.dialect (form_of settings) tree all
      again is.read read_again

  known_are : known_in all ≡ known_in again
  known_are = same_known apart allows others settings.faulty another.faulty settings.dialect (form_of settings) tree all
      again is.read read_again one_beside

  asked_are : asked_in settings is.of_files.parsed ≡ asked_in another also.of_files.parsed
  asked_are = same_asked (asks_in settings) is.of_files.parsed also.of_files.parsed
      (kept_alike (λ parsed_file. beside_in parsed_file.contents) (λ known. known) (λ parsed_file. refl) known_are)
      ∙ ap (λ (asks : Bool). asked_if asks also.of_files.parsed) asks_are

  -- what is repeated of the files of the one is what is of those of the other
  names_are : AreRepeated (linked_files is.of_files.parsed) also.of_files.repeated
  names_are = subst (λ fs. AreRepeated fs also.of_files.repeated) (sym same_files) also.of_files.are_repeated

  plain_is : OneIndex → SetTheSame settings another → built.choices ≡ other.choices → is.plain ≡ also.plain
  plain_is one_index set choices =
      let names = also.of_files.repeated in
      let asked = asked_in settings is.of_files.parsed in
      let With : Option (List OptionFacts) → Type 0 =
      λ known. IsIndexWith known (linked_files also.of_files.parsed) (texts_of also.of_files.parsed) other.choices
      (naming another.package names) another.encoding another.project_root also.plain in
      let Is : List File → List (List ℕ) → Chosen → Packages → Encoding → List ℕ → Type 0 =
      λ fs ts chosen ids encoding root. IsIndexWith asked fs ts chosen (naming ids names) encoding root also.plain in
      let files = linked_files is.of_files.parsed in
      let texts = texts_of is.of_files.parsed in
      let lines = texts_of also.of_files.parsed in
      let f = subst (λ x. Is x lines other.choices another.package another.encoding another.project_root)
      (sym same_files) (subst With (sym asked_are) also.of_files.index) in
      let t = subst (λ x. Is files x other.choices another.package another.encoding another.project_root)
      (sym texts_are) f in
      let c = subst (λ x. Is files texts x another.package another.encoding another.project_root) (sym choices) t
      in
      let p = subst (λ x. Is files texts built.choices x another.encoding another.project_root) (sym set.id) c in
      let e = subst (λ x. Is files texts built.choices settings.package x another.project_root) (sym set.encoding) p in
      let r = subst (λ x. Is files texts built.choices settings.package settings.encoding x) (sym set.project_root) e
      in
      let n = same_index asked settings.package files texts built.choices settings.encoding names is.of_files.repeated
      (same_names files names is.of_files.repeated names_are is.of_files.are_repeated) settings.project_root
      also.plain r
      in
      one_index asked files texts built.choices (naming settings.package is.of_files.repeated) settings.encoding
      settings.project_root is.plain also.plain is.of_files.index n

  index_is : OneIndex → SetTheSame settings another → built.choices ≡ other.choices → built.index ≡ other.index
  index_is one_index set choices =
      is.placed ∙ (ap (index_at settings.at) (plain_is one_index set choices)
      ∙ (ap (λ folder. index_at folder also.plain) set.at ∙ sym also.placed))

  -- ---- what is told

  -- two faults of a file that can't be read are one
  same_unread : (number : ℕ) (fault more : FileFault) → HasFault all number fault → HasFault again number more
      → fault ≡ more
  same_unread number fault more has too =
      let x = unreadable settings.faulty settings.dialect (form_of settings) allows tree all is.read number fault has in
      let y = unreadable another.faulty another.dialect (form_of another) others tree again also.read number more too in
      let file : x.0 ≡ y.0 = same_Some x.0 y.0 (sym x.1 ∙ y.1) in
      let bytes = subst (λ (f : TreeFile). IsUnreadable another.dialect f.is_unread f.text more) (sym file) y.2 in
      one_fault settings.dialect x.0.is_unread x.0.text fault more x.2
      (subst (λ c. IsUnreadable c x.0.is_unread x.0.text more) (sym same.dialect) bytes)

  of_left : (number : ℕ) (omission : FileOmission) (told : Omission) → slice_get b number ≡ Some (Some omission)
      → IsOmission another.duplicates (linked_files again) b number (Some omission) → IsLeftFor all number omission told
      → IsTold (asks_in another) again b told
  of_left number left_for.Broken told at out left =
      let fault = fault_of again number out in
      let here = subst (HasFault again number) (sym (same_unread number left.0 fault.0 left.1 fault.1)) fault.1 in
      of_file number left_for.Broken at (left.0, here, left.2)
  of_left number (left_for.Duplicate first second) told at out left =
      of_file number (left_for.Duplicate first second) at left

  kept_files : linked_files (linked_of a all) ≡ linked_files (linked_of b again)
  kept_files = kept_same linked_file link.as_left_out (λ parsed_file. refl) all again (linked_of a all)
      (linked_of b again) a b refl refl same_omissions all_linked

  kept_reads : reads_of (linked_of a all) ≡ reads_of (linked_of b again)
  kept_reads = kept_same (λ parsed_file. read_in parsed_file.contents) (λ read. read) (λ parsed_file. refl) all again
      (linked_of a all) (linked_of b again) a b refl refl same_omissions reads_are

  kept_asked : asked_if (asks_in settings) (linked_of a all) ≡ asked_if (asks_in another) (linked_of b again)
  kept_asked = same_asked (asks_in settings) (linked_of a all) (linked_of b again)
      (kept_same (λ parsed_file. beside_in parsed_file.contents) (λ known. known) (λ parsed_file. refl) all again
      (linked_of a all) (linked_of b again) a b refl refl same_omissions known_are)
      ∙ ap (λ (asks : Bool). asked_if asks (linked_of b again)) asks_are

  -- what is told of one is told of the other
  told_too : (told : Omission) → IsTold (asks_in settings) all a told → IsTold (asks_in another) again b told
  told_too told (of_file n o at left) =
      let there : slice_get b n ≡ Some (Some o) =
      subst (λ (x : Omissions). slice_get x n ≡ Some (Some o)) same_omissions at in
      of_left n o told there (also.of_files.kept.left_out.each n (Some o) there) left
  told_too _ (of_import p missing) =
      let place : place_among_all a p ≡ place_among_all b p = ap (λ o. place_among_all o p) same_omissions in
      let missing_too = subst (λ fs. IsMissing fs p) kept_files missing in
      subst (IsTold (asks_in another) again b) (ap omitted.MissingImport (sym place)) (of_import p missing_too)
  told_too _ (of_use p is_use) =
      let place : place_among_all a p ≡ place_among_all b p = ap (λ o. place_among_all o p) same_omissions in
      let use_too = subst (λ fs. IsToldUse fs p (link_fault.Unresolved p)) kept_files is_use in
      subst (IsTold (asks_in another) again b) (ap omitted.Unresolved (sym place)) (of_use p use_too)
  told_too _ (of_ambiguous p is_use) =
      let place : place_among_all a p ≡ place_among_all b p = ap (λ o. place_among_all o p) same_omissions in
      let use_too = subst (λ fs. IsToldUse fs p (link_fault.Ambiguous p)) kept_files is_use in
      subst (IsTold (asks_in another) again b) (ap omitted.Ambiguous (sym place)) (of_ambiguous p use_too)
  told_too _ (of_uncertain u n o is_use numbered out) =
      let place : place_among_all a u.place ≡ place_among_all b u.place =
      ap (λ x. place_among_all x u.place) same_omissions in
      let use_too = uncertain_too (asked_if (asks_in settings) (linked_of a all))
      (asked_if (asks_in another) (linked_of b again)) (linked_of a all) (linked_of b again)
      (linked_files (linked_of a all)) (linked_files (linked_of b again)) kept_asked kept_reads kept_files u is_use in
      let numbered_too =
      subst (λ (x : Omissions). slice_get (linked_numbers x) u.behind ≡ Some n) same_omissions numbered in
      let out_too = subst (λ (x : Omissions). slice_get x n ≡ Some (Some o)) same_omissions out in
      subst (IsTold (asks_in another) again b) (ap (λ p. omitted.Uncertain p n) (sym place))
      (of_uncertain u n o use_too numbered_too out_too)
  told_too _ (of_gap p is_gap) =
      let place : place_among_all a p ≡ place_among_all b p = ap (λ o. place_among_all o p) same_omissions in
      subst (IsTold (asks_in another) again b) (ap omitted.OptionGap (sym place))
      (of_gap p (gap_too (asked_if (asks_in settings) (linked_of a all))
      (asked_if (asks_in another) (linked_of b again)) (linked_of a all) (linked_of b again) (linked_files (linked_of a all)) (linked_files (linked_of b again))
      kept_asked kept_reads kept_files p is_gap))

  keys_there : (key : Key) → Contains (map told_key built.told) key → Contains (map told_key other.told) key
  keys_there key there =
      let of = mapped_from told_key built.told key there in
      let listed = (also.of_files.kept.told_is.exact of.0).1
      (told_too of.0 ((is.of_files.kept.told_is.exact of.0).0 of.1)) in
      subst (Contains (map told_key other.told)) of.2 (contains_map told_key other.told of.0 listed)

-- the keys of a list in order are in order
module _ {X K : Type 0} (f : X → K) (cmp : K → K → Ordering) where
  all_mapped : (x : X) (xs : List X) → AllByRecursion (λ y. cmp (f x) (f y) ≡ Less) xs
      → AllByRecursion (λ k. cmp (f x) k ≡ Less) (map f xs)
  all_mapped x [] each = tt
  all_mapped x (y ∷ ys) each = (each.0, all_mapped x ys each.1)

  ascends_mapped : (xs : List X) → IsStrictlySortedBy (on f cmp) xs → IsStrictlySortedBy cmp (map f xs)
  unfolding IsStrictlySortedBy
  ascends_mapped [] up = tt
  ascends_mapped (x ∷ xs) up = (all_mapped x xs up.0, ascends_mapped xs up.1)

tell_the_same : (settings another : Settings) → SetTheSame settings another → TellTheSame settings another
tell_the_same settings another same =
    record { dialect = same.dialect; form = same.form; duplicates = same.duplicates }

turned : (settings another : Settings) → TellTheSame settings another → TellTheSame another settings
turned settings another same =
    record { dialect = sym same.dialect; form = sym same.form; duplicates = sym same.duplicates }

module _ (one : OneListOfFacts) (one_beside : OneBesideAFile) (apart : NoFactsWhereUnreadable)
    (one_fault : OneFileFault) (one_list : OneOmissionList) (allows others : Seen → Choice → Type 0) where
  pub one_told_of_tree : OneTold allows others
  one_told_of_tree settings another tree built other same is also =
      sym (map-id built.told)
      ∙ (same_mapped (λ (x : Omission). x) built.told other.told count at_one_place ∙ map-id other.told)
    where
      keys : map told_key built.told ≡ map told_key other.told
      keys = one-ascending key_total (map told_key built.told) (map told_key other.told)
          (ascends_mapped told_key key_cmp built.told is.of_files.kept.told_is.ascends)
          (ascends_mapped told_key key_cmp other.told also.of_files.kept.told_is.ascends)
          (keys_there one one_beside apart one_fault one_list allows others settings another tree built other same is
          also)
          (keys_there one one_beside apart one_fault one_list others allows another settings tree other built
          (turned settings another same) also is)

      -- what is at one place of the two lists is one
      at_one_place : (k : ℕ) (x y : Omission) → slice_get built.told k ≡ Some x → slice_get other.told k ≡ Some y
          → x ≡ y
      at_one_place k x y at and =
          let key_x : slice_get (map told_key built.told) k ≡ Some (told_key x) =
          slice_get-map told_key built.told k ∙ ap (option_map told_key) at in
          let key_y : slice_get (map told_key other.told) k ≡ Some (told_key y) =
          slice_get-map told_key other.told k ∙ ap (option_map told_key) and in
          let key : told_key x ≡ told_key y = same_Some (told_key x) (told_key y)
          (sym key_x ∙ (ap (λ (l : List Key). slice_get l k) keys ∙ key_y)) in
          let told_x = (is.of_files.kept.told_is.exact x).0 (contained built.told k x at) in
          let told_y = (also.of_files.kept.told_is.exact y).0 (contained other.told k y and) in
          let too = told_too one one_beside apart one_fault one_list allows others settings another tree built other
          same is also x told_x in
          one_told another.duplicates (asks_in another) also.all also.of_files.kept.omissions
          also.of_files.kept.left_out x y too told_y
          (of_same (told_key x) (told_key y) key)

      count : length built.told ≡ length other.told
      count = sym (length-map built.told told_key) ∙ (ap length keys ∙ length-map other.told told_key)

  module _ (one_index : OneIndex) where
    pub one_built_of_choices : OneBuiltOfChoices allows others
    one_built_of_choices settings another tree built other same choices is also =
        λ i. record { index = index i; choices = choices i; told = told i }
      where
        index : built.index ≡ other.index
        index = index_is one one_beside apart one_fault one_list allows others settings another tree built other
            (tell_the_same settings another same) is also one_index same choices

        told : built.told ≡ other.told
        told = one_told_of_tree settings another tree built other (tell_the_same settings another same) is also

    pub one_built : OneBuilt allows others
    one_built settings another tree built other agree same is also =
        let choices = choices_are one one_beside apart one_fault one_list allows others settings another tree built
        other (tell_the_same settings another same) is also agree in
        one_built_of_choices settings another tree built other same choices is also
