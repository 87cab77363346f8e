-- Nothing is told of a tree without faults, and of no other.
use Rattle.std.proofs.Common.{◌≡◌, ◌≢◌, ◌∙◌, ◌⊎◌, inl, inr, ℕ, ◌<◌, List, [], ◌∷◌, length, map, get_or, Option}
use Rattle.std.proofs.Common.{Some, None, Result, Ok, Err, Bool, true, false, ap, sym, refl, subst, arith}
use Rattle.std.specs.List.{Contains, slice_get}
use Rattle.std.specs.Option.{option_map}
use Rattle.std.proofs.lemmas.List.{length-map}
use Rattle.std.proofs.lemmas.Option.{same_Some, none-some, slice_get_within, slice_get-get_or, slice_get-map}
use Rattle.std.proofs.lemmas.Option.{get_or_from_slice_get}
use Rattle.basics.proofs.ListLemmas.{in_front, in_nothing}
use Rattle.proto_visibility.specs.declared.omissions.FileOmission.{FileOmission}
use Rattle.proto_visibility.specs.declared.omissions.FileOmission.TheVariants as left_for
use Rattle.proto_visibility.specs.declared.clash.Duplicates.{Duplicates}
use Rattle.proto_visibility.specs.Files.{File}
use Rattle.proto_visibility.specs.Absences.{IsUnreadBy}
use Rattle.proto_visibility.specs.Linked.{CanBeLinked, HaveClearNames}
use Rattle.proto_visibility.specs.Kept.{Omissions, IsOmission, AreOmissions, AreAllKept}
use Rattle.proto_visibility.specs.Kept.{NothingIsLeftOutOfGoodFiles}
use Rattle.proto_visibility.proofs.KeptLemmas.{clear_pairs, clear_read}
use Rattle.proto_lex.specs.declared.position.Encoding.{Encoding}
use Rattle.proto_parse.specs.dialect.Dialect.{Dialect}
use Rattle.proto_decl.specs.Values.{Seen}
use Rattle.proto_visibility.specs.Reaches.Reaches.{sees}
use Rattle.proto_visibility.specs.Reaches.IsReachable.{reached}
use Rattle.proto_visibility.specs.Sees.SeesBy.{itself}
use Rattle.index_hooks.specs.declared.choice.Choice.{Choice}
use Rattle.scip_build.specs.FactForms.{form_of}
use Rattle.scip_model.specs.Packages.{Packages, naming}
use Rattle.scip_model.specs.Conditions.{AllResolve}
use Rattle.scip_model.specs.Indexes.{IsIndexWith}
use Rattle.source_tree.specs.Files.{TreeFile}
use Rattle.scip_build.specs.declared.settings.Settings.{Settings}
use Rattle.scip_build.specs.declared.faulty.Faulty.{Faulty}
use Rattle.scip_build.specs.declared.faulty.Faulty.TheVariants.{Refuse, Skip}
use Rattle.scip_build.specs.declared.fault.FileFault.{FileFault}
use Rattle.scip_build.specs.declared.omission.Omission.{Omission}
use Rattle.scip_build.specs.declared.omission.Omission.TheVariants as omitted
use Rattle.scip_build.specs.Files.{FileContents, ReadFile}
use Rattle.scip_build.specs.Placing.{index_at}
use Rattle.scip_build.specs.Linking.{facts_in, linked_file, linked_files, HasFault}
use Rattle.scip_build.specs.Parsed.{asks_options, IsUnreadable}
use Rattle.scip_build.specs.ParsedFiles.{AreContentsOf, may_be_unread, HasContents, AreParsedFiles}
use Rattle.scip_build.specs.declared.read_form.ReadForm.{ReadForm}
use Rattle.scip_build.specs.Documents.{asked_if, asked_in, asks_in, texts_of, AllAreDecided, HaveNoGaps, IsGapAt}
use Rattle.scip_build.specs.Documents.{IsToldUse, IsUnresolvedAt}
use Rattle.proto_visibility.specs.declared.files.FilePlace.{FilePlace}
use Rattle.proto_visibility.specs.declared.fault.LinkFault.{LinkFault}
use Rattle.proto_visibility.specs.declared.fault.LinkFault.TheVariants as link
use Rattle.proto_link.specs.Targets.{MayRefuseUse}
use Rattle.scip_build.specs.BuildLaws.{SetTheSame, BuiltWhereNothingIsTold}
use Rattle.scip_build.specs.Keeping.{linked_of}
use Rattle.scip_build.specs.Kept.{IsTold, AreKept, NothingIsToldOfAGoodTree}
use Rattle.scip_build.specs.Kept.IsTold.{of_file, of_import, of_use, of_ambiguous, of_uncertain, of_gap}
use Rattle.scip_build.proofs.ToldUseLemmas.{unresolved_there, ambiguous_there}
use Rattle.scip_build.proofs.LinkingLemmas.{mapped_at}
use Rattle.scip_build.proofs.KeptTreeLemmas.{all_linked}

-- ---- where nothing is left out

abbrev not_one : File → Option FileOmission
not_one file = None

abbrev pub all_kept : List File → Omissions
all_kept files = map not_one files

-- of files without a clash nothing is left out
pub good_files_are_kept : (duplicates : Duplicates) (files : List File) → HaveClearNames duplicates files
    → AreOmissions duplicates files (all_kept files)
good_files_are_kept duplicates files good = record {
  one_each = length-map files not_one;
  each = λ number omission out.
      by number omission (none_is (slice_get files number) omission (sym (slice_get-map not_one files number) ∙ out));
}
  where
    none_is : (file : Option File) (omission : Option FileOmission) → option_map not_one file ≡ Some omission
        → None ≡ omission
    none_is None omission e = absurd (none-some omission e)
    none_is (Some file) omission e = same_Some None omission e

    by : (number : ℕ) (omission : Option FileOmission) → None ≡ omission
        → IsOmission duplicates files (all_kept files) number omission
    by number omission is =
        let Is : Option FileOmission → Type 0 = λ o. IsOmission duplicates files (all_kept files) number o in
        let kept : Is None = (
          clear_read duplicates files (all_kept files) good number,
          clear_pairs duplicates files (all_kept files) good number,
        ) in
        subst Is is kept

pub are_all_kept : (files : List File) → AreAllKept (all_kept files)
are_all_kept files k d within =
    let within_files : k < length files = let n = length-map files not_one in omega (arith, n, within) in
    let at = slice_get-get_or (all_kept files) k d within in
    let there = slice_get-map not_one files k ∙ ap (option_map not_one) (slice_get-get_or files k file within_files) in
    sym (same_Some None (get_or (all_kept files) k d) (sym there ∙ at))
  where
    file : File
    file = record { path = []; facts = None; is_included = false; is_left_out = false; links_options = false }

-- each use of a source names a type
all_are_named : (files : List File) → AllResolve files → (p : FilePlace) → IsUnresolvedAt files p → ⊥
all_are_named files resolve p is =
    let named = resolve p.file is.facts is.type_use is.source is.known is.listed in
    is.unresolved named.0 named.1 named.2

-- ---- what is told where nothing is left out

module _ (all : List ReadFile) (omissions : Omissions) (one_each : length omissions ≡ length all)
    (none : AreAllKept omissions) where
  kept_at : (number : ℕ) (omission : Option FileOmission) → slice_get omissions number ≡ Some omission → omission ≡ None
  kept_at number omission at =
      let within = slice_get_within omissions number omission at in
      sym (get_or_from_slice_get omissions number omission omission at) ∙ none number omission within

  all_are : linked_of omissions all ≡ all
  all_are = all_linked omissions all one_each none

  pub none_told : (duplicates : Duplicates) (asks : Bool) → CanBeLinked duplicates (linked_files all)
      → AllResolve (linked_files all) → HaveNoGaps (asked_if asks all) all (linked_files all)
      → (told : Omission) → IsTold asks all omissions told → ⊥
  none_told duplicates asks can resolve filled told (of_file n o at left) = none-some o (sym (kept_at n (Some o) at))
  none_told duplicates asks can resolve filled _ (of_import p missing) =
      let Can : List ReadFile → Type 0 = λ rs. CanBeLinked duplicates (linked_files rs) in
      (subst Can (sym all_are) can).complete p missing
  none_told duplicates asks can resolve filled _ (of_use p is) =
      let Resolve : List ReadFile → Type 0 = λ rs. AllResolve (linked_files rs) in
      let files = linked_files (linked_of omissions all) in
      all_are_named files (subst Resolve (sym all_are) resolve) p (unresolved_there files p is)
  none_told duplicates asks can resolve filled _ (of_ambiguous p is) =
      let Resolve : List ReadFile → Type 0 = λ rs. AllResolve (linked_files rs) in
      let files = linked_files (linked_of omissions all) in
      all_are_named files (subst Resolve (sym all_are) resolve) p (ambiguous_there files p is)
  none_told duplicates asks can resolve filled _ (of_uncertain u n o is numbered out) =
      none-some o (sym (kept_at n (Some o) out))
  none_told duplicates asks can resolve filled _ (of_gap p is) =
      let Gap : List ReadFile → Type 0 = λ rs. IsGapAt (asked_if asks rs) rs (linked_files rs) p in
      filled p (subst Gap all_are is)

none_listed : (told : List Omission) → ((fault : Omission) → Contains told fault → ⊥) → told ≡ []
none_listed [] none = refl
none_listed (x ∷ xs) none = absurd (none x (in_front x xs))

-- ---- where nothing is told

-- a file without facts has a fault
pub fault_of : {C : ℕ → Type 0} (all : List ReadFile) (number : ℕ) → IsUnreadBy (linked_files all) C number
    → (fault : FileFault) × HasFault all number fault
fault_of all number unread =
    let of = mapped_at linked_file all number unread.file unread.numbered in
    by of.0 of.1 of.0.contents refl (sym (ap (λ (f : File). f.facts) of.2) ∙ unread.unread)
  where
    by : (parsed_file : ReadFile) → slice_get all number ≡ Some parsed_file → (contents : Result FileContents FileFault)
        → parsed_file.contents ≡ contents → facts_in contents ≡ None → (fault : FileFault) × HasFault all number fault
    by parsed_file at (Ok contents) is no_facts = absurd (some_none no_facts)
      where
        some_none : Some contents.facts ≡ None → ⊥
        some_none e = cc
    by parsed_file at (Err fault) is no_facts =
        (fault, record { parsed_file = parsed_file; numbered = at; unread = is })

-- what is left out is told
pub left_told : (duplicates : Duplicates) (asks : Bool) (all : List ReadFile) (omissions : Omissions)
    → AreOmissions duplicates (linked_files all) omissions → (number : ℕ) (omission : Option FileOmission)
    → slice_get omissions number ≡ Some omission
    → (omission ≡ None) ⊎ ((told : Omission) × IsTold asks all omissions told)
left_told duplicates asks all omissions are number None at = inl refl
left_told duplicates asks all omissions are number (Some left_for.Broken) at =
    let fault = fault_of all number (are.each number (Some left_for.Broken) at) in
    inr (omitted.File number fault.0, of_file number left_for.Broken at (fault.0, fault.1, refl))
left_told duplicates asks all omissions are number (Some (left_for.Duplicate first second)) at =
    inr (omitted.Duplicate first second, of_file number (left_for.Duplicate first second) at refl)

module _ (good : NothingIsLeftOutOfGoodFiles) where
  pub nothing_is_told : NothingIsToldOfAGoodTree
  nothing_is_told duplicates asks all parsed told kept = (where_none, where_good)
    where
      one_each : length kept.omissions ≡ length all
      one_each = kept.left_out.one_each ∙ length-map all linked_file

      where_good : CanBeLinked duplicates (linked_files all) × AllResolve (linked_files all)
          × HaveNoGaps (asked_if asks all) all (linked_files all) → told ≡ []
      where_good (can, resolve, filled) =
          let clear : HaveClearNames duplicates (linked_files all) =
          record { read = can.read; clear = can.clear } in
          let all_kept = (good duplicates (linked_files all) kept.omissions kept.left_out).1 clear in
          none_listed told (λ fault there.
          none_told all kept.omissions one_each all_kept duplicates asks can resolve filled fault
          ((kept.told_is.exact fault).0 there))

      where_none : told ≡ [] → CanBeLinked duplicates (linked_files all) × AllResolve (linked_files all)
          × HaveNoGaps (asked_if asks all) all (linked_files all)
      where_none none = (
        record {
          read = clear.read;
          clear = clear.clear;
          complete = λ place missing. none_is _ (of_import place (rw all_are missing));
        },
        λ source facts type_use is known listed.
            elim (decided source facts type_use is known listed) [
              | inl resolved ↦ resolved
              | inr unresolved ↦ absurd (
                  let place : FilePlace = record { file = source; span = type_use.span } in
                  let At : (LinkFault → Type 0) = λ of.
                  MayRefuseUse (linked_files all) source type_use of → of ≢ link.Memory
                  → IsToldUse (linked_files all) place of in
                  let told_of : (of : LinkFault) → At of = λ of refused no_memory. (
                    is,
                    record {
                      facts = facts;
                      known = known;
                      among = record {
                        type_use = type_use;
                        listed = listed;
                        is = record { refused = refused; of_use = no_memory };
                      };
                    },
                  ) in
                  let Told : LinkFault → Type 0 = λ of.
                  IsToldUse (linked_files (linked_of kept.omissions all)) place of in
                  let there : (of : LinkFault) → IsToldUse (linked_files all) place of → Told of = λ of.
                  subst (λ (rs : List ReadFile). IsToldUse (linked_files rs) place of) (sym all_are) in
                  none_is _ (of_use place (there (link.Unresolved place) (told_of (link.Unresolved place) (
                    unresolved,
                    λ ambiguous. none_is _ (of_ambiguous place (there (link.Ambiguous place)
                        (told_of (link.Ambiguous place) (ambiguous, refl) (λ e. cc)))),
                    refl,
                  ) (λ e. cc)))))
            ],
        λ place gap.
            let Gap : List ReadFile → Type 0 = λ rs. IsGapAt (asked_if asks rs) rs (linked_files rs) place in
            none_is _ (of_gap place (subst Gap (sym all_are) gap)),
      )
        where
          none_is : (fault : Omission) → IsTold asks all kept.omissions fault → ⊥
          none_is fault is =
              in_nothing fault (subst (λ (l : List Omission). Contains l fault) none
              ((kept.told_is.exact fault).1 is))

          all_kept : AreAllKept kept.omissions
          all_kept k d within =
              let at = slice_get-get_or kept.omissions k d within in
              elim (left_told duplicates asks all kept.omissions kept.left_out k (get_or kept.omissions k d) at) [
                | inl is ↦ is
                | inr told_ ↦ absurd (none_is told_.0 told_.1)
              ]

          all_are : linked_of kept.omissions all ≡ all
          all_are = all_linked kept.omissions all one_each all_kept

          clear : HaveClearNames duplicates (linked_files all)
          clear = (good duplicates (linked_files all) kept.omissions kept.left_out).0 all_kept

          decided : AllAreDecided (linked_files all)
          decided = subst (λ (rs : List ReadFile). AllAreDecided (linked_files rs)) (kept.kept ∙ all_are) kept.decided

  -- ---- the same is built where faults are refused

  module _ (allows : Seen → Choice → Type 0) (settings another : Settings) (tree : List TreeFile)
      (same : SetTheSame settings another) (all : List ReadFile)
      (read : AreParsedFiles settings.faulty settings.dialect (form_of settings) allows tree all)
      (clear : HaveClearNames settings.duplicates (linked_files all)) where
    may_be : (faulty : Faulty) → may_be_unread faulty true ≡ true
    may_be Refuse = refl
    may_be Skip = refl

    -- a file without contents is included
    read_so : (number : ℕ) (file : TreeFile) (parsed_file : ReadFile) → slice_get tree number ≡ Some file
        → slice_get all number ≡ Some parsed_file → (contents : Result FileContents FileFault)
        → parsed_file.contents ≡ contents
        → HasContents settings.faulty settings.dialect (form_of settings) allows number file contents
        → HasContents another.faulty another.dialect (form_of another) allows number file contents
    read_so number file parsed_file at there (Ok contents) is has =
        subst (λ form. AreContentsOf another.dialect form file.is_included file.is_unread allows number file.text
        contents) same.form
        (subst (λ d. AreContentsOf d (form_of settings) file.is_included file.is_unread allows number file.text
        contents) same.dialect has)
    read_so number file parsed_file at there (Err fault) is has = (
      included file.is_included refl,
      subst (λ c. IsUnreadable c file.is_unread file.text fault) same.dialect has.1,
    )
      where
        linked : File
        linked = linked_file parsed_file

        numbered : slice_get (linked_files all) number ≡ Some linked
        numbered = slice_get-map linked_file all number ∙ ap (option_map linked_file) there

        included : (b : Bool) → file.is_included ≡ b → may_be_unread another.faulty file.is_included ≡ true
        included true e = ap (may_be_unread another.faulty) e ∙ may_be another.faulty
        included false e =
            let its = read.each number file parsed_file at there in
            let source : linked.is_included ≡ false = its.is_included ∙ e in
            let present : linked.is_left_out ≡ false = its.present in
            absurd (clear.read number (record {
              file = linked;
              counts = reached (record { file = linked; numbered = numbered; source = source; present = present })
                  (sees itself) (record { file = linked; numbered = numbered; present = present });
              numbered = numbered;
              unread = ap facts_in is;
            }))

    pub read_by : AreParsedFiles another.faulty another.dialect (form_of another) allows tree all
    read_by = record {
      one_each = read.one_each;
      each = λ number file parsed_file at there.
          let is = read.each number file parsed_file at there in
          record {
            path = is.path;
            is_included = is.is_included;
            present = is.present;
            links = subst (λ (form : ReadForm). parsed_file.links_options ≡ asks_options another.dialect form.options)
                same.form
                (subst (λ (d : Dialect). parsed_file.links_options ≡ asks_options d (form_of settings).options)
                same.dialect is.links);
            contents = read_so number file parsed_file at there parsed_file.contents refl is.contents;
          };
    }

  pub built_where_nothing_is_told : (allows : Seen → Choice → Type 0) → BuiltWhereNothingIsTold allows
  built_where_nothing_is_told allows settings another tree built same is none = record {
    all = is.all;
    plain = is.plain;
    placed = is.placed ∙ ap (λ folder. index_at folder is.plain) same.at;
    read = read_by allows settings another tree same is.all is.read (record { read = can.read; clear = can.clear });
    of_files = record {
      parsed = is.of_files.parsed;
      kept = subst (λ d. AreKept d (asks_in another) is.all is.of_files.parsed built.told) same.duplicates
          (subst (λ asks. AreKept settings.duplicates asks is.all is.of_files.parsed built.told) asks_are
          is.of_files.kept);
      clear = subst (λ d. HaveClearNames d (linked_files is.of_files.parsed)) same.duplicates is.of_files.clear;
      refused = λ refuse. record {
        none = none;
        all_kept = all_are;
        linked = subst (λ d. CanBeLinked d (linked_files is.all)) same.duplicates can;
        resolved = good_tree.1;
        filled = subst (λ asks. HaveNoGaps (asked_if asks is.all) is.all (linked_files is.all)) asks_are good_tree.2;
      };
      choices = is.of_files.choices;
      repeated = is.of_files.repeated;
      are_repeated = is.of_files.are_repeated;
      index = index;
    };
  }
    where
      asks_are : asks_in settings ≡ asks_in another
      asks_are =
          let To : Dialect → Type 0 = λ d. asks_in settings ≡ asks_options d another.options in
          subst To same.dialect (ap (λ (form : ReadForm). asks_options settings.dialect form.options) same.form)

      good_tree : CanBeLinked settings.duplicates (linked_files is.all) × AllResolve (linked_files is.all)
          × HaveNoGaps (asked_in settings is.all) is.all (linked_files is.all)
      good_tree = (nothing_is_told settings.duplicates (asks_in settings) is.all is.of_files.parsed built.told
          is.of_files.kept).0 none

      can : CanBeLinked settings.duplicates (linked_files is.all)
      can = good_tree.0

      all_are : is.of_files.parsed ≡ is.all
      all_are =
          let kept = is.of_files.kept in
          kept.kept ∙ all_linked kept.omissions is.all (kept.left_out.one_each ∙ length-map is.all linked_file)
          ((good settings.duplicates (linked_files is.all) kept.omissions kept.left_out).1
          (record { read = can.read; clear = can.clear }))

      index : IsIndexWith (asked_in another is.of_files.parsed) (linked_files is.of_files.parsed)
          (texts_of is.of_files.parsed) built.choices (naming another.package is.of_files.repeated) another.encoding
          another.project_root is.plain
      index =
          let fs = linked_files is.of_files.parsed in
          let ts = texts_of is.of_files.parsed in
          let asked = asked_in another is.of_files.parsed in
          let With : Bool → Type 0 =
          λ asks. IsIndexWith (asked_if asks is.of_files.parsed) fs ts built.choices
          (naming settings.package is.of_files.repeated) settings.encoding settings.project_root is.plain in
          let Is : Packages → Encoding → List ℕ → Type 0 =
          λ ids encoding root. IsIndexWith asked fs ts built.choices (naming ids is.of_files.repeated) encoding root
          is.plain in
          subst (λ x. Is another.package another.encoding x) same.project_root
          (subst (λ x. Is another.package x settings.project_root) same.encoding
          (subst (λ x. Is x settings.encoding settings.project_root) same.id (subst With asks_are is.of_files.index)))
