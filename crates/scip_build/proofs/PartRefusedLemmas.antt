-- A part of a tree without faults isn't refused, unless memory or a thread is.
use Rattle.std.proofs.Common.{◌≡◌, ◌≢◌, ◌∙◌, inl, inr, ℕ, ◌<◌, false, Some, List, ◌∷◌, Result, Ok, Err}
use Rattle.std.proofs.Common.{length, ap, sym, refl, subst}
use Rattle.std.specs.List.{Contains, slice_get}
use Rattle.std.proofs.lemmas.List.Elements.{Contains-append_right}
use Rattle.std.proofs.lemmas.Option.{slice_get-map, slice_get_within}
use Rattle.std.specs.Option.{option_map}
use Rattle.basics.proofs.FirstLemmas.{at_contained, contained}
use Rattle.basics.proofs.ListLemmas.{in_front, item_at}
use Rattle.proto_decl.specs.Values.{Seen}
use Rattle.proto_visibility.specs.declared.clash.Duplicates.{Duplicates}
use Rattle.proto_visibility.specs.declared.clash.Duplicates.TheVariants as dup
use Rattle.proto_visibility.specs.declared.fault.LinkFault.TheVariants as link
use Rattle.proto_visibility.specs.declared.files.FilePlace.{FilePlace}
use Rattle.proto_visibility.specs.Files.{File}
use Rattle.proto_visibility.specs.Sees.SeesBy.{itself}
use Rattle.proto_visibility.specs.Reaches.Reaches.{sees}
use Rattle.proto_visibility.specs.Reaches.IsReachable.{reached}
use Rattle.proto_visibility.specs.Clashes.{Clash, NoClash}
use Rattle.proto_visibility.specs.Linked.{CanBeLinked}
use Rattle.proto_visibility.specs.Linked.MayRefuse.{absent_import, clashing}
use Rattle.scip_model.specs.Conditions.{AllResolve}
use Rattle.proto_visibility.specs.Kept.{NothingIsLeftOutOfGoodFiles}
use Rattle.index_hooks.specs.declared.choice.Choice.{Choice}
use Rattle.source_tree.specs.Files.{TreeFile}
use Rattle.scip_model.specs.Laws.{NothingIsRepeated}
use Rattle.scip_build.specs.declared.settings.Settings.{Settings}
use Rattle.scip_build.specs.declared.faulty.Faulty.TheVariants.{Refuse}
use Rattle.scip_build.specs.declared.fault.FileFault.{FileFault}
use Rattle.scip_build.specs.declared.fault.BuildFault.{BuildFault}
use Rattle.scip_build.specs.declared.fault.BuildFault.TheVariants as fault
use Rattle.scip_build.specs.FactForms.{form_of}
use Rattle.scip_build.specs.Files.{FileContents, ReadFile}
use Rattle.scip_build.specs.Linking.{facts_in, linked_file, linked_files, MayRefuseParsed}
use Rattle.scip_build.specs.Linking.MayRefuseParsed.{is_duplicate, is_missing, is_unread, linking_lacks_memory}
use Rattle.scip_build.specs.Documents.{IsLeastUnresolved}
use Rattle.scip_build.specs.Kept.{NothingIsToldOfAGoodTree}
use Rattle.scip_build.specs.Parsed.{IsUnreadable}
use Rattle.scip_build.specs.ParsedFiles.{AreParsedFiles, HasContents, IsFirstFaulty}
use Rattle.scip_build.specs.Laws.{NoFactsWhereUnreadable, OneBesideAFile, OneListOfFacts, ParsedFilesHaveOwnPaths}
use Rattle.scip_build.specs.BuildLaws.{cause_of}
use Rattle.scip_build.specs.Builds.{IsBuildFault}
use Rattle.scip_build.specs.Parts.{BuiltTree, IsBuiltTree, IsFaultless, IsPartTree}
use Rattle.scip_build.proofs.PartGoodLemmas.{AllAreLinked, IsGood, good, part_good}

-- what clashes isn't clear
no_clash : (duplicates : Duplicates) (files : List File) (first second : FilePlace) → NoClash duplicates files
    → Clash duplicates files first second → ⊥
no_clash dup.Refuse files first second clear clash = clear clash.earlier clash.later clash.exclude
no_clash dup.Keep files first second clear clash =
    clear clash.number clash.is_reachable clash.clash.earlier clash.clash.later clash.clash.exclude

-- a first use that names nothing is one
none_first : (files : List File) (place : FilePlace) → AllResolve files → IsLeastUnresolved files place → ⊥
none_first files place resolves least =
    let first = least.first in
    let names = resolves place.file first.facts first.type_use least.source first.known
    (subst (λ uses. Contains uses first.type_use) (sym first.split)
    (Contains-append_right first.before (first.type_use ∷ first.behind) first.type_use
    (in_front first.type_use first.behind))) in
    first.unresolved names.0 names.1 names.2

module _ (one : OneListOfFacts) (one_beside : OneBesideAFile) (apart : NoFactsWhereUnreadable)
    (told_law : NothingIsToldOfAGoodTree) (left_law : NothingIsLeftOutOfGoodFiles) (all_linked : AllAreLinked)
    (once_law : NothingIsRepeated) (allows : Seen → Choice → Type 0) (paths_law : ParsedFilesHaveOwnPaths allows)
    (whole : BuiltTree) (is : IsBuiltTree allows whole) (free : IsFaultless allows whole is) (settings : Settings)
    (tree : List TreeFile) (of : IsPartTree whole is.all settings tree) where
  -- what is read of it, if faults are refused, is without faults
  good_read : settings.faulty ≡ Refuse → (all : List ReadFile)
      → AreParsedFiles Refuse settings.dialect (form_of settings) allows tree all → IsGood settings all
  good_read refused all read =
      part_good one one_beside apart told_law left_law all_linked once_law allows paths_law whole is free (record {
        settings = settings;
        tree = tree;
        all = all;
        read = subst (λ f. AreParsedFiles f settings.dialect (form_of settings) allows tree all) (sym refused) read;
      }) of

  no_refusal : (duplicates : Duplicates) (all : List ReadFile) → CanBeLinked duplicates (linked_files all)
      → (reason : BuildFault) → MayRefuseParsed duplicates all reason → cause_of reason ≢ link.Memory → ⊥
  no_refusal duplicates all linked _ (linking_lacks_memory) some = some refl
  no_refusal duplicates all linked _ (is_unread {number = number} broken has) some = linked.read number broken.unread
  no_refusal duplicates all linked _ (is_duplicate {first = first} {second = second} (clashing none clash)) some =
      no_clash duplicates (linked_files all) first second linked.clear clash
  no_refusal duplicates all linked _ (is_missing {place = place} (absent_import none clear absent)) some =
      linked.complete place absent.missing

  -- a source can be read, as it can be in the whole
  no_faulty : (number : ℕ) (cause : FileFault) → IsFirstFaulty settings.dialect tree number cause → ⊥
  no_faulty number cause first =
      let has = of.files first.file (contained tree number first.file first.numbered) in
      let stands = at_contained whole.tree has.other has.listed in
      let within : has.listed.0 < length is.all =
      rw is.read.one_each (slice_get_within whole.tree has.listed.0 has.other stands) in
      let read = item_at is.all has.listed.0 within in
      let its = is.read.each has.listed.0 has.other read.0 stands read.1 in
      let marked = subst (λ flag. IsUnreadable settings.dialect flag first.file.text cause) has.unread
      first.faulty.unreadable in
      let unreadable = subst (λ d. IsUnreadable d has.other.is_unread has.other.text cause) of.set.same.dialect
      (subst (λ bytes. IsUnreadable settings.dialect has.other.is_unread bytes cause) has.text marked) in
      by has.listed.0 has.other read.0 read.1 (its.is_included ∙ has.source first.faulty.source) its.present
      unreadable read.0.contents refl its.contents
    where
      by : (k : ℕ) (file : TreeFile) (read : ReadFile) → slice_get is.all k ≡ Some read → read.is_included ≡ false
          → read.is_left_out ≡ false → IsUnreadable whole.settings.dialect file.is_unread file.text cause
          → (contents : Result FileContents FileFault) → read.contents ≡ contents
          → HasContents whole.settings.faulty whole.settings.dialect (form_of whole.settings) allows k file contents → ⊥
      by k file read stands source present unreadable (Ok contents) same has =
          apart whole.settings.dialect (form_of whole.settings).facts k file.text contents.facts cause has.1.facts_in
          (subst (λ flag. IsUnreadable whole.settings.dialect flag file.text cause) has.3 unreadable)
      by k file read stands source present unreadable (Err other) same has =
          let numbered : slice_get (linked_files is.all) k ≡ Some (linked_file read) =
          slice_get-map linked_file is.all k ∙ ap (option_map linked_file) stands in
          (good told_law left_law all_linked allows whole is free.none).0.read k (record {
            file = linked_file read;
            counts = reached (record {
              file = linked_file read;
              numbered = numbered;
              source = source;
              present = present;
            }) (sees itself) (record { file = linked_file read; numbered = numbered; present = present });
            numbered = numbered;
            unread = ap facts_in same;
          })

  pub never_refused : (workers : ℕ) (reason : BuildFault) → IsBuildFault allows settings tree workers reason
      → cause_of reason ≢ link.Memory → ⊥
  never_refused workers fault.Spawn holds some = some refl
  never_refused workers fault.Memory holds some = some refl
  never_refused workers (fault.File number cause) (refused, inl first) some = no_faulty number cause first
  never_refused workers (fault.File number cause) (refused, inr of_parsed) some =
      no_refusal settings.duplicates of_parsed.0 (good_read refused of_parsed.0 of_parsed.1).0 (fault.File number cause)
      of_parsed.2 some
  never_refused workers (fault.Duplicate first second) (refused, of_parsed) some =
      no_refusal settings.duplicates of_parsed.0 (good_read refused of_parsed.0 of_parsed.1).0
      (fault.Duplicate first second) of_parsed.2 some
  never_refused workers (fault.MissingImport place) (refused, of_parsed) some =
      no_refusal settings.duplicates of_parsed.0 (good_read refused of_parsed.0 of_parsed.1).0
      (fault.MissingImport place) of_parsed.2 some
  never_refused workers (fault.Unresolved place) (refused, of_parsed) some =
      none_first (linked_files of_parsed.0) place (good_read refused of_parsed.0 of_parsed.1).1 of_parsed.2.1
  never_refused workers (fault.Ambiguous place) (refused, of_parsed) some =
      none_first (linked_files of_parsed.0) place (good_read refused of_parsed.0 of_parsed.1).1 of_parsed.2.1
  never_refused workers (fault.OptionGap place) (refused, of_parsed) some =
      (good_read refused of_parsed.0 of_parsed.1).2 place of_parsed.2.1.least.holds
