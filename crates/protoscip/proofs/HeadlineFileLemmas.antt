-- The files that a fault of a build names are files of its tree.
use Rattle.std.proofs.Common.{◌≡◌, ◌∙◌, inl, inr, ℕ, ◌<◌, Bool, false, List, length, Some, sym, subst}
use Rattle.std.specs.List.{Contains, slice_get}
use Rattle.std.proofs.lemmas.List.Elements.{All-contains_itself, All-weaker}
use Rattle.std.proofs.lemmas.Option.{slice_get_within}
use Rattle.std.proofs.lemmas.List.{length-map}
use Rattle.scip_build.specs.declared.read_form.ReadForm.{ReadForm}
use Rattle.proto_parse.specs.dialect.Dialect.{Dialect}
use Rattle.proto_decl.specs.Values.{Seen}
use Rattle.proto_visibility.specs.declared.files.FilePlace.{FilePlace}
use Rattle.proto_visibility.specs.declared.omissions.FileOmission.{FileOmission}
use Rattle.proto_visibility.specs.declared.omissions.FileOmission.TheVariants as left_for
use Rattle.proto_visibility.specs.declared.clash.Duplicates.{Duplicates}
use Rattle.proto_visibility.specs.declared.clash.Duplicates.TheVariants as names
use Rattle.proto_visibility.specs.Clashes.{Clash}
use Rattle.proto_visibility.specs.Files.{File, IsPresent}
use Rattle.proto_visibility.specs.Reaches.IsReachable.{reached}
use Rattle.proto_visibility.proofs.ItemAllLemmas.{file_within}
use Rattle.proto_visibility.specs.Linked.MayRefuse.{clashing, absent_import}
use Rattle.proto_visibility.specs.Kept.{Omissions, IsOmission, AreOmissions, number_among_all}
use Rattle.proto_visibility.specs.Absences.{IsNeeded, of_source, of_included}
use Rattle.proto_decl.specs.declared.imports.Imported.{Imported}
use Rattle.index_hooks.specs.declared.choice.Choice.{Choice}
use Rattle.source_tree.specs.Files.{TreeFile}
use Rattle.scip_build.specs.FactForms.{form_of}
use Rattle.scip_build.specs.Builds.{IsBuilt, IsBuildFault}
use Rattle.scip_build.specs.Kept.{IsLeftFor, IsTold}
use Rattle.scip_build.specs.Kept.IsTold.{of_file, of_import as told_import, of_use, of_ambiguous, of_uncertain, of_gap}
use Rattle.scip_build.specs.Documents.{asked_if, asks_in}
use Rattle.scip_build.proofs.UncertainNameLemmas.{uncertain_source}
use Rattle.scip_build.specs.Files.{ReadFile}
use Rattle.scip_build.specs.Keeping.{linked_of}
use Rattle.scip_build.specs.Linking.{linked_file, linked_files, HasFault}
use Rattle.scip_build.specs.Linking.MayRefuseParsed.{is_unread, is_duplicate, is_missing}
use Rattle.scip_build.specs.declared.faulty.Faulty.{Faulty}
use Rattle.scip_build.specs.declared.faulty.Faulty.TheVariants.{Refuse}
use Rattle.scip_build.specs.ParsedFiles.{AreParsedFiles}
use Rattle.scip_build.specs.declared.settings.Settings.{Settings}
use Rattle.scip_build.specs.declared.built.Built.{Built}
use Rattle.scip_build.specs.declared.fault.BuildFault.{BuildFault}
use Rattle.scip_build.specs.declared.fault.BuildFault.TheVariants as build
use Rattle.scip_build.specs.declared.omission.Omission.{Omission}
use Rattle.scip_build.specs.declared.omission.Omission.TheVariants as omitted
use Rattle.scip_build.specs.declared.fault.FileFault.{FileFault}
use Rattle.scip_build.specs.declared.fault.FileFault.TheVariants as file
use Rattle.protoscip.specs.Faults.{fault_of_build, fault_of_omission}
use Rattle.protoscip.specs.FaultLines.{HasFile, HasFilesOf, HaveFilesOf}
use Rattle.protoscip.proofs.HeadlineLinkedLemmas.{present_origin}

-- and so does an import that has to be there
of_import : (files : List File) (number : ℕ) (import : Imported) → IsNeeded files number import → number < length files
of_import files number import (of_source source has listed) = slice_get_within files number has.file has.numbered
of_import files number import (of_included counts has listed public) =
    slice_get_within files number has.file has.numbered

-- the files of a clash
clash_within : (duplicates : Duplicates) (files : List File) (first second : FilePlace)
    → Clash duplicates files first second → (first.file < length files) × (second.file < length files)
clash_within names.Refuse files first second clash =
    let Within : FilePlace → Type 0 = λ place. place.file < length files in (
      subst Within clash.first_is (file_within clash.earlier clash.exclude.first_is),
      subst Within clash.second_is (file_within clash.later clash.exclude.second_is),
    )
clash_within names.Keep files first second own =
    let clash = own.clash in
    let Within : FilePlace → Type 0 = λ place. place.file < length files in (
      subst Within clash.first_is (file_within clash.earlier clash.exclude.first_is),
      subst Within clash.second_is (file_within clash.later clash.exclude.second_is),
    )

pub in_tree : (allows : Seen → Choice → Type 0) (mode : Faulty) (dialect : Dialect) (form : ReadForm)
    (tree : List TreeFile) (parsed : List ReadFile) (number : ℕ)
    → AreParsedFiles mode dialect form allows tree parsed → number < length (linked_files parsed)
    → HasFile tree number
in_tree allows mode dialect form tree parsed number are within =
    let count : length (linked_files parsed) ≡ length tree = length-map parsed linked_file ∙ are.one_each in
    subst (λ (n : ℕ). number < n) count within

module _ (allows : Seen → Choice → Type 0) (settings : Settings) (tree : List TreeFile) where
  in_parsed : (parsed : List ReadFile) (number : ℕ)
      → AreParsedFiles Refuse settings.dialect (form_of settings) allows tree parsed
      → number < length (linked_files parsed) → HasFile tree number
  in_parsed = in_tree allows Refuse settings.dialect (form_of settings) tree

  pub files_of_build : (workers : ℕ) (e : BuildFault) → IsBuildFault allows settings tree workers e
      → HasFilesOf tree (fault_of_build e)
  files_of_build workers build.Spawn is = tt
  files_of_build workers build.Memory is = tt
  files_of_build workers (build.File number (file.Lex e)) (refuse, inl first) =
      slice_get_within tree number first.file first.numbered
  files_of_build workers (build.File number (file.Syntax e)) (refuse, inl first) =
      slice_get_within tree number first.file first.numbered
  files_of_build workers (build.File number file.Unread) (refuse, inl first) =
      slice_get_within tree number first.file first.numbered
  files_of_build workers (build.File number (file.Lex e)) (refuse, inr (parsed, are, is_unread none has)) =
      subst (λ (n : ℕ). number < n) are.one_each (slice_get_within parsed number has.parsed_file has.numbered)
  files_of_build workers (build.File number (file.Syntax e)) (refuse, inr (parsed, are, is_unread none has)) =
      subst (λ (n : ℕ). number < n) are.one_each (slice_get_within parsed number has.parsed_file has.numbered)
  files_of_build workers (build.File number file.Unread) (refuse, inr (parsed, are, is_unread none has)) =
      subst (λ (n : ℕ). number < n) are.one_each (slice_get_within parsed number has.parsed_file has.numbered)
  files_of_build workers (build.Duplicate first second) (refuse, (parsed, are, is_duplicate (clashing read clash))) =
      let both = clash_within settings.duplicates (linked_files parsed) first second clash in
      (in_parsed parsed first.file are both.0, in_parsed parsed second.file are both.1)
  files_of_build workers (build.MissingImport place)
      (refuse, (parsed, are, is_missing (absent_import read clear absent))) =
      let missing = absent.missing in
      in_parsed parsed place.file are
      (of_import (linked_files parsed) place.file missing.import missing.needed)
  files_of_build workers (build.Unresolved place) (refuse, is) =
      let source = is.2.1.source in
      in_parsed is.0 place.file is.1 (slice_get_within (linked_files is.0) place.file source.file source.numbered)
  files_of_build workers (build.Ambiguous place) (refuse, is) =
      let source = is.2.1.source in
      in_parsed is.0 place.file is.1 (slice_get_within (linked_files is.0) place.file source.file source.numbered)
  files_of_build workers (build.OptionGap place) (refuse, is) =
      let source = is.2.1.least.holds.source in
      in_parsed is.0 place.file is.1 (slice_get_within (linked_files is.0) place.file source.file source.numbered)

-- ---- the files of what is told

module _ (allows : Seen → Choice → Type 0) (faulty : Faulty) (dialect : Dialect) (form : ReadForm)
    (tree : List TreeFile) (all : List ReadFile) (read : AreParsedFiles faulty dialect form allows tree all)
    (duplicates : Duplicates) (omissions : Omissions) (are : AreOmissions duplicates (linked_files all) omissions)
    (asks : Bool) where
  within : (number : ℕ) → number < length (linked_files all) → HasFile tree number
  within number = in_tree allows faulty dialect form tree all number read

  abbrev linked : List File
  linked = linked_files (linked_of omissions all)

  kept_within : (number : ℕ) (file : File) → slice_get linked number ≡ Some file → file.is_left_out ≡ false
      → HasFile tree (number_among_all omissions number)
  kept_within number file at present =
      let there = number_among_all omissions number in
      within there (slice_get_within (linked_files all) there file
      (present_origin omissions all number file at present))

  fault_within : (number : ℕ) (fault : FileFault) → HasFault all number fault
      → HasFilesOf tree (fault_of_omission (omitted.File number fault))
  fault_within number file.Unread has =
      subst (λ (n : ℕ). number < n) read.one_each (slice_get_within all number has.parsed_file has.numbered)
  fault_within number (file.Lex e) has =
      subst (λ (n : ℕ). number < n) read.one_each (slice_get_within all number has.parsed_file has.numbered)
  fault_within number (file.Syntax e) has =
      subst (λ (n : ℕ). number < n) read.one_each (slice_get_within all number has.parsed_file has.numbered)

  of_left : (number : ℕ) (omission : FileOmission) (told : Omission)
      → IsOmission duplicates (linked_files all) omissions number (Some omission) → IsLeftFor all number omission told
      → HasFilesOf tree (fault_of_omission told)
  of_left number left_for.Broken told out left =
      let Has : Omission → Type 0 = λ o. HasFilesOf tree (fault_of_omission o) in
      subst Has (sym left.2) (fault_within number left.0 left.1)
  of_left number (left_for.Duplicate first second) told out left =
      let files = linked_files all in
      let earlier = file_within out.earlier out.exclude.first_is.is_item in
      let later = file_within out.later out.exclude.second_is.is_item in
      let Within : FilePlace → Type 0 = λ place. place.file < length files in
      let Has : Omission → Type 0 = λ o. HasFilesOf tree (fault_of_omission o) in
      subst Has (sym left) (
        within first.file (subst Within out.first_is earlier),
        within second.file (subst Within out.second_is later),
      )

  needed_at : (number : ℕ) (import : Imported) → IsNeeded linked number import → IsPresent linked number
  needed_at number import (of_source is has listed) =
      record { file = is.file; numbered = is.numbered; present = is.present }
  needed_at number import (of_included (reached is reaches present) has listed public) = present

  file_of_told : (told : Omission) → IsTold asks all omissions told → HasFilesOf tree (fault_of_omission told)
  file_of_told told (of_file n o at left) = of_left n o told (are.each n (Some o) at) left
  file_of_told _ (told_import p missing) =
      let at = needed_at p.file missing.import missing.needed in kept_within p.file at.file at.numbered at.present
  file_of_told _ (of_use p is) = let source = is.0 in kept_within p.file source.file source.numbered source.present
  file_of_told _ (of_ambiguous p is) =
      let source = is.0 in kept_within p.file source.file source.numbered source.present
  file_of_told _ (of_uncertain u n o is numbered out) =
      let source = uncertain_source (asked_if asks (linked_of omissions all)) (linked_of omissions all) linked u is in
      let inside : n < length (linked_files all) =
      subst (λ (size : ℕ). n < size) are.one_each (slice_get_within omissions n (Some o) out) in
      (kept_within u.place.file source.file source.numbered source.present, within n inside)
  file_of_told _ (of_gap p is) =
      let source = is.source in kept_within p.file source.file source.numbered source.present

  pub files_of_told : (told : List Omission)
      → ((omission : Omission) → Contains told omission → IsTold asks all omissions omission)
      → HaveFilesOf tree told
  files_of_told told is =
      All-weaker (Contains told) (λ omission. HasFilesOf tree (fault_of_omission omission))
      (λ omission there. file_of_told omission (is omission there)) told (All-contains_itself told)

-- of what was built
pub files_of_built : (allows : Seen → Choice → Type 0) (settings : Settings) (tree : List TreeFile) (built : Built)
    → IsBuilt allows settings tree built → HaveFilesOf tree built.told
files_of_built allows settings tree built is =
    let kept = is.of_files.kept in
    files_of_told allows settings.faulty settings.dialect (form_of settings) tree is.all is.read settings.duplicates
    kept.omissions kept.left_out (asks_in settings) built.told (λ fault there. (kept.told_is.exact fault).0 there)
