-- What is built of files that were read.
use Rattle.std.proofs.Common.{Bool, ◌≡◌, ◌∙◌, ◌↔◌, ℕ, List, [], ◌∷◌, length, map, sym, refl, subst}
use Rattle.std.specs.Prelude.{Result, Ok, Err, MatchResult, IfOk, IfErr}
use Rattle.std.specs.List.{AllZip, Contains}
use Rattle.std.specs.List.Sorted.{IsStrictlySortedBy}
use Rattle.std.proofs.lemmas.List.{length-map}
use Rattle.basics.proofs.ListLemmas.{in_nothing}
use Rattle.proto_visibility.specs.declared.files.FilePlace.{FilePlace}
use Rattle.proto_visibility.specs.declared.clash.Duplicates.{Duplicates}
use Rattle.proto_visibility.specs.Files.{HaveOwnPaths}
use Rattle.proto_visibility.specs.Absences.{AreMissing, NoneBroken}
use Rattle.proto_visibility.specs.Linked.{HaveClearNames}
use Rattle.proto_visibility.specs.Kept.{Omissions, AreOmissions, KeptFilesAreClear}
use Rattle.proto_decl.specs.Values.{Seen}
use Rattle.index_hooks.specs.declared.choice.Choice.{Choice}
use Rattle.scip_records.specs.declared.records.Document.{Document}
use Rattle.scip_build.specs.FactForms.{form_of}
use Rattle.scip_model.specs.Chosen.{Chosen}
use Rattle.source_tree.specs.Files.{TreeFile}
use Rattle.scip_build.specs.declared.settings.Settings.{Settings}
use Rattle.scip_build.specs.declared.made.Made.{Made}
use Rattle.scip_build.specs.declared.parts.Parts.{Parts}
use Rattle.scip_build.specs.declared.faulty.Faulty.TheVariants.{Refuse, Skip}
use Rattle.scip_build.specs.declared.omission.Omission.{Omission}
use Rattle.scip_build.specs.Files.{ReadFile}
use Rattle.scip_build.specs.Linking.{linked_file, linked_files}
use Rattle.scip_build.specs.Placing.{document_at, index_at, kept_at}
use Rattle.scip_build.specs.ParsedFiles.{AreParsedFiles}
use Rattle.scip_build.specs.Keeping.{linked_of}
use Rattle.scip_build.specs.Ready.{AreOfTree, ArePresent}
use Rattle.scip_build.specs.Documents.{asked_if, asked_in, asks_in, IsGapAt, IsUnresolvedAt}
use Rattle.scip_build.specs.Kept.{told_cmp, AreKept}
use Rattle.scip_build.specs.Telling.{AreInOrder, all_told, AreKeptFiles, AreUncertain, AreUseFaults}
use Rattle.proto_link.specs.declared.uncertain_use.UncertainUse.{UncertainUse}
use Rattle.proto_visibility.specs.declared.fault.LinkFault.{LinkFault}
use Rattle.scip_build.specs.Forms.{IsMadeOf, IsLinkedAndMade, IsBuiltOfInForm, IsBuiltInForm}
use Rattle.scip_build.proofs.BuildsRefusalLemmas.{not_both}
use Rattle.scip_build.proofs.KeptTreeLemmas.{linked_is, linked_tree, all_linked}
use Rattle.scip_build.proofs.KeptUncertainLemmas.{behind_left}
use Rattle.scip_build.proofs.KeptToldLemmas.{is_told, told_is, own_keys}
use Rattle.scip_build.proofs.KeptLemmas.{filled_of}
use Rattle.scip_build.proofs.BuildLawGoodTreeLemmas.{all_kept, good_files_are_kept, are_all_kept, none_told}

none_ascends : IsStrictlySortedBy told_cmp []
unfolding IsStrictlySortedBy
none_ascends = tt

-- ---- where faults are refused

pub whole_built : {Out : Type 0} (Is : Document → Out → Type 0) (all : List ReadFile) (settings : Settings)
    (made : Made Out) (told : List Omission) → settings.faulty ≡ Refuse → told ≡ []
    → IsLinkedAndMade Is all settings made → IsBuiltOfInForm Is all settings made.choices told made.parts
whole_built {Out} Is all settings made told refuse none of =
    let files = linked_files all in
    let clear : HaveClearNames settings.duplicates files = of.made_of.clear in
    let in_form = of.made_of.in_form in
    let omissions : Omissions = all_kept files in
    let one_each : length omissions ≡ length all =
    (good_files_are_kept settings.duplicates files clear).one_each ∙ length-map all linked_file in
    let resolved = (in_form.made.refused refuse).0 in
    let asks = asks_in settings in
    let filled = filled_of (asked_if asks all) all files made.option_gaps in_form.made.gaps
    (of.made_of.filled refuse) in
    let nothing = none_told all omissions one_each (are_all_kept files) settings.duplicates asks of.linked resolved
    filled in
    let kept : AreKept settings.duplicates asks all all [] = record {
      omissions = omissions;
      left_out = good_files_are_kept settings.duplicates files clear;
      kept = sym (all_linked omissions all one_each (are_all_kept files));
      decided = in_form.made.decided;
      told_is = record {
        exact = λ fault. (λ there. absurd (in_nothing fault there), λ is. absurd (nothing fault is));
        ascends = none_ascends;
      };
    } in
    record {
      index = in_form.index;
      built = record {
        parsed = all;
        kept = subst (AreKept settings.duplicates asks all all) (sym none) kept;
        clear = clear;
        refused = λ _. record {
          none = none;
          all_kept = refl;
          linked = of.linked;
          resolved = resolved;
          filled = filled;
        };
        choices = of.made_of.choices;
        repeated = of.made_of.repeated;
        are_repeated = of.made_of.are_repeated;
        index = in_form.made.is;
      };
      are = in_form.are;
    }

-- ---- where they are skipped

-- the files that are linked are those of a tree, without a clash
pub record AreKeptOf (links : Bool) (duplicates : Duplicates) (all parsed : List ReadFile) : Type 0 where
  pub tree : AreOfTree links parsed
  pub clear : HaveClearNames duplicates (linked_files parsed)

pub kept_ready : {links : Bool} → KeptFilesAreClear → (duplicates : Duplicates) (all parsed : List ReadFile)
    (omissions : Omissions)
    → AreOfTree links all → ArePresent all → AreOmissions duplicates (linked_files all) omissions
    → parsed ≡ linked_of omissions all → AreKeptOf links duplicates all parsed
kept_ready {links} kept_clear duplicates all parsed omissions tree present are kept =
    let (own, clear) = kept_clear duplicates (linked_files all) omissions are tree.own in
    let files = linked_is omissions all in
    let of : AreKeptOf links duplicates all (linked_of omissions all) = record {
      tree = linked_tree all omissions tree present (subst HaveOwnPaths (sym files) own);
      clear = subst (HaveClearNames duplicates) (sym files) clear;
    } in
    subst (AreKeptOf links duplicates all) (sym kept) of

pub kept_built : {Out : Type 0} (Is : Document → Out → Type 0) (all parsed : List ReadFile) (settings : Settings)
    (made : Made Out) (numbers : List ℕ) (left once : List Omission) (missing : List FilePlace)
    (faults : List LinkFault) (uncertain : List UncertainUse) → ArePresent all → settings.faulty ≡ Skip → (of_files : AreKeptFiles settings.duplicates all parsed numbers left)
    → IsMadeOf Is parsed settings made → AreMissing (linked_files parsed) missing
    → AreUseFaults (linked_files parsed) made.unresolved_uses faults
    → AreUncertain (asked_in settings parsed) parsed (linked_files parsed) uncertain
    → AreInOrder (all_told left numbers missing faults uncertain made.option_gaps) once
    → IsBuiltOfInForm Is all settings made.choices once made.parts
kept_built Is all parsed settings made numbers left once missing faults uncertain present skip kept of missing_are
    faults_are uncertain_are order =
    let omissions = kept.omissions in
    let missing_too = subst (λ (rs : List ReadFile). AreMissing (linked_files rs) missing) kept.kept missing_are in
    let Gaps : List ReadFile → Type 0 = λ rs. (place : FilePlace)
    → Contains made.unresolved_uses place ↔ IsUnresolvedAt (linked_files rs) place in
    let unresolved_too = subst Gaps kept.kept of.in_form.made.unresolved in
    let asks = asks_in settings in
    let Gaps_of : List ReadFile → Type 0 = λ rs. (place : FilePlace)
    → Contains made.option_gaps place ↔ IsGapAt (asked_if asks rs) rs (linked_files rs) place in
    let gaps_too = subst Gaps_of kept.kept of.in_form.made.gaps in
    let faults_too = subst (λ (rs : List ReadFile). AreUseFaults (linked_files rs) made.unresolved_uses faults) kept.kept
    faults_are in
    let uncertain_too =
    subst (λ (rs : List ReadFile). AreUncertain (asked_if asks rs) rs (linked_files rs) uncertain) kept.kept
    uncertain_are in
    let order_too = subst (λ ns. AreInOrder (all_told left ns missing faults uncertain made.option_gaps) once)
    kept.numbers_are order in
    let size : length omissions ≡ length all = kept.left_out.one_each ∙ length-map all linked_file in
    let read = subst (λ (rs : List ReadFile). NoneBroken (linked_files rs)) kept.kept of.clear.read in
    let behind = behind_left all omissions size present read in
    let own = own_keys settings.duplicates asks all omissions kept.left_out left missing made.unresolved_uses faults
    uncertain made.option_gaps kept.left_are missing_too unresolved_too faults_too uncertain_too gaps_too behind in
    record {
      index = of.in_form.index;
      built = record {
        parsed = parsed;
        kept = record {
          omissions = omissions;
          left_out = kept.left_out;
          kept = kept.kept;
          decided = of.in_form.made.decided;
          told_is = record {
            exact = λ fault. (
              λ there. is_told settings.duplicates asks all omissions kept.left_out left missing made.unresolved_uses
                  faults uncertain made.option_gaps kept.left_are missing_too unresolved_too faults_too uncertain_too
                  gaps_too behind fault
                  ((order_too.same own fault).0 there),
              λ is. (order_too.same own fault).1 (told_is settings.duplicates asks all omissions kept.left_out left
                  missing made.unresolved_uses faults uncertain made.option_gaps kept.left_are missing_too unresolved_too
                  faults_too uncertain_too gaps_too behind fault is),
            );
            ascends = order_too.rising;
          };
        };
        clear = of.clear;
        refused = λ refuse. absurd (not_both settings.faulty skip refuse);
        choices = of.choices;
        repeated = of.repeated;
        are_repeated = of.are_repeated;
        index = of.in_form.made.is;
      };
      are = of.in_form.are;
    }

-- ---- of a tree

-- what is kept of documents where they are placed is kept of those documents
placed_zip : {Out : Type 0} (Is : Document → Out → Type 0) (folder : List ℕ) (documents : List Document)
    (outs : List Out) → AllZip (kept_at folder Is) documents outs → AllZip Is (map (document_at folder) documents) outs
placed_zip Is folder [] [] all = tt
placed_zip Is folder [] (out ∷ outs) all = absurd all
placed_zip Is folder (d ∷ ds) [] all = absurd all
placed_zip Is folder (d ∷ ds) (out ∷ outs) all = (all.0, placed_zip Is folder ds outs all.1)

pub tree_built : {Out : Type 0} (Is : Document → Out → Type 0) (allows : Seen → Choice → Type 0) (settings : Settings)
    (tree : List TreeFile) (all : List ReadFile) (choices : Chosen) (told : List Omission) (parts : Parts Out)
    → AreParsedFiles settings.faulty settings.dialect (form_of settings) allows tree all
    → IsBuiltOfInForm (kept_at settings.at Is) all settings choices told parts
    → IsBuiltInForm Is allows settings tree choices told parts
tree_built Is allows settings tree all choices told parts read of = record {
  index = index_at settings.at of.index;
  built = record { all = all; read = read; plain = of.index; of_files = of.built; placed = refl };
  are = record {
    metadata = of.are.metadata;
    documents = placed_zip Is settings.at of.index.documents parts.documents of.are.documents;
    external_symbols = of.are.external_symbols;
  };
}

pub if_ok : {A F : Type 0} (P Q : A → Type 0) (R : F → Type 0) (result : Result A F) → MatchResult result P R
    → ((x : A) → P x → Q x) → IfOk result Q
if_ok P Q R (Ok x) is to = to x is
if_ok P Q R (Err e) is to = tt

pub if_err : {A F : Type 0} (P : A → Type 0) (R S : F → Type 0) (result : Result A F) → MatchResult result P R
    → ((e : F) → R e → S e) → IfErr result S
if_err P R S (Ok x) is to = tt
if_err P R S (Err e) is to = to e is
