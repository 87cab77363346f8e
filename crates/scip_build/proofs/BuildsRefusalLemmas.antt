-- A refusal of a stage is one of the whole.
use Rattle.std.proofs.Common.{◌≡◌, ℕ, Bool, List, Option, Result, Ok, Err, sym, ◌∙◌, subst, inl, inr}
use Rattle.std.specs.Prelude.{MatchResult}
use Rattle.proto_decl.specs.Values.{Seen}
use Rattle.index_hooks.specs.declared.choice.Choice.{Choice}
use Rattle.proto_visibility.specs.declared.clash.Duplicates.{Duplicates}
use Rattle.proto_visibility.specs.Files.{File}
use Rattle.proto_visibility.specs.Linked.{CanBeLinked}
use Rattle.scip_records.specs.declared.records.Document.{Document}
use Rattle.source_tree.specs.Files.{TreeFile}
use Rattle.scip_build.specs.declared.settings.Settings.{Settings}
use Rattle.scip_build.specs.declared.made.Made.{Made}
use Rattle.scip_build.specs.declared.faulty.Faulty.{Faulty}
use Rattle.scip_build.specs.declared.faulty.Faulty.TheVariants.{Refuse, Skip}
use Rattle.scip_build.specs.declared.fault.BuildFault.{BuildFault}
use Rattle.scip_build.specs.Files.{ReadFile}
use Rattle.scip_build.specs.ParsedFiles.{MayRefuseFiles}
use Rattle.scip_build.specs.Linking.{linked_files, MayRefuseParsed}
use Rattle.option_link.specs.declared.facts.OptionFacts.{OptionFacts}
use Rattle.scip_build.specs.Documents.{asked_if, asks_in, IsToldFor, MayRefuseDocuments, MayRefuseLinked}
use Rattle.scip_build.specs.Making.{MayRefuseMaking, MayRefuseSkipping}
use Rattle.scip_build.specs.ParsedFiles.MayRefuseFiles.{files_lack_thread, files_lack_memory, first_is_faulty}
use Rattle.scip_build.specs.Linking.MayRefuseParsed.{linking_lacks_memory, is_unread, is_duplicate, is_missing}
use Rattle.scip_build.specs.Documents.MayRefuseDocuments.{documents_lack_thread, documents_lack_memory}
use Rattle.scip_build.specs.Documents.MayRefuseDocuments.{first_is_unresolved}
use Rattle.scip_build.specs.Documents.MayRefuseLinked.{linked_lack_thread, linked_lack_memory}
use Rattle.scip_build.specs.Documents.MayRefuseLinked.{least_is_unresolved, least_is_ambiguous, least_is_gap}
use Rattle.scip_build.specs.Making.MayRefuseSkipping.{skipping_lacks_thread, skipping_lacks_memory}
use Rattle.scip_build.specs.Forms.{IsMadeOf, IsLinkedAndMade}
use Rattle.scip_build.specs.Builds.{IsBuildFault}

-- why files that were read can't be linked
pub of_linking : (duplicates : Duplicates) (asks : Bool) (parsed : List ReadFile) (workers : ℕ) (fault : BuildFault)
    → MayRefuseParsed duplicates parsed fault → MayRefuseMaking duplicates asks parsed workers fault
of_linking duplicates asks parsed workers _ linking_lacks_memory = tt
of_linking duplicates asks parsed workers _ (is_unread broken has) = is_unread broken has
of_linking duplicates asks parsed workers _ (is_duplicate is) = is_duplicate is
of_linking duplicates asks parsed workers _ (is_missing is) = is_missing is

-- why nothing is made of linked files, by why their documents aren't made and what is told for that
pub told_of : (faulty : Faulty) (asked : Option (List OptionFacts)) (parsed : List ReadFile) (files : List File)
    (workers : ℕ) (fault told : BuildFault) → MayRefuseDocuments faulty files workers fault → IsToldFor files fault told
    → MayRefuseLinked faulty asked parsed files workers told
told_of faulty asked parsed files workers _ told (documents_lack_thread more) same =
    subst (MayRefuseLinked faulty asked parsed files workers) (sym same) (linked_lack_thread more)
told_of faulty asked parsed files workers _ told documents_lack_memory same =
    subst (MayRefuseLinked faulty asked parsed files workers) (sym same) linked_lack_memory
told_of faulty asked parsed files workers _ told (first_is_unresolved refuse least) (inl plain) =
    subst (MayRefuseLinked faulty asked parsed files workers) (sym plain.0)
    (least_is_unresolved refuse least plain.1)
told_of faulty asked parsed files workers _ told (first_is_unresolved refuse least) (inr (inl ambiguous)) =
    subst (MayRefuseLinked faulty asked parsed files workers) (sym ambiguous.0)
    (least_is_ambiguous refuse least ambiguous.1)
told_of faulty asked parsed files workers _ told (first_is_unresolved refuse least) (inr (inr memory)) =
    subst (MayRefuseLinked faulty asked parsed files workers) (sym memory) linked_lack_memory

-- that is why nothing is made of files that were read
of_linked : (duplicates : Duplicates) (asks : Bool) (faulty : Faulty) (parsed : List ReadFile) (workers : ℕ)
    (told : BuildFault) → CanBeLinked duplicates (linked_files parsed)
    → MayRefuseLinked faulty (asked_if asks parsed) parsed (linked_files parsed) workers told
    → MayRefuseMaking duplicates asks parsed workers told
of_linked duplicates asks faulty parsed workers _ linked (linked_lack_thread more) = more
of_linked duplicates asks faulty parsed workers _ linked linked_lack_memory = tt
of_linked duplicates asks faulty parsed workers _ linked (least_is_unresolved refuse least not) = (linked, least, not)
of_linked duplicates asks faulty parsed workers _ linked (least_is_ambiguous refuse least is) = (linked, least, is)
of_linked duplicates asks faulty parsed workers _ linked (least_is_gap refuse least) = (linked, least)

pub not_both : (faulty : Faulty) → faulty ≡ Skip → faulty ≡ Refuse → ⊥
not_both faulty skip refuse = apart (sym skip ∙ refuse)
  where
    apart : ◌≡◌ {A = Faulty} Skip Refuse → ⊥
    apart e = cc

-- the same, where faults are skipped
pub of_skipping : (faulty : Faulty) (asked : Option (List OptionFacts)) (parsed : List ReadFile) (files : List File)
    (workers : ℕ) (told : BuildFault) → faulty ≡ Skip → MayRefuseLinked faulty asked parsed files workers told
    → MayRefuseSkipping workers told
of_skipping faulty asked parsed files workers _ skip (linked_lack_thread more) = skipping_lacks_thread more
of_skipping faulty asked parsed files workers _ skip linked_lack_memory = skipping_lacks_memory
of_skipping faulty asked parsed files workers _ skip (least_is_unresolved refuse least not) =
    absurd (not_both faulty skip refuse)
of_skipping faulty asked parsed files workers _ skip (least_is_ambiguous refuse least is) =
    absurd (not_both faulty skip refuse)
of_skipping faulty asked parsed files workers _ skip (least_is_gap refuse least) =
    absurd (not_both faulty skip refuse)

-- files that were linked
pub linked_of : {Out : Type 0} (Is : Document → Out → Type 0) (parsed : List ReadFile) (settings : Settings)
    (workers : ℕ) → CanBeLinked settings.duplicates (linked_files parsed) → (result : Result (Made Out) BuildFault)
    → MatchResult result (IsMadeOf Is parsed settings)
    (MayRefuseLinked settings.faulty (asked_if (asks_in settings) parsed) parsed (linked_files parsed) workers)
    → MatchResult result (IsLinkedAndMade Is parsed settings)
    (MayRefuseMaking settings.duplicates (asks_in settings) parsed workers)
linked_of Is parsed settings workers linked (Ok made) is = record { linked = linked; made_of = is }
linked_of Is parsed settings workers linked (Err fault) is =
    of_linked settings.duplicates (asks_in settings) settings.faulty parsed workers fault linked is

module _ (allows : Seen → Choice → Type 0) (settings : Settings) (tree : List TreeFile) (workers : ℕ) where
  -- why files aren't read
  pub of_parsed_file : (fault : BuildFault) → MayRefuseFiles settings.faulty settings.dialect tree workers fault
      → IsBuildFault allows settings tree workers fault
  of_parsed_file _ (files_lack_thread more) = more
  of_parsed_file _ files_lack_memory = tt
  of_parsed_file _ (first_is_faulty refuse first) = (refuse, inl first)

  -- why what is kept of them makes none
  pub of_kept : (fault : BuildFault) → MayRefuseSkipping workers fault
      → IsBuildFault allows settings tree workers fault
  of_kept _ (skipping_lacks_thread more) = more
  of_kept _ skipping_lacks_memory = tt
