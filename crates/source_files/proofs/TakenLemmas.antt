-- Which files are taken, one after the other; and the tree of those that are.
use Rattle.std.proofs.Common.{◌≡◌, ◌∙◌, Bool, true, List, [], ◌∷◌, ◌++◌, append-nil, append_assoc, ap, subst, sym}
use Rattle.std.proofs.Common.{ℕ, inl, inr}
use Rattle.std.proofs.lemmas.Bool.{cases_Bool, false≢true}
use Rattle.source_tree.specs.Files.{SourceFile, TreeFile}
use Rattle.source_tree.specs.Path.{IsGoodPath}
use Rattle.source_tree.specs.Trees.{IsTreeOf}
use Rattle.source_files.specs.declared.load_fault.LoadFault.{LoadFault}
use Rattle.source_files.specs.declared.load_fault.LoadFault.TheVariants as load
use Rattle.source_files.specs.LoadFaults.{MayRefuseFiles, MayRefuseTaken}
use Rattle.source_files.specs.Loads.{AreLoaded}
use Rattle.source_files.specs.Roots.{FilesBelow, all_unread, files_of}
use Rattle.source_files.specs.Taken.{AddsTaken, AreTaken, OfTaken, bad_of, is_bad, is_taken, none_taken}
use Rattle.source_files.specs.Unread.{Unread}
use Rattle.source_files.specs.Walks.{AreEachOnce}

module _ (leaves_out : Bool) where
  taken_append : {files more taken longer : List SourceFile} {bad worse : List Unread}
      → AreTaken leaves_out files taken bad → AreTaken leaves_out more longer worse
      → AreTaken leaves_out (files ++ more) (taken ++ longer) (bad ++ worse)
  taken_append none_taken rest = rest
  taken_append (is_taken good front) rest = is_taken good (taken_append front rest)
  taken_append {more = more} {taken = taken} {longer = longer} {worse = worse}
      (is_bad {file = file} {files = files} {bad = others} leaves bad front) rest =
      subst (λ (l : List Unread). AreTaken leaves_out (file ∷ files ++ more) (taken ++ longer) l)
      (sym (append_assoc (bad_of file) others worse)) (is_bad leaves bad (taken_append front rest))

  pub none_added : (taken : List SourceFile) (unread : List Unread) → AddsTaken leaves_out [] taken taken unread unread
  none_added taken unread = record {
    taken = [];
    bad = [];
    are = none_taken;
    taken_are = sym (append-nil taken);
    unread_are = sym (append-nil unread);
  }

  -- a file is taken
  pub one_taken : (file : SourceFile) (old new : List SourceFile) (unread : List Unread)
      → (leaves_out ≡ true → IsGoodPath file.path) → new ≡ old ++ file ∷ []
      → AddsTaken leaves_out (file ∷ []) old new unread unread
  one_taken file old new unread good pushed = record {
    taken = file ∷ [];
    bad = [];
    are = is_taken good none_taken;
    taken_are = pushed;
    unread_are = sym (append-nil unread);
  }

  -- or it isn't
  pub one_bad : (file : SourceFile) (taken : List SourceFile) (old new : List Unread) → leaves_out ≡ true
      → ¬ (IsGoodPath file.path) → new ≡ old ++ bad_of file
      → AddsTaken leaves_out (file ∷ []) taken taken old new
  one_bad file taken old new leaves bad pushed = record {
    taken = [];
    bad = bad_of file ++ [];
    are = is_bad leaves bad none_taken;
    taken_are = sym (append-nil taken);
    unread_are = pushed ∙ ap (λ (l : List Unread). old ++ l) (sym (append-nil (bad_of file)));
  }

  pub more_added : (files more taken_old taken_between taken_new : List SourceFile) (old between new : List Unread)
      → AddsTaken leaves_out files taken_old taken_between old between
      → AddsTaken leaves_out more taken_between taken_new between new
      → AddsTaken leaves_out (files ++ more) taken_old taken_new old new
  more_added files more taken_old taken_between taken_new old between new first second = record {
    taken = first.taken ++ second.taken;
    bad = first.bad ++ second.bad;
    are = taken_append first.are second.are;
    taken_are =
        second.taken_are
        ∙ (ap (λ (l : List SourceFile). l ++ second.taken) first.taken_are
        ∙ append_assoc taken_old first.taken second.taken);
    unread_are =
        second.unread_are
        ∙ (ap (λ (l : List Unread). l ++ second.bad) first.unread_are ∙ append_assoc old first.bad second.bad);
  }

  -- what isn't taken is left out, and has a bad path
  pub left_out : (path : List ℕ) → ¬ (leaves_out ≡ true → IsGoodPath path)
      → (leaves_out ≡ true) × ¬ (IsGoodPath path)
  left_out path not_taken = elim (cases_Bool leaves_out) [
    | inl leaves ↦ (leaves, λ good. not_taken (λ _. good))
    | inr strict ↦ absurd (not_taken (λ leaves. absurd (false≢true (sym strict ∙ leaves))))
  ]

  -- ---- of all roots

  module _ (own : FilesBelow) (others : List FilesBelow) (own_files files sources included : List SourceFile)
      (all with_bad with_worse : List Unread)
      (own_are : own_files ≡ own.files)
      (files_are : files ≡ files_of others)
      (all_are : all ≡ all_unread (own ∷ others))
      (first : AddsTaken leaves_out own_files [] sources all with_bad)
      (second : AddsTaken leaves_out files [] included with_bad with_worse) where
    sources_taken : AreTaken leaves_out own.files sources first.bad
    sources_taken =
        subst (λ (l : List SourceFile). AreTaken leaves_out l sources first.bad) own_are
        (subst (λ (l : List SourceFile). AreTaken leaves_out own_files l first.bad) (sym first.taken_are) first.are)

    included_taken : AreTaken leaves_out (files_of others) included second.bad
    included_taken =
        subst (λ (l : List SourceFile). AreTaken leaves_out l included second.bad) files_are
        (subst (λ (l : List SourceFile). AreTaken leaves_out files l second.bad) (sym second.taken_are) second.are)

    all_is : with_worse ≡ all_unread (own ∷ others) ++ (first.bad ++ second.bad)
    all_is =
        second.unread_are
        ∙ (ap (λ (l : List Unread). l ++ second.bad)
        (first.unread_are ∙ ap (λ (l : List Unread). l ++ first.bad) all_are)
        ∙ append_assoc (all_unread (own ∷ others)) first.bad second.bad)

    pub are_loaded : (tree : List TreeFile) (unread : List Unread) → AreEachOnce with_worse unread
        → IsTreeOf sources included tree → AreLoaded leaves_out tree unread own others
    are_loaded tree unread once made = record {
      sources = sources;
      included = included;
      bad = first.bad;
      worse = second.bad;
      sources_are = sources_taken;
      included_are = included_taken;
      holds = (made, subst (λ (l : List Unread). AreEachOnce l unread) all_is once);
    }

    taken_with : (Holds : (s i : List SourceFile) → Type 0) → Holds sources included
        → OfTaken leaves_out own others (λ s i bad. Holds s i)
    taken_with Holds holds = record {
      sources = sources;
      included = included;
      bad = first.bad;
      worse = second.bad;
      sources_are = sources_taken;
      included_are = included_taken;
      holds = holds;
    }

    pub not_loaded : (fault : LoadFault) → MayRefuseFiles sources included fault
        → MayRefuseTaken leaves_out own others fault
    not_loaded load.Memory refuses = tt
    not_loaded (load.Unreadable name) refuses = absurd refuses
    not_loaded load.TooMany refuses = taken_with (λ s i. MayRefuseFiles s i load.TooMany) refuses
    not_loaded (load.BadPath path) refuses = taken_with (λ s i. MayRefuseFiles s i (load.BadPath path)) refuses
    not_loaded (load.SamePath path) refuses = taken_with (λ s i. MayRefuseFiles s i (load.SamePath path)) refuses
