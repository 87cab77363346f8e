-- Which of the files that were read are taken: where what can't be read is left out, a bad path is, too.
use Rattle.std.specs.Prelude.{◌≡◌, Bool, true, List, [], ◌∷◌, ◌++◌, if◌then◌else◌}
use Rattle.source_tree.specs.Files.{SourceFile}
use Rattle.source_tree.specs.Path.{IsGoodPath}
use Rattle.source_files.specs.Roots.{FilesBelow, files_of}
use Rattle.source_files.specs.Unread.{Unread, at_bad_path}

-- what is told of a file that isn't taken: one that can't be read is told already
abbrev pub bad_of : SourceFile → List Unread
bad_of file = if file.is_unread then [] else at_bad_path file.path ∷ []

-- Of these files, in their order, those that are taken, and what is told of the others: a file whose path is no good
-- one is left out, if such are.
pub data AreTaken (leaves_out : Bool) : (files taken : List SourceFile) → (bad : List Unread) → Type 0 where
  none_taken : AreTaken leaves_out [] [] []
  is_taken : {file : SourceFile} {files taken : List SourceFile} {bad : List Unread}
      → (leaves_out ≡ true → IsGoodPath file.path) → AreTaken leaves_out files taken bad
      → AreTaken leaves_out (file ∷ files) (file ∷ taken) bad
  is_bad : {file : SourceFile} {files taken : List SourceFile} {bad : List Unread}
      → leaves_out ≡ true → ¬ (IsGoodPath file.path) → AreTaken leaves_out files taken bad
      → AreTaken leaves_out (file ∷ files) taken (bad_of file ++ bad)

-- this holds of those that are taken below a root and included roots, and of the others
pub record OfTaken (leaves_out : Bool) (own : FilesBelow) (others : List FilesBelow)
    (Holds : (sources included : List SourceFile) → (bad : List Unread) → Type 0) : Type 0 where
  pub sources : List SourceFile
  pub included : List SourceFile
  pub bad : List Unread
  pub worse : List Unread
  pub sources_are : AreTaken leaves_out own.files sources bad
  pub included_are : AreTaken leaves_out (files_of others) included worse
  pub holds : Holds sources included (bad ++ worse)

-- those of more files that are taken come behind others, and what isn't read of them behind what wasn't
pub record AddsTaken (leaves_out : Bool) (files taken_old taken_new : List SourceFile) (old new : List Unread) : Type 0
  where
    pub taken : List SourceFile
    pub bad : List Unread
    pub are : AreTaken leaves_out files taken bad
    pub taken_are : taken_new ≡ taken_old ++ taken
    pub unread_are : new ≡ old ++ bad
