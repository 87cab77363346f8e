-- Trees of files as texts: what stands where.
use Rattle.std.specs.Prelude.{◌≢◌, ℕ, ◌==◌, Bool, true, false, cond, List, [], ◌∷◌}
use Rattle.std.specs.List.{before_first, after_first, slice_split, flat_map}
use Rattle.source_tree.specs.Files.{SourceFile, TreeFile}
use Rattle.source_tree.specs.Trees.{IsTreeOf}
use Rattle.source_tree.specs.Refusals.{MayRefuse}
use Rattle.source_tree.specs.declared.fault.TreeFault.{TreeFault}
use Rattle.source_tree.specs.declared.fault.TreeFault.TheVariants.{Memory}

-- a file's first line, and its text behind that
abbrev pub line_of : List ℕ → List ℕ
line_of file = before_first (λ byte. byte == 10) file

abbrev pub text_of : List ℕ → List ℕ
text_of file = after_first (λ byte. byte == 10) file

-- `+`, `-` and `?`, the marks in front of the path in such a line
abbrev pub plus : ℕ
plus = 43

abbrev pub minus : ℕ
minus = 45

abbrev pub question : ℕ
question = 63

abbrev pub is_marked : ℕ → List ℕ → Bool
is_marked mark [] = false
is_marked mark (byte ∷ line) = byte == mark

abbrev pub without_mark : ℕ → List ℕ → List ℕ
without_mark mark [] = []
without_mark mark (byte ∷ line) = cond (byte == mark) line (byte ∷ line)

-- the path in such a line
abbrev pub path_in : List ℕ → List ℕ
path_in line =
    cond (is_marked plus line) (without_mark plus line)
    (cond (is_marked question line) (without_mark question line) (without_mark minus line))

-- the file of a text
abbrev pub source_in : List ℕ → SourceFile
source_in file = record {
  path = path_in (line_of file);
  bytes = text_of file;
  is_unread = is_marked question (line_of file);
}

-- the texts of files: what stands between one `|` and the next
abbrev pub files_of : List ℕ → List (List ℕ)
files_of text = slice_split (λ byte. byte == 124) text

-- a text's file, if it is one of the included ones, or of the others. An empty text has none.
abbrev pub included_in : List ℕ → List SourceFile
included_in [] = []
included_in (byte ∷ file) = cond (is_marked plus (byte ∷ file)) (source_in (byte ∷ file) ∷ []) []

abbrev pub sources_in : List ℕ → List SourceFile
sources_in [] = []
sources_in (byte ∷ file) = cond (is_marked plus (byte ∷ file)) [] (source_in (byte ∷ file) ∷ [])

abbrev pub asked_in : (included : Bool) → List ℕ → List SourceFile
asked_in included file = cond included (included_in file) (sources_in file)

-- the included files of a text, or the sources
abbrev pub asked_of : (included : Bool) → List ℕ → List SourceFile
asked_of included text = flat_map (asked_in included) (files_of text)

-- there is no tree of a text's files: for one of the reasons of `Tree::with_included`, and not for want of memory
pub record HasNoTree (text : List ℕ) : Type 0 where
  pub fault : TreeFault
  pub real : fault ≢ Memory
  pub refused : MayRefuse (asked_of false text) (asked_of true text) fault

abbrev pub IsTreeOfText : List ℕ → List TreeFile → Type 0
IsTreeOfText text files = IsTreeOf (asked_of false text) (asked_of true text) files
