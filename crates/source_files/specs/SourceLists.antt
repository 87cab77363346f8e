-- A list of sources: a path on each line (the profile's).
use Rattle.std.specs.Prelude.{◌≡◌, ◌≢◌, ◌==◌, ◌+◌, ◌<◌, ◌≤◌, ℕ, ⊤, Bool, true, false, List, [], ◌∷◌, ◌++◌, length, take}
use Rattle.std.specs.Prelude.{Option}
use Rattle.std.specs.HashMap.{HashMap, get_by}
use Rattle.std.specs.List.{count_by, list_any, slice_split}
use Rattle.std.specs.Option.{is_some}
use Rattle.std.specs.Borrow.{Bor}
use Rattle.std.specs.Str.{bytes_eq}
use Rattle.std.specs.Str.{IsUtf8, IsValidUpTo}
use Rattle.std.specs.Str.Lines.{strip_carriage_return}
use Rattle.source_tree.specs.Path.{IsGoodPath}
use Rattle.source_tree.specs.Trees.{max_files}
use Rattle.source_files.specs.declared.source_list.ListFault.{ListFault}
use Rattle.source_files.specs.declared.source_list.ListFault.TheVariants.{TooLong, NotUtf8, BadPath, TooMany, Memory}

-- the most bytes of a list
abbrev pub max_list_length : ℕ
max_list_length = 67108864

-- a path, and the number of its line, from 1
pub record Listed : Type 0 where
  pub path : List ℕ
  pub line : ℕ

-- a line ends with `\n`, before which there may be a `\r`
abbrev pub lines_of : List ℕ → List (List ℕ)
lines_of text = slice_split (λ byte. byte == 10) text

-- whether a path is listed
abbrev pub is_listed : (path : List ℕ) → List Listed → Bool
is_listed path listed = list_any (λ (l : Listed). bytes_eq l.path path) listed

-- What a line with this number adds to what those before it name: an empty one nothing, nor one whose path is listed
-- already; each other one its path.
pub data AddsLine (number : ℕ) (line : List ℕ) (old : List Listed) : (new : List Listed) → Type 0 where
  adds_none : strip_carriage_return line ≡ [] → AddsLine number line old old
  adds_again : is_listed (strip_carriage_return line) old ≡ true → AddsLine number line old old
  adds_path : length old < max_files → IsGoodPath (strip_carriage_return line)
      → is_listed (strip_carriage_return line) old ≡ false
      → AddsLine number line old (old ++ record { path = strip_carriage_return line; line = number } ∷ [])

-- What lines name: no line names anything, and one more behind others adds to what they name.
pub data Name : (lines : List (List ℕ)) → List Listed → Type 0 where
  no_line : Name [] []
  one_more : {lines : List (List ℕ)} {line : List ℕ} {old new : List Listed} → Name lines old
      → AddsLine (length lines + 1) line old new → Name (lines ++ line ∷ []) new

-- the paths that lines name, which aren't too many
pub record AreNamed (lines : List (List ℕ)) (listed : List Listed) : Type 0 where
  pub few : length listed ≤ max_files
  pub named : Name lines listed

-- a line that isn't empty, those before it, and the paths that these name
pub record IsLine (lines before : List (List ℕ)) (line : List ℕ) (listed : List Listed) : Type 0 where
  pub behind : List (List ℕ)
  pub lines_are : lines ≡ before ++ line ∷ behind
  pub named : AreNamed before listed
  pub some : strip_carriage_return line ≢ []

-- Why lines name none: that with this number is no good path, the first such; or one names one more path than a tree
-- has files; whichever comes first. Nothing is said about memory.
abbrev pub MayRefuseLines : (lines : List (List ℕ)) → ListFault → Type 0
MayRefuseLines lines (BadPath number) =
    (before : List (List ℕ)) × (line : List ℕ) × (listed : List Listed) × IsLine lines before line listed
    × (number ≡ length before + 1) × (length listed < max_files) × ¬ (IsGoodPath (strip_carriage_return line))
MayRefuseLines lines TooMany =
    (before : List (List ℕ)) × (line : List ℕ) × (listed : List Listed) × IsLine lines before line listed
    × (length listed ≡ max_files) × (is_listed (strip_carriage_return line) listed ≡ false)
MayRefuseLines lines Memory = ⊤
MayRefuseLines lines other = ⊥

-- the paths that a list with these bytes names
pub record AreListedIn (bytes : List ℕ) (listed : List Listed) : Type 0 where
  pub short : length bytes ≤ max_list_length
  pub text : IsUtf8 bytes
  pub named : AreNamed (lines_of bytes) listed

-- the line of the first byte that isn't part of a character
pub record IsIllFormedAt (bytes : List ℕ) (number : ℕ) : Type 0 where
  pub at : ℕ
  pub ill_formed : IsValidUpTo bytes at
  pub number_is : number ≡ count_by (λ byte. byte == 10) (take at bytes) + 1

-- Why it names none, the first of these: it is too long; the line with this number isn't UTF-8, the first such; a
-- line is no good path, or too many are named. Nothing is said about memory.
abbrev pub MayRefuseList : (bytes : List ℕ) → ListFault → Type 0
MayRefuseList bytes TooLong = max_list_length < length bytes
MayRefuseList bytes (NotUtf8 number) = (length bytes ≤ max_list_length) × IsIllFormedAt bytes number
MayRefuseList bytes fault = (length bytes ≤ max_list_length) × IsUtf8 bytes × MayRefuseLines (lines_of bytes) fault

-- ---- a line

-- why it names none
abbrev pub MayNotAdd : (number : ℕ) → (line : List ℕ) → (old : List Listed) → ListFault → Type 0
MayNotAdd number line old (BadPath at) =
    (at ≡ number) × (strip_carriage_return line ≢ []) × (length old < max_files)
    × ¬ (IsGoodPath (strip_carriage_return line))
MayNotAdd number line old TooMany =
    (strip_carriage_return line ≢ []) × (max_files ≤ length old)
    × (is_listed (strip_carriage_return line) old ≡ false)
MayNotAdd number line old Memory = ⊤
MayNotAdd number line old other = ⊥

-- ---- a map of paths to their lines

abbrev pub line_of : {S : Type 0} → HashMap (Bor (List ℕ)) ℕ S → (path : List ℕ) → Option ℕ
line_of seen path = get_by (λ key. bytes_eq path key.now) seen

-- it has those that are listed
abbrev pub AreSeen : {S : Type 0} → HashMap (Bor (List ℕ)) ℕ S → List Listed → Type 0
AreSeen seen listed = (path : List ℕ) → is_some (line_of seen path) ≡ is_listed path listed
