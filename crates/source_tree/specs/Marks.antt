-- What the code computes: which included files count, by marks, one for each; and the files with what is read of them.
use Rattle.std.specs.Prelude.{◌≡◌, ℕ, Option, None, Some, Bool, true, false, not, List, [], ◌∷◌, ◌++◌, if◌then◌else◌, map}
use Rattle.std.specs.List.{list_any, AllZip}
use Rattle.std.specs.Str.{bytes_eq}
use Rattle.std.specs.HashSet.{HashSet, contains_by}
use denote.Ref.{Bor}
use Rattle.proto_lex.specs.Faults.{IsFirstFaultWith}
use Rattle.proto_lex.specs.declared.hashes.Hashes.TheVariants.{InValues}
use Rattle.proto_lex.specs.declared.fault.LexFault.{LexFault}
use Rattle.proto_lex.specs.declared.fault.LexFault.TheVariants.{BadByte, Memory}
use Rattle.source_tree.specs.Files.{SourceFile, TreeFile, in_tree}
use Rattle.source_tree.specs.Mending.{Reads, IsMended}

-- a path is among these
abbrev pub is_taken : List (List ℕ) → List ℕ → Bool
is_taken taken path = list_any (bytes_eq path) taken

-- whether a set of texts has a path
abbrev pub has_path : {S : Type 0} → HashSet (Bor (List ℕ)) S → List ℕ → Bool
has_path set path = contains_by (λ key. bytes_eq path key.now) set

-- whether each file's path is none of these, and none of an earlier file's
abbrev pub marks_of : List (List ℕ) → List SourceFile → List Bool
marks_of taken [] = []
marks_of taken (file ∷ files) = not (is_taken taken file.path) ∷ marks_of (taken ++ file.path ∷ []) files

-- the files that are marked
abbrev pub marked : List Bool → List SourceFile → List SourceFile
marked [] files = []
marked (mark ∷ marks) [] = []
marked (mark ∷ marks) (file ∷ files) = if mark then file ∷ marked marks files else marked marks files

-- the files of a tree with these sources and these included files, in order
abbrev pub files_of : List SourceFile → List SourceFile → List TreeFile
files_of sources included = map (in_tree false) sources ++ map (in_tree true) included

-- of a fault, the place of a byte that can't be where it is, if it is that; nothing is said about memory
abbrev pub bad_byte : LexFault → Option (Option ℕ)
bad_byte (BadByte at) = Some (Some at)
bad_byte Memory = None
bad_byte _ = Some None

-- where the lexer, on its way, meets such a byte
abbrev pub IsFirstBadByte : List ℕ → Option ℕ → Type 0
IsFirstBadByte text None = (at : ℕ) → IsFirstFaultWith InValues text (BadByte at) → ⊥
IsFirstBadByte text (Some at) = IsFirstFaultWith InValues text (BadByte at)

-- what is read of bytes up to those that are left is added to what was read before
abbrev pub ReadsOn : (old new bytes left : List ℕ) → Type 0
ReadsOn old new bytes left =
    (after : List ℕ) → Reads left after → (all : List ℕ) × (new ++ after ≡ old ++ all) × Reads bytes all

-- what is read of bytes, if it is kept, and else the bytes
abbrev pub text_or : Option (List ℕ) → List ℕ → List ℕ
text_or None bytes = bytes
text_or (Some text) bytes = text

-- the files with what is read of the first so many, where it is kept
abbrev pub with_texts : List (Option (List ℕ)) → List TreeFile → List TreeFile
with_texts [] files = files
with_texts (text ∷ texts) [] = []
with_texts (text ∷ texts) (file ∷ files) = record file { text = text_or text file.bytes } ∷ with_texts texts files

-- of each file, this is read
abbrev pub AreTexts : List SourceFile → List (Option (List ℕ)) → Type 0
AreTexts files texts = AllZip (λ file text. IsMended file.bytes (text_or text file.bytes)) files texts
