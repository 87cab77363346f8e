-- The lists by which files are kept.
use Rattle.std.specs.Prelude.{ℕ, ◌+◌, Bool, true, not, ◌&&◌, None, Some, List, [], ◌∷◌, ◌++◌, map}
use Rattle.proto_visibility.specs.Kept.{Omissions, kept_of, left_of}
use Rattle.scip_build.specs.Files.{ReadFile}

-- the numbers of the files that are kept, where the first of these has this number
abbrev pub kept_numbers : (number : ℕ) → Omissions → List ℕ
kept_numbers number [] = []
kept_numbers number (None ∷ omissions) = number ∷ kept_numbers (number + 1) omissions
kept_numbers number (Some fault ∷ omissions) = kept_numbers (number + 1) omissions

-- the numbers of the files that are left out
abbrev pub left_numbers : (number : ℕ) → Omissions → List ℕ
left_numbers number [] = []
left_numbers number (None ∷ omissions) = left_numbers (number + 1) omissions
left_numbers number (Some fault ∷ omissions) = number ∷ left_numbers (number + 1) omissions

-- The numbers that files have among all, in the order in which they are linked: first those of the files that are kept.
abbrev pub linked_numbers : Omissions → List ℕ
linked_numbers omissions = kept_numbers 0 omissions ++ left_numbers 0 omissions

abbrev pub is_source : ReadFile → Bool
is_source parsed_file = not parsed_file.is_included && not parsed_file.is_left_out

-- the file, left out
abbrev pub as_left_out : ReadFile → ReadFile
as_left_out parsed_file = record {
  path = parsed_file.path;
  is_included = parsed_file.is_included;
  is_left_out = true;
  links_options = parsed_file.links_options;
  contents = parsed_file.contents;
}

-- what is linked of files with faults: those that are kept, and behind them, as such, those that are left out
abbrev pub linked_of : Omissions → List ReadFile → List ReadFile
linked_of omissions all = kept_of omissions all ++ map as_left_out (left_of omissions all)
