-- What a search over files has found.
use Rattle.std.specs.Prelude.{ℕ, ◌≡◌, ◌<◌, ◌==◌, Bool, false, List, [], ◌∷◌, ◌++◌, length, All, if◌then◌else◌}
use Rattle.std.specs.Prelude.{slice_index_or}
use Rattle.std.specs.List.{list_any, IsDistinct}

-- of this many files these, in order of first sight
pub record Found : Type 0 where
  pub files : ℕ
  pub numbers : List ℕ

-- with a file that may be found already
abbrev pub visit : (found : List ℕ) → (number : ℕ) → List ℕ
visit found number = if list_any (λ other. number == other) found then found else found ++ number ∷ []

abbrev pub visit_all : (found numbers : List ℕ) → List ℕ
visit_all found [] = found
visit_all found (number ∷ numbers) = visit_all (visit found number) numbers

-- a file's mark says whether it is found, and each is found once
pub record AreMarked (marks : List Bool) (found : List ℕ) : Type 0 where
  pub marked : (number : ℕ) → number < length marks
      → slice_index_or marks number false ≡ list_any (λ other. number == other) found
  pub distinct : IsDistinct ◌==◌ found
  pub below : All (λ number. number < length marks) found

-- the file at this index isn't found yet, so fewer are than there are
pub record IsNewAt (found : Found) (numbers : List ℕ) (index : ℕ) : Type 0 where
  pub within : index < length numbers
  pub new : list_any (λ other. slice_index_or numbers index 0 == other) found.numbers ≡ false
  pub fewer : length found.numbers < found.files
