-- What patterns exclude.
use Rattle.std.specs.Prelude.{◌≢◌, ℕ, List, [], ◌∷◌, ◌++◌, All, Contains}
use Rattle.std.specs.Prelude.{if◌then◌else◌, nat_eq}
use Rattle.globs.specs.Pieces.{IsSpelled}

-- a `/` at the start of a pattern for paths says nothing
abbrev pub without_slash : List ℕ → List ℕ
without_slash [] = []
without_slash (byte ∷ bytes) = if nat_eq byte 47 then bytes else byte ∷ bytes

abbrev pub HasNoSlash : List ℕ → Type 0
HasNoSlash pattern = All (λ byte. byte ≢ 47) pattern

-- a pattern without `/` is for the name in its folder, and one with `/` for the path below the root
pub data Excludes (folder name : List ℕ) : (pattern : List ℕ) → Type 0 where
  by_name : {pattern : List ℕ} → HasNoSlash pattern → IsSpelled pattern name → Excludes folder name pattern
  by_path : {pattern : List ℕ} → ¬ (HasNoSlash pattern) → IsSpelled (without_slash pattern) (folder ++ name)
      → Excludes folder name pattern

-- one of them excludes it
abbrev pub IsExcluded : (patterns : List (List ℕ)) → (folder name : List ℕ) → Type 0
IsExcluded patterns folder name = (pattern : List ℕ) × Contains patterns pattern × Excludes folder name pattern
