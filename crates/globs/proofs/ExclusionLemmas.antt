-- What a pattern excludes, by whether it has a `/`.
use Rattle.std.proofs.Common.{◌↔◌, ℕ, Bool, IsTrue, List, ◌++◌}
use Rattle.globs.specs.Exclusions.{Excludes, by_name, by_path, HasNoSlash, without_slash}
use Rattle.globs.specs.Pieces.{IsSpelled}

module _ {folder name pattern : List ℕ} (yes : Bool) where
  named : HasNoSlash pattern → Excludes folder name pattern → IsSpelled pattern name
  named none (by_name whole spelled) = spelled
  named none (by_path slash spelled) = absurd (slash none)

  pub excludes_name : HasNoSlash pattern → (IsTrue yes ↔ IsSpelled pattern name)
      → (IsTrue yes ↔ Excludes folder name pattern)
  excludes_name none is = ((λ t. by_name none (is.0 t)), (λ excludes. is.1 (named none excludes)))

  placed : ¬ (HasNoSlash pattern) → Excludes folder name pattern → IsSpelled (without_slash pattern) (folder ++ name)
  placed slash (by_name whole spelled) = absurd (slash whole)
  placed slash (by_path some spelled) = spelled

  pub excludes_path : ¬ (HasNoSlash pattern) → (IsTrue yes ↔ IsSpelled (without_slash pattern) (folder ++ name))
      → (IsTrue yes ↔ Excludes folder name pattern)
  excludes_path slash is = ((λ t. by_path slash (is.0 t)), (λ excludes. is.1 (placed slash excludes)))
