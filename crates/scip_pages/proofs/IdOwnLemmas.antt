-- Ids of pages are of one line or one definition each.
use Rattle.std.proofs.Common.{◌≡◌, ap, ℕ, ◌++◌, drop, arith}
use Rattle.std.specs.Prelude.{codes}
use Rattle.std.specs.Fmt.{decimal}
use Rattle.std.proofs.lemmas.Fmt.{decimal_injective}
use Rattle.scip_pages.specs.Targets.{uses_id}
use Rattle.scip_pages.specs.PageLaws.{HaveTheirOwnIds}

pub have_their_own_ids : HaveTheirOwnIds
have_their_own_ids a b small_a small_b = (
  (λ (e : codes "L" ++ decimal a ≡ codes "L" ++ decimal b). decimal_injective a b small_a small_b (ap (drop 1) e)),
  (λ (e : uses_id a ≡ uses_id b). decimal_injective a b small_a small_b (ap (drop 1) e)),
  (λ (e : codes "L" ++ decimal a ≡ uses_id b). let same : ◌≡◌ {A = ℕ} 76 85 = cc in omega (arith, same)),
)
