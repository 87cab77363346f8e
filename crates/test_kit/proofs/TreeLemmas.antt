-- The marks in front of the paths of trees that are texts.
use Rattle.std.proofs.Common.{◌≡◌, ◌≢◌, ℕ, ◌==◌, List, [], ◌∷◌, Option, None, Some, Bor, true, false, refl, sym, ap, subst}
use Rattle.std.proofs.Common.{cond, ⊎_elim, MatchOption}
use Rattle.std.proofs.lemmas.Bool.Decides.{eqb_tells}
use Rattle.test_kit.specs.Trees.{is_marked, without_mark}

-- a line begins with a mark, or it doesn't
pub marked : (mark : ℕ) (line : List ℕ) (r : Option (Bor (List ℕ)))
    → MatchOption r ((rest : List ℕ) → line ≢ mark ∷ rest) (λ rest. line ≡ mark ∷ rest.now)
    → MatchOption r (is_marked mark line ≡ false) (λ rest. (is_marked mark line ≡ true)
    × (rest.now ≡ without_mark mark line))
marked mark [] None h = refl
marked mark (byte ∷ line) None h =
    ⊎_elim (λ e. absurd (h line (ap (λ b. b ∷ line) e.1))) (λ e. e.0) (eqb_tells byte mark)
marked mark line (Some rest) h =
    let same : (mark == mark) ≡ true = ⊎_elim (λ e. e.0) (λ e. absurd (e.1 refl)) (eqb_tells mark mark) in
    subst (λ l. (is_marked mark l ≡ true) × (rest.now ≡ without_mark mark l)) (sym h)
    (same, sym (ap (λ b. cond b rest.now (mark ∷ rest.now)) same))
