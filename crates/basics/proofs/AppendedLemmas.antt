-- Texts that are appended one behind another.
use Rattle.std.proofs.Common.{◌≡◌, ◌∙◌, ap, ℕ, List, ◌++◌, append_assoc}

-- behind a page with a text there is another one
pub more : (page x y : List ℕ) {new newer : List ℕ} → new ≡ page ++ x → newer ≡ new ++ y → newer ≡ page ++ (x ++ y)
more page x y so_far one = one ∙ ap (λ (l : List ℕ). l ++ y) so_far ∙ append_assoc page x y

-- which is the one that is due
pub more_by : (page x y : List ℕ) {new newer z : List ℕ} → new ≡ page ++ x → newer ≡ new ++ z → z ≡ y
    → newer ≡ page ++ (x ++ y)
more_by page x y {new = new} so_far one same = more page x y so_far (one ∙ ap (λ (l : List ℕ). new ++ l) same)
