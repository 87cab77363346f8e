-- What is said of the folder with the well-known files, and whether it is one of those that are read.
use Rattle.std.proofs.Common.{◌≡◌, ◌||◌, ℕ, Bool, true, false, List, [], ◌∷◌, ap, map, refl, sym}
use Rattle.std.specs.Prelude.{cond}
use Rattle.std.specs.List.{list_any}
use Rattle.programs.specs.WellKnown.{found_lines}

-- the lines, by one that is made
pub lines_of : (explain : Bool) (folder line : List ℕ) → found_lines true folder ≡ line ∷ []
    → cond explain (line ∷ []) [] ≡ found_lines explain folder
lines_of true folder line is = sym is
lines_of false folder line is = refl

-- one of what is made of items passes, if one of the items does
pub any_made : {A B : Type 0} (passes : B → Bool) (make : A → B) (items : List A)
    → list_any (λ item. passes (make item)) items ≡ list_any passes (map make items)
any_made passes make [] = refl
any_made passes make (item ∷ items) = ap (λ (b : Bool). passes (make item) || b) (any_made passes make items)
