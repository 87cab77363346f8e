-- The scope around one.
use Rattle.std.proofs.Common.{◌≡◌, ◌∙◌, sym, ap, refl, subst, ℕ, zero, suc, ◌-◌, ◌<◌, ◌≤◌, ◌==◌, ◌≢◌, false}
use Rattle.std.proofs.Common.{not, List, [], ◌∷◌, ◌++◌, length, get_or, take, drop, slice_range, arith}
use Rattle.std.proofs.Common.{Option, Some, None, IsCharBoundary}
use Rattle.std.specs.List.{list_all}
use Rattle.std.specs.Prelude.{MatchOption}
use Rattle.std.specs.Str.Pattern.{RFindsChar}
use Rattle.std.proofs.lemmas.Bool.Decides.{nat_tests}
use Rattle.std.proofs.lemmas.Str.Pattern.{rfind_char}
use Rattle.proto_parse.proofs.RefusedLemmas.{heads, tails}
use Rattle.proto_decl.specs.Names.{qualified, HasNoDot, IsAround}
use Rattle.proto_decl.specs.Names.IsAround.{before_dot, root}
use Rattle.basics.proofs.BoolLemmas.{never, first_no}

pub around-qualified : (scope name : List ℕ) → 0 < length name → HasNoDot name → IsAround (qualified scope name) scope
around-qualified [] [] some e = absurd (omega (arith, some))
around-qualified [] (byte ∷ name) some e = root e
around-qualified (byte ∷ scope) name some e = before_dot {outer = byte ∷ scope} name e

-- ---- one is around

no_dot_inside : (outer name : List ℕ) → HasNoDot (outer ++ 46 ∷ name) → ⊥
no_dot_inside [] name e = never e
no_dot_inside (byte ∷ outer) name e =
    no_dot_inside outer name (first_no (byte == 46) (list_all (λ b. not (b == 46)) (outer ++ 46 ∷ name)) e).1

same_outer : (a b x y : List ℕ) → HasNoDot x → HasNoDot y → a ++ 46 ∷ x ≡ b ++ 46 ∷ y → a ≡ b
same_outer [] [] x y p q e = refl
same_outer [] (c ∷ b) x y p q e = absurd (no_dot_inside b y (subst (λ (n : List ℕ). HasNoDot n) (tails e) p))
same_outer (c ∷ a) [] x y p q e = absurd (no_dot_inside a x (subst (λ (n : List ℕ). HasNoDot n) (sym (tails e)) q))
same_outer (c ∷ a) (d ∷ b) x y p q e = λ i. heads e i ∷ same_outer a b x y p q (tails e) i

around_same : {scope same outer other : List ℕ} → IsAround scope outer → IsAround same other → scope ≡ same
    → outer ≡ other
around_same (before_dot {outer = a} x p) (before_dot {outer = b} y q) e = same_outer a b x y p q e
around_same (before_dot {outer = a} x p) (root q) e =
    absurd (no_dot_inside a x (subst (λ (n : List ℕ). HasNoDot n) (sym e) q))
around_same (root p) (before_dot {outer = b} y q) e =
    absurd (no_dot_inside b y (subst (λ (n : List ℕ). HasNoDot n) e p))
around_same (root p) (root q) e = refl

pub one_around : {scope outer other : List ℕ} → IsAround scope outer → IsAround scope other → outer ≡ other
one_around is also = around_same is also refl

around_some : {scope outer : List ℕ} → IsAround scope outer → scope ≢ []
around_some (before_dot {outer = []} name p) e = cc
around_some (before_dot {outer = byte ∷ outer} name p) e = cc
around_some (root p) e = cc

pub none_around_root : {outer : List ℕ} → IsAround [] outer → ⊥
none_around_root is = around_some is refl

-- ---- by the place of a name's last dot

not_dot : (byte : ℕ) → byte ≢ 46 → (byte == 46) ≡ false
not_dot byte f = grind (arith, nat_tests)

no_dots : (name : List ℕ) → ((i : ℕ) → i < length name → get_or name i 0 ≢ 46) → HasNoDot name
no_dots [] none = refl
no_dots (byte ∷ name) none =
    rw (not_dot byte (none 0 (omega arith)), no_dots name (λ i h. none (suc i) (omega (arith, h)))) refl

split_at_dot : (name : List ℕ) (k : ℕ) → k < length name → get_or name k 0 ≡ 46
    → name ≡ take k name ++ 46 ∷ drop (suc k) name
split_at_dot [] k within dot = absurd (omega (arith, within))
split_at_dot (byte ∷ name) zero within dot = ap (λ b. b ∷ name) dot
split_at_dot (byte ∷ name) (suc k) within dot =
    ap (λ (l : List ℕ). byte ∷ l) (split_at_dot name k (omega (arith, within)) dot)

no_dots_behind : (name : List ℕ) (k : ℕ) → ((i : ℕ) → k < i → i < length name → get_or name i 0 ≢ 46)
    → HasNoDot (drop (suc k) name)
no_dots_behind [] k none = refl
no_dots_behind (byte ∷ name) zero none = no_dots name (λ i h. none (suc i) (omega arith) (omega (arith, h)))
no_dots_behind (byte ∷ name) (suc k) none =
    no_dots_behind name k (λ i lo h. none (suc i) (omega (arith, lo)) (omega (arith, h)))

-- a search from the end finds the last dot
pub found_dot : (name : List ℕ) (r : Option ℕ)
    → MatchOption r (RFindsChar 46 name None)
    (λ i. (j : ℕ) × RFindsChar 46 name (Some (i, j)) × (i ≤ j) × IsCharBoundary name i × IsCharBoundary name j)
    → MatchOption r ((i : ℕ) → i < length name → get_or name i 0 ≢ 46)
    (λ k. (k < length name) × (get_or name k 0 ≡ 46) × ((i : ℕ) → k < i → i < length name → get_or name i 0 ≢ 46))
found_dot name r says = rfind_char 46 name r says (omega arith)

-- what comes before the last dot
pub around_dot : (name outer : List ℕ) (k : ℕ) → outer ≡ slice_range name 0 k
    → (k < length name) × (get_or name k 0 ≡ 46) × ((i : ℕ) → k < i → i < length name → get_or name i 0 ≢ 46)
    → IsAround name outer
around_dot name outer k is found =
    let whole : k - 0 ≡ k = omega arith in
    let prefix : outer ≡ take k name = is ∙ ap (λ n. take n name) whole in
    subst (λ (o : List ℕ). IsAround name o) (sym prefix)
    (subst (λ (n : List ℕ). IsAround n (take k name)) (sym (split_at_dot name k found.0 found.1))
    (before_dot {outer = take k name} (drop (suc k) name) (no_dots_behind name k found.2)))

-- of a name without a dot
pub around_none : (name : List ℕ) → (length name == 0) ≡ false → ((i : ℕ) → i < length name → get_or name i 0 ≢ 46)
    → IsAround name []
around_none [] some none = never (sym some)
around_none (byte ∷ name) some none = root (no_dots (byte ∷ name) none)
