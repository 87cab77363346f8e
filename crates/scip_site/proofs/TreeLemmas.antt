-- The tree of folders.
use Rattle.std.proofs.Common.{◌≡◌, ◌∙◌, sym, refl, ap, ℕ, zero, suc, ◌+◌, ◌-◌, Bool, true, false, cond, List, [], ◌∷◌}
use Rattle.std.proofs.Common.{◌++◌, map, length, take, drop, arith, append_assoc}
use Rattle.std.specs.Prelude.{codes, Option, None, Some}
use Rattle.std.specs.Borrow.{Bor}
use Rattle.std.specs.List.{flat_map, range_with_len, slice_get}
use Rattle.std.specs.Str.{bytes_eq}
use Rattle.std.proofs.lemmas.Grind.{flat_map-append}
use Rattle.std.proofs.lemmas.List.{take-map, length-map, drop_all}
use Rattle.std.proofs.lemmas.Slice.Eq.{bytes_eq-Decides}
use Rattle.std.proofs.Math.Numerals.{add-one}
use Rattle.scip_site.specs.Tree.{common, same_or_not, same_at, closes, opens, but_last, leaf_with, step_with}
use Rattle.scip_pages.proofs.CodeTextLemmas.{range_more}
use Rattle.scip_pages.proofs.SnapshotLemmas.{up}

-- ---- names that are the same

none_common : (open_ : List (List ℕ)) → common open_ [] ≡ 0
none_common [] = refl
none_common (a ∷ open_) = refl

never_same : (name : Option (List ℕ)) (at : ℕ) → same_or_not name [] at ≡ false
never_same None at = refl
never_same (Some name) at = refl

behind_one : (name : Option (List ℕ)) (b : List ℕ) (names : List (List ℕ)) (at : ℕ)
    → same_or_not name names at ≡ same_or_not name (b ∷ names) (suc at)
behind_one None b names at = refl
behind_one (Some name) b names at = refl

pub one_same : (open_ names : List (List ℕ)) (at : ℕ) → same_at open_ names at ≡ true
    → common (drop at open_) (drop at names) ≡ common (drop (at + 1) open_) (drop (at + 1) names) + 1
one_same [] names at e = absurd cc
one_same (a ∷ open_) [] at e =
    let clash : false ≡ true = sym (never_same (slice_get (a ∷ open_) at) at) ∙ e in absurd cc
one_same (a ∷ open_) (b ∷ names) zero e = rw e refl
one_same (a ∷ open_) (b ∷ names) (suc at) e =
    rw (up at) (one_same open_ names at (behind_one (slice_get open_ at) b names at ∙ e))

pub none_same : (open_ names : List (List ℕ)) (at : ℕ) → same_at open_ names at ≡ false
    → common (drop at open_) (drop at names) ≡ 0
none_same [] names zero e = refl
none_same [] names (suc at) e = refl
none_same (a ∷ open_) [] zero e = refl
none_same (a ∷ open_) [] (suc at) e = none_common (drop at open_)
none_same (a ∷ open_) (b ∷ names) zero e = rw e refl
none_same (a ∷ open_) (b ∷ names) (suc at) e =
    none_same open_ names at (behind_one (slice_get open_ at) b names at ∙ e)

-- so many are the same, and what is behind them
abbrev pub SameUpTo : (open_ names : List (List ℕ)) → ℕ → Type 0
SameUpTo open_ names at = common open_ names ≡ at + common (drop at open_) (drop at names)

pub from_none : (open_ names : List (List ℕ)) → SameUpTo open_ names 0
from_none open_ names = omega arith

pub same_more : (open_ names : List (List ℕ)) (at : ℕ) → SameUpTo open_ names at → same_at open_ names at ≡ true
    → SameUpTo open_ names (at + 1)
same_more open_ names at so_far e = omega (arith, so_far, one_same open_ names at e)

pub same_no_more : (open_ names : List (List ℕ)) (at : ℕ) → SameUpTo open_ names at → same_at open_ names at ≡ false
    → at ≡ common open_ names
same_no_more open_ names at so_far e = omega (arith, so_far, none_same open_ names at e)

pub all_same : (open_ names : List (List ℕ)) (at : ℕ) → SameUpTo open_ names at → at ≡ length open_
    → at ≡ common open_ names
all_same open_ names at so_far end =
    let none : drop at open_ ≡ [] = drop_all at open_ (omega (arith, end)) in
    let left : common (drop at open_) (drop at names) ≡ 0 = ap (λ l. common l (drop at names)) none in
    omega (arith, so_far, left)

-- ---- folders

pub but_last_named : (names : List (Bor (List ℕ)))
    → map (λ (n : Bor (List ℕ)). n.now) (take (length names - 1) names)
    ≡ but_last (map (λ (n : Bor (List ℕ)). n.now) names)
but_last_named names =
    sym (take-map (λ (n : Bor (List ℕ)). n.now) (length names - 1) names)
    ∙ ap (λ (k : ℕ). take (k - 1) (map (λ (n : Bor (List ℕ)). n.now) names))
    (sym (length-map names (λ (n : Bor (List ℕ)). n.now)))

-- the end of one folder more
pub closes_more : (count : ℕ) → closes (count + 1) ≡ closes count ++ codes "</ul></details></li>\n"
closes_more count =
    ap (flat_map (λ (n : ℕ). codes "</ul></details></li>\n")) (range_more 0 count count (omega arith))
    ∙ flat_map-append (λ (n : ℕ). codes "</ul></details></li>\n") (range_with_len 0 count) (count ∷ [])

-- what is between one document and the next
pub between : (page closed opened : List ℕ) (open_ folders names : List (List ℕ)) (path : List ℕ) (kept count : ℕ)
    → folders ≡ but_last names → kept ≡ common open_ folders → count ≡ length open_ - kept
    → closed ≡ page ++ closes count → opened ≡ closed ++ opens kept [] folders
    → opened ++ leaf_with path names ≡ page ++ step_with open_ path names
between page closed opened open_ folders names path kept count f k c e1 e2 =
    let same : kept ≡ common open_ (but_last names) = k ∙ ap (common open_) f in
    let least : ℕ = common open_ (but_last names) in
    let parts : closes count ++ opens kept [] folders
    ≡ closes (length open_ - least) ++ opens least [] (but_last names) =
    ap (λ (n : ℕ). closes n ++ opens kept [] folders) (c ∙ ap (λ (n : ℕ). length open_ - n) same)
    ∙ ap (λ (n : ℕ). closes (length open_ - least) ++ opens n [] folders) same
    ∙ ap (λ (fs : List (List ℕ)). closes (length open_ - least) ++ opens least [] fs) f in
    ap (λ (l : List ℕ). l ++ leaf_with path names)
    (e2 ∙ ap (λ (l : List ℕ). l ++ opens kept [] folders) e1
    ∙ append_assoc page (closes count) (opens kept [] folders) ∙ ap (λ (l : List ℕ). page ++ l) parts)
    ∙ append_assoc page (closes (length open_ - least) ++ opens least [] (but_last names)) (leaf_with path names)

-- ---- folders that two ways have

pub same_front : (open_ names : List (List ℕ)) → take (common open_ names) names ≡ take (common open_ names) open_
same_front [] [] = refl
same_front [] (b ∷ names) = refl
same_front (a ∷ open_) [] = refl
same_front (a ∷ open_) (b ∷ names) = by (bytes_eq a b) refl (same_front open_ names)
  where
    by : (c : Bool) → bytes_eq a b ≡ c → take (common open_ names) names ≡ take (common open_ names) open_
        → take (cond c (common open_ names + 1) 0) (b ∷ names) ≡ take (cond c (common open_ names + 1) 0) (a ∷ open_)
    by true e others =
        rw (add-one (common open_ names))
        (ap (λ (n : List ℕ). n ∷ take (common open_ names) names) (sym ((bytes_eq-Decides a b).0 e))
        ∙ ap (λ (ns : List (List ℕ)). a ∷ ns) others)
    by false e others = refl
