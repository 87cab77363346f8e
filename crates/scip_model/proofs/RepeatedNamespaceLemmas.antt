-- No two files have one namespace, and none is an identifier.
use Rattle.std.proofs.Common.{◌≡◌, ◌≢◌, ◌∙◌, ℕ, ◌-◌, Bool, true, false, cond, eqb, List, [], ◌∷◌, ◌++◌, codes, length, take}
use Rattle.std.proofs.Common.{refl, sym, ap, subst}
use Rattle.std.specs.List.{ends_with}
use Rattle.std.proofs.lemmas.List.{append_cancel_right}
use Rattle.std.proofs.lemmas.List.Elements.{All-contains, Contains-append_right}
use Rattle.std.proofs.lemmas.Slice.Eq.{ends_is}
use Rattle.std.proofs.lemmas.Bool.{eqb-false}
use Rattle.std.proofs.lemmas.Bool.Decides.{Decides-eqb}
use Rattle.basics.proofs.BoolLemmas.{never}
use Rattle.basics.proofs.ListLemmas.{in_front}
use Rattle.scip_symbol.specs.Entities.{IsIdentifier}
use Rattle.scip_model.specs.Repeated.{file_namespace}
use Rattle.scip_model.proofs.ListingNameableLemmas.{spelled_no_dots}

abbrev ending : List ℕ
ending = codes ".proto"

ended : (path : List ℕ) → ends_with eqb path (codes ".proto") ≡ true
    → path ≡ take (length path - length ending) path ++ codes ".proto"
ended path t = (ends_is Decides-eqb path (codes ".proto") (ends_with eqb path (codes ".proto")) refl).0 t

-- the last byte
last-of : List ℕ → ℕ
last-of [] = 0
last-of (b ∷ []) = b
last-of (b ∷ (c ∷ rest)) = last-of (c ∷ rest)

last-behind : (front : List ℕ) (b : ℕ) (rest : List ℕ) → last-of (front ++ (b ∷ rest)) ≡ last-of (b ∷ rest)
unfolding last-of
last-behind [] b rest = refl
last-behind (x ∷ []) b rest = refl
last-behind (x ∷ (y ∷ front)) b rest = last-behind (y ∷ front) b rest

-- a path with the ending is none that something else was put behind
mixed : (front other : List ℕ) → front ++ codes ".proto" ≡ other ++ codes "./" → ⊥
unfolding last-of
mixed front other e =
    let ends : ◌≡◌ {A = ℕ} 111 47 =
    sym (last-behind front 46 (codes "proto")) ∙ (ap last-of e ∙ last-behind other 46 (codes "/")) in
    eqb-false 111 47 refl ends

pub one-namespace : (a b : List ℕ) → file_namespace a ≡ file_namespace b → a ≡ b
one-namespace a b same = by (ends_with eqb a (codes ".proto")) (ends_with eqb b (codes ".proto")) refl refl same
  where
    by : (t u : Bool) → ends_with eqb a (codes ".proto") ≡ t → ends_with eqb b (codes ".proto") ≡ u
        → cond t a (a ++ codes "./") ≡ cond u b (b ++ codes "./") → a ≡ b
    by true true p q e = e
    by false false p q e = append_cancel_right a b (codes "./") e
    by true false p q e = absurd (mixed (take (length a - length ending) a) b (sym (ended a p) ∙ e))
    by false true p q e = absurd (mixed (take (length b - length ending) b) a (sym (ended b q) ∙ sym e))

pub namespace-ended : (path : List ℕ) → ends_with eqb path (codes ".proto") ≡ true → path ≡ file_namespace path
namespace-ended path t = ap (λ (b : Bool). cond b path (path ++ codes "./")) (sym t)

pub namespace-other : (path : List ℕ) → ends_with eqb path (codes ".proto") ≡ false
    → path ++ codes "./" ≡ file_namespace path
namespace-other path t = ap (λ (b : Bool). cond b path (path ++ codes "./")) (sym t)

-- it has a dot
pub record HasDot (name : List ℕ) : Type 0 where
  pub front : List ℕ
  pub rest : List ℕ
  pub is : name ≡ front ++ (46 ∷ rest)

pub namespace-dot : (path : List ℕ) → HasDot (file_namespace path)
namespace-dot path = by (ends_with eqb path (codes ".proto")) refl
  where
    by : (t : Bool) → ends_with eqb path (codes ".proto") ≡ t → HasDot (cond t path (path ++ codes "./"))
    by true p = record { front = take (length path - length ending) path; rest = codes "proto"; is = ended path p }
    by false p = record { front = path; rest = codes "/"; is = refl }

some-of : (front rest : List ℕ) → front ++ (46 ∷ rest) ≢ []
some-of [] rest = λ e. cc
some-of (b ∷ front) rest = λ e. cc

pub namespace-some : (path : List ℕ) → file_namespace path ≢ []
namespace-some path = let dot = namespace-dot path in λ e. some-of dot.front dot.rest (sym dot.is ∙ e)

pub namespace-no-identifier : (path : List ℕ) → IsIdentifier (file_namespace path) → ⊥
namespace-no-identifier path is =
    let dot = namespace-dot path in
    let none = spelled_no_dots (subst IsIdentifier dot.is is) refl in
    never (sym (All-contains (λ (byte : ℕ). eqb byte 46 ≡ false) (dot.front ++ (46 ∷ dot.rest)) 46 none
    (Contains-append_right dot.front (46 ∷ dot.rest) 46 (in_front 46 dot.rest))))
