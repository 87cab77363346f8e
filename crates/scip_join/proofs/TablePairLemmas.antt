-- The first two neighbours with one path, of pieces in the order of paths: the first two with the least path that more
-- than one has.
use Rattle.std.proofs.Common.{◌≡◌, inl, inr, ℕ, ◌≤◌, true, false, Option, None, Some, List, [], ◌∷◌, length}
use Rattle.std.proofs.Common.{refl, sym, ◌∙◌, ap, subst, arith}
use Rattle.std.specs.declared.cmp.Ordering.TheVariants.{Less}
use Rattle.std.specs.Ordering.{nat_cmp, is_lt}
use Rattle.std.specs.Cmp.Lexicographic.{slice_cmp}
use Rattle.std.specs.List.{filter}
use Rattle.std.proofs.lemmas.Bool.{cases_Bool, cond-true, cond-false, false≢true}
use Rattle.std.proofs.lemmas.Option.{same_Some}
use Rattle.basics.proofs.ElementLemmas.{In, from_filter}
use Rattle.basics.proofs.StrictOrderLemmas.{Ascends}
use Rattle.scip_join.specs.declared.piece.Piece.{Piece}
use Rattle.scip_join.specs.Tables.{first_pair, has_same_path}
use Rattle.scip_join.proofs.TableLemmas.{lt, has, passing, failing, apart, no_less, turned, equal_bytes, bytes_equal}

abbrev path_of : Piece → List ℕ
path_of p = p.path

abbrev pub with_path : List ℕ → List Piece → List Piece
with_path path pieces = filter (has path_of path) pieces

abbrev pub Rise : List Piece → Type 0
Rise pieces = Ascends (lt path_of) pieces

-- where no piece has a path
none_with : (path : List ℕ) (xs : List Piece) → ((x : Piece) → In x xs → has path_of path x ≡ false)
    → with_path path xs ≡ []
none_with path [] none = refl
none_with path (x ∷ xs) none =
    failing path_of path x xs (none x (inl refl)) ∙ none_with path xs (λ y is. none y (inr is))

-- neighbours that differ
differ : (a b : Piece) (others : List Piece) (o : Option (Piece × Piece)) → has_same_path a b ≡ false
    → first_pair (a ∷ b ∷ others) ≡ o → first_pair (b ∷ others) ≡ o
differ a b others o e is = sym (cond-false (has_same_path a b) (Some (a, b)) (first_pair (b ∷ others)) e) ∙ is

-- behind a piece whose neighbour differs, none has its path
none_behind : (a b : Piece) (others : List Piece) → Rise (a ∷ b ∷ others) → has_same_path a b ≡ false
    → with_path a.path (b ∷ others) ≡ []
none_behind a b others up e =
    none_with a.path (b ∷ others) (λ x is. apart path_of a b others up (turned path_of a.path b.path e) x is)

one_alone : (a : Piece) (path : List ℕ) (xs : List Piece) → with_path path xs ≡ []
    → length (with_path path (a ∷ xs)) ≤ 1
one_alone a path xs none = elim (cases_Bool (has path_of path a)) [
  | inl holds ↦ (let is : with_path path (a ∷ xs) ≡ a ∷ [] =
      passing path_of path a xs holds ∙ ap (λ l. a ∷ l) none in
      omega (arith, ap length is))
  | inr fails ↦ (let is : with_path path (a ∷ xs) ≡ [] = failing path_of path a xs fails ∙ none in
      omega (arith, ap length is))
]

-- a piece in front of a list, the neighbour of which differs
once_more : (a b : Piece) (others : List Piece) → Rise (a ∷ b ∷ others) → has_same_path a b ≡ false → (path : List ℕ)
    → length (with_path path (b ∷ others)) ≤ 1 → length (with_path path (a ∷ b ∷ others)) ≤ 1
once_more a b others up e path le = elim (cases_Bool (has path_of path a)) [
  | inl holds ↦ one_alone a path (b ∷ others)
      (subst (λ p. with_path p (b ∷ others) ≡ []) (equal_bytes a.path path holds) (none_behind a b others up e))
  | inr fails ↦ (let is : with_path path (a ∷ b ∷ others) ≡ with_path path (b ∷ others) =
      failing path_of path a (b ∷ others) fails in
      omega (arith, ap length is, le))
]

pub own_paths : (xs : List Piece) → Rise xs → first_pair xs ≡ None → (path : List ℕ)
    → length (with_path path xs) ≤ 1
own_paths [] up none path = omega arith
own_paths (a ∷ []) up none path = one_alone a path [] refl
own_paths (a ∷ b ∷ others) up none path = elim (cases_Bool (has_same_path a b)) [
  | inl holds ↦ (let pair : Some (a, b) ≡ None =
      sym (cond-true (has_same_path a b) (Some (a, b)) (first_pair (b ∷ others)) holds) ∙ none in
      absurd cc)
  | inr fails ↦ once_more a b others up fails path
      (own_paths (b ∷ others) up.1 (differ a b others None fails none) path)
]

-- the first two with a path, and each lesser path once at most
pub record IsLeastPair (xs : List Piece) (later earlier : Piece) : Type 0 where
  pub rest : List Piece
  pub first_two : with_path later.path xs ≡ later ∷ earlier ∷ rest
  pub least : (path : List ℕ) → slice_cmp nat_cmp path later.path ≡ Less → length (with_path path xs) ≤ 1

-- the first piece has the path, and so no lesser path is there
not_lesser : (a : Piece) (xs : List Piece) → Rise (a ∷ xs) → (path : List ℕ) → slice_cmp nat_cmp path a.path ≡ Less
    → with_path path (a ∷ xs) ≡ []
not_lesser a xs up path less = none_with path (a ∷ xs) fails
  where
    fails : (x : Piece) → In x (a ∷ xs) → has path_of path x ≡ false
    fails x is = elim (cases_Bool (has path_of path x)) [
      | inr absent ↦ absent
      | inl holds ↦ (let below : is_lt (slice_cmp nat_cmp x.path a.path) ≡ false = no_less path_of a xs up x is in
          let same : is_lt (slice_cmp nat_cmp path a.path) ≡ false =
          subst (λ p. is_lt (slice_cmp nat_cmp p a.path) ≡ false) (equal_bytes x.path path holds) below in
          absurd (false≢true (sym same ∙ ap is_lt less)))
    ]

found_here : (a b : Piece) (others : List Piece) → Rise (a ∷ b ∷ others) → has_same_path a b ≡ true
    → IsLeastPair (a ∷ b ∷ others) a b
found_here a b others up e = record {
  rest = with_path a.path others;
  first_two =
      passing path_of a.path a (b ∷ others) (bytes_equal a.path a.path refl)
      ∙ ap (λ l. a ∷ l) (passing path_of a.path b others
      (bytes_equal b.path a.path (sym (equal_bytes a.path b.path e))));
  least = λ path less.
      omega (arith, ap length (not_lesser a (b ∷ others) up path less));
}

pub least_pair : (xs : List Piece) → Rise xs → (later earlier : Piece) → first_pair xs ≡ Some (later, earlier)
    → IsLeastPair xs later earlier
least_pair [] up later earlier e = absurd cc
least_pair (a ∷ []) up later earlier e = absurd cc
least_pair (a ∷ b ∷ others) up later earlier e = elim (cases_Bool (has_same_path a b)) [
  | inl holds ↦ (let pair : (a, b) ≡ (later, earlier) = same_Some (a, b) (later, earlier)
      (sym (cond-true (has_same_path a b) (Some (a, b)) (first_pair (b ∷ others)) holds) ∙ e) in
      subst (λ (p : Piece × Piece). IsLeastPair (a ∷ b ∷ others) p.0 p.1) pair (found_here a b others up holds))
  | inr fails ↦ behind fails (least_pair (b ∷ others) up.1 later earlier
      (differ a b others (Some (later, earlier)) fails e))
]
  where
    behind : has_same_path a b ≡ false → IsLeastPair (b ∷ others) later earlier
        → IsLeastPair (a ∷ b ∷ others) later earlier
    behind fails pair =
        let is_in : In later (b ∷ others) = (from_filter (has path_of later.path) later (b ∷ others)
        (subst (λ l. In later l) (sym pair.first_two) (inl refl))).0 in
        let other : has path_of later.path a ≡ false =
        turned path_of later.path a.path
        (apart path_of a b others up (turned path_of a.path b.path fails) later is_in) in record {
          rest = pair.rest;
          first_two = failing path_of later.path a (b ∷ others) other ∙ pair.first_two;
          least = λ path less. once_more a b others up fails path (pair.least path less);
        }
