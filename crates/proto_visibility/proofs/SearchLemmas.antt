-- The marks of a search over files.
use Rattle.std.proofs.Common.{◌≡◌, inl, inr, ℕ, ◌<◌, ◌≤◌, Bool, true, false, ◌||◌, List, [], ◌∷◌, ◌++◌, length, get_or}
use Rattle.std.proofs.Common.{set, eqb, refl, ap, sym, ◌∙◌, subst, arith, All}
use Rattle.std.specs.List.{IsDistinct, list_any}
use Rattle.std.proofs.lemmas.Cmp.{nat_eq_equiv}
use Rattle.std.proofs.lemmas.Bool.{false≢true, cases_eq, eqb-true, eq-eqb, ne_eqb, false_from_ne_true}
use Rattle.std.proofs.lemmas.List.{length-set, length_push, get_or-set_same, get_or-set_other}
use Rattle.std.proofs.lemmas.List.Folds.{list_any-append}
use Rattle.std.proofs.lemmas.List.Elements.{All-nil, All-push, All-contains, All-weaker}
use Rattle.std.proofs.lemmas.Map.Keys.{IsDistinct-push}
use Rattle.std.proofs.lemmas.Map.Views.{Contains-from_any}
use Rattle.std.proofs.lemmas.Map.Steps.{length-le_from_distinct_below}
use Rattle.proto_visibility.specs.Tables.Visits.{AreMarked, IsNewAt}

distinct_none : IsDistinct eqb []
unfolding IsDistinct
distinct_none = tt

-- no file is marked
pub marked_none : (marks : List Bool) → ((number : ℕ) → number < length marks → get_or marks number false ≡ true → ⊥)
    → AreMarked marks []
marked_none marks clear = record {
  marked = λ number h. false_from_ne_true (get_or marks number false) (clear number h);
  distinct = distinct_none;
  below = All-nil (λ number. number < length marks);
}

pub marked_at_first : (marks : List Bool) → All (λ mark. mark ≡ false) marks → AreMarked marks []
marked_at_first marks clear = marked_none marks (λ number h t. false≢true (sym (clear number false h) ∙ t))

mark_stays : (marks : List Bool) (found : List ℕ) (number : ℕ) → AreMarked marks found → number < length marks
    → (other : ℕ) → other < length marks
    → get_or (set marks number true) other false ≡ list_any (eqb other) (found ++ number ∷ [])
mark_stays marks found number m h other k = elim (cases_eq other number) [
  | inl same ↦ (
      let there : get_or (set marks number true) other false ≡ true =
      subst (λ n. get_or (set marks number true) n false ≡ true) (sym same)
      (get_or-set_same marks number true false h) in
      let equal : eqb other number ≡ true = eq-eqb other number same in
      there ∙ sym (list_any-append (eqb other) found (number ∷ [])
      ∙ simp equal (last_true (list_any (eqb other) found))))
  | inr apart ↦ (
      let there = get_or-set_other marks number other true false apart in
      let differ : eqb other number ≡ false = ne_eqb other number apart in
      there ∙ (m.marked other k
      ∙ sym (list_any-append (eqb other) found (number ∷ [])
      ∙ simp differ (last_false (list_any (eqb other) found)))))
]
  where
    last_true : (b : Bool) → (b || (true || false)) ≡ true
    last_true true = refl
    last_true false = refl

    last_false : (b : Bool) → (b || (false || false)) ≡ b
    last_false true = refl
    last_false false = refl

-- one more file is found
pub marked_more : (marks : List Bool) (found : List ℕ) (number : ℕ) → AreMarked marks found → number < length marks
    → get_or marks number false ≡ false
    → AreMarked (set marks number true) (found ++ number ∷ [])
marked_more marks found number m h unmarked =
    let same = length-set marks number true in
    record {
      marked = λ other k. mark_stays marks found number m h other (omega arith);
      distinct = IsDistinct-push nat_eq_equiv found number m.distinct (sym (m.marked number h) ∙ unmarked);
      below = All-weaker (λ n. n < length marks) (λ n. n < length (set marks number true)) (λ n k. omega arith)
          (found ++ number ∷ []) (All-push (λ n. n < length marks) found number m.below h);
    }

-- as many files are found as there are, at most
pub few_found : (marks : List Bool) (found : List ℕ) → AreMarked marks found → length found ≤ length marks
few_found marks found m =
    length-le_from_distinct_below found (length marks) m.distinct
    (λ q e. All-contains (λ n. n < length marks) found q m.below (Contains-from_any eqb-true q found e))

-- a file that isn't marked is new
pub new_at : (marks : List Bool) (found numbers : List ℕ) (index : ℕ) → AreMarked marks found → index < length numbers
    → All (λ n. n < length marks) numbers → get_or marks (get_or numbers index 0) false ≡ false
    → IsNewAt (record { files = length marks; numbers = found }) numbers index
new_at marks found numbers index m within inside unmarked =
    let number = get_or numbers index 0 in
    let h : number < length marks = inside index 0 within in
    let few = few_found (set marks number true) (found ++ number ∷ []) (marked_more marks found number m h unmarked) in
    let size = length-set marks number true in
    let more = length_push found number in
    record {
      within = within;
      new = sym (m.marked number h) ∙ unmarked;
      fewer = omega (arith, few, size, more);
    }

-- a mark stands only where the file is among these, which are still to be cleared
abbrev pub StandsFor : List Bool → List ℕ → Type 0
StandsFor marks left = (number : ℕ) → number < length marks → get_or marks number false ≡ true
    → list_any (eqb number) left ≡ true

pub cleared : (marks : List Bool) (found left : List ℕ) → found ≡ left ++ [] → StandsFor marks found → left ≡ []
    → AreMarked marks left
cleared marks found left parted stands none =
    subst (AreMarked marks) (sym none)
    (marked_none marks (λ number k t. false≢true
    (sym (ap (list_any (eqb number)) (parted ∙ ap (λ xs. xs ++ []) none)) ∙ stands number k t)))
