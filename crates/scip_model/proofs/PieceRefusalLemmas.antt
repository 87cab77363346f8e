-- Pieces are refused for one reason.
use Rattle.std.proofs.Common.{◌≡◌, ◌∙◌, inl, inr, ℕ, ◌<◌, List, length, sym, ap, refl, subst}
use Rattle.std.specs.List.{Contains}
use Rattle.std.proofs.lemmas.Bool.{cases_order}
use Rattle.std.proofs.lemmas.Option.{same_Some, slice_get_within}
use Rattle.scip_records.specs.declared.records.Document.{Document}
use Rattle.scip_model.specs.Pieces.{IsStranger, IsTwice, AreFine, OneMergeRefusal}
use Rattle.scip_model.specs.declared.pieces.MergeFault.TheVariants.{Stranger, Twice, Missing, Memory}

-- of two numbers neither of which is below the other
neither : (i j : ℕ) → (i < j → ⊥) → (j < i → ⊥) → i ≡ j
neither i j less more = elim (cases_order i j) [
  | inl same ↦ same
  | inr other ↦ elim other [ inl below ↦ absurd (less below) | inr above ↦ absurd (more above) ]
]

module _ (paths : List (List ℕ)) (pieces : List Document) where
  -- a piece that has the path of an earlier one isn't the first stranger
  not-both : (piece : ℕ) → AreFine paths pieces piece → IsStranger paths pieces piece → IsTwice pieces piece → ⊥
  not-both piece fine strange twice =
      let one : twice.document ≡ strange.document =
      same_Some twice.document strange.document (sym twice.numbered ∙ strange.numbered) in
      let path : twice.other.relative_path ≡ strange.document.relative_path =
      twice.same ∙ ap (λ (d : Document). d.relative_path) one in
      (fine twice.earlier twice.before).0
      (record {
        document = twice.other;
        numbered = twice.stands;
        strange = λ there. strange.strange (subst (Contains paths) path there);
      })

  apart : (p q : ℕ) → AreFine paths pieces p → IsStranger paths pieces p → AreFine paths pieces q → IsTwice pieces q → ⊥
  apart p q fine strange its twice =
      let same : p ≡ q = neither p q (λ less. (its p less).0 strange) (λ more. (fine q more).1 twice) in
      not-both q its (subst (IsStranger paths pieces) same strange) twice

  within-stranger : (p : ℕ) → IsStranger paths pieces p → p < length pieces
  within-stranger p strange = slice_get_within pieces p strange.document strange.numbered

  within-twice : (p : ℕ) → IsTwice pieces p → p < length pieces
  within-twice p twice = slice_get_within pieces p twice.document twice.numbered

pub one-refusal : OneMergeRefusal
one-refusal paths pieces (Stranger p) (Stranger q) a b some others =
    ap Stranger (neither p q (λ less. (b.0 p less).0 a.1) (λ more. (a.0 q more).0 b.1))
one-refusal paths pieces (Stranger p) (Twice q) a b some others = absurd (apart paths pieces p q a.0 a.1 b.0 b.1)
one-refusal paths pieces (Stranger p) (Missing q) a b some others =
    absurd ((b.0 p (within-stranger paths pieces p a.1)).0 a.1)
one-refusal paths pieces (Stranger p) Memory a b some others = absurd (others refl)
one-refusal paths pieces (Twice p) (Stranger q) a b some others = absurd (apart paths pieces q p b.0 b.1 a.0 a.1)
one-refusal paths pieces (Twice p) (Twice q) a b some others =
    ap Twice (neither p q (λ less. (b.0 p less).1 a.1) (λ more. (a.0 q more).1 b.1))
one-refusal paths pieces (Twice p) (Missing q) a b some others =
    absurd ((b.0 p (within-twice paths pieces p a.1)).1 a.1)
one-refusal paths pieces (Twice p) Memory a b some others = absurd (others refl)
one-refusal paths pieces (Missing p) (Stranger q) a b some others =
    absurd ((a.0 q (within-stranger paths pieces q b.1)).0 b.1)
one-refusal paths pieces (Missing p) (Twice q) a b some others =
    absurd ((a.0 q (within-twice paths pieces q b.1)).1 b.1)
one-refusal paths pieces (Missing p) (Missing q) a b some others =
    ap Missing (neither p q (λ less. b.1.least p less a.1.missing) (λ more. a.1.least q more b.1.missing))
one-refusal paths pieces (Missing p) Memory a b some others = absurd (others refl)
one-refusal paths pieces Memory other a b some others = absurd (some refl)
