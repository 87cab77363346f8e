-- Texts in one, one behind the other.
use Rattle.std.proofs.Common.{◌≡◌, ◌∙◌, ap, sym, refl, subst, ℕ, zero, suc, ◌-◌, ◌<◌, ◌≤◌, Some, None, List, []}
use Rattle.std.proofs.Common.{◌∷◌, ◌++◌, length, take, drop, get_or, slice_range, arith, inl, inr, ◌⊎◌}
use Rattle.std.proofs.lemmas.List.{length-append, take-append-le, drop-append-le, drop_at, take_all, get_or_append_left}
use Rattle.std.proofs.lemmas.List.{length-drop}
use Rattle.std.proofs.lemmas.Option.{slice_get_cases, none-some}
use Rattle.std.proofs.Math.Nat.{eq-or-lt_of_le}
use Rattle.std.proofs.lemmas.Str.{IsCharBoundary-at_seam, IsCharBoundary-end}
use Rattle.std.specs.Str.{IsCharBoundary, IsUtf8}
use Rattle.std.specs.List.{slice_get}
use Rattle.scip_model.specs.Tables.OwnTexts.{parts_from, start_of, AreEnds}

pub parts_count : (text : List ℕ) (start : ℕ) (ends : List ℕ) → length (parts_from text start ends) ≡ length ends
parts_count text start [] = refl
parts_count text start (end ∷ ends) = omega (arith, parts_count text end ends)

-- where a part begins that isn't the first
start_behind : (start : ℕ) (ends : List ℕ) (index : ℕ) → index < length ends
    → start_of start ends (suc index) ≡ get_or ends index 0
start_behind start [] index within = absurd (omega (arith, within))
start_behind start (end ∷ ends) zero within = refl
start_behind start (end ∷ ends) (suc index) within = start_behind end ends index (omega (arith, within))

pub start_is : (ends : List ℕ) (index : ℕ) → (index ≡ 0 → ⊥) → index ≤ length ends
    → get_or ends (index - 1) 0 ≡ start_of 0 ends index
start_is ends zero some within = absurd (some refl)
start_is ends (suc index) some within =
    let before : suc index - 1 ≡ index = omega arith in
    ap (λ (k : ℕ). get_or ends k 0) before ∙ sym (start_behind 0 ends index (omega (arith, within)))

-- the part with an index
pub part_is : (text : List ℕ) (start : ℕ) (ends : List ℕ) (index : ℕ) → index < length ends
    → slice_get (parts_from text start ends) index
    ≡ Some (slice_range text (start_of start ends index) (get_or ends index 0))
part_is text start [] index within = absurd (omega (arith, within))
part_is text start (end ∷ ends) zero within = refl
part_is text start (end ∷ ends) (suc index) within = part_is text end ends index (omega (arith, within))

-- where it begins and ends, the text may be cut
pub cuts_there : (text : List ℕ) (start : ℕ) (ends : List ℕ) (index : ℕ) → AreEnds text start ends
    → index < length ends
    → (start_of start ends index ≤ get_or ends index 0) × IsCharBoundary text (get_or ends index 0)
cuts_there text start [] index are within = absurd (omega (arith, within))
cuts_there text start (end ∷ ends) zero are within = (are.0, are.1)
cuts_there text start (end ∷ ends) (suc index) are within =
    cuts_there text end ends index are.2 (omega (arith, within))

pub begins_there : (text : List ℕ) (ends : List ℕ) (index : ℕ) → AreEnds text 0 ends
    → index < length ends → 0 < start_of 0 ends index → IsCharBoundary text (start_of 0 ends index)
begins_there text ends zero are within some = absurd (omega (arith, some))
begins_there text ends (suc index) are within some =
    subst (λ (n : ℕ). IsCharBoundary text n) (sym (start_behind 0 ends index (omega (arith, within))))
    (cuts_there text 0 ends index are (omega (arith, within))).1

-- more behind the text
boundary_more : (text more : List ℕ) (end : ℕ) → IsUtf8 more → IsCharBoundary text end
    → IsCharBoundary (text ++ more) end
boundary_more text more end spelled is = by_place (eq-or-lt_of_le {n = end} {m = length text} is.0)
  where
    by_place : (end ≡ length text) ⊎ (end < length text) → IsCharBoundary (text ++ more) end
    by_place (inl e) = subst (λ (n : ℕ). IsCharBoundary (text ++ more) n) (sym e)
        (IsCharBoundary-at_seam (text ++ more) text more refl spelled)
    by_place (inr l) =
        let same : get_or (text ++ more) end 0 ≡ get_or text end 0 = get_or_append_left text more 0 end l in (
          omega (arith, is.0, length-append text more),
          λ within high. subst (λ (b : ℕ). 192 ≤ b) (sym same) (is.1 l (subst (λ (b : ℕ). 128 ≤ b) same high)),
        )

-- a part that is inside the text stays
range_same : (text more : List ℕ) (start end : ℕ) → start ≤ end → end ≤ length text
    → slice_range (text ++ more) start end ≡ slice_range text start end
range_same text more start end order within =
    ap (λ (xs : List ℕ). take (end - start) xs) (drop-append-le start text more (omega (arith, order, within)))
    ∙ take-append-le (end - start) (drop start text) more (omega (arith, order, within, length-drop start text))

range_last : (text more : List ℕ) (start : ℕ) → start ≡ length text
    → slice_range (text ++ more) start (length (text ++ more)) ≡ more
range_last text more start e =
    ap (λ (xs : List ℕ). take (length (text ++ more) - start) xs) (drop_at text more start (sym e))
    ∙ take_all (length (text ++ more) - start) more (omega (arith, e, length-append text more))

-- one part more
pub parts_more : (text more : List ℕ) (start : ℕ) (ends : List ℕ) → AreEnds text start ends
    → parts_from (text ++ more) start (ends ++ length (text ++ more) ∷ []) ≡ parts_from text start ends ++ more ∷ []
parts_more text more start [] are = ap (λ (part : List ℕ). part ∷ []) (range_last text more start are)
parts_more text more start (end ∷ ends) are =
    ap (λ (part : List ℕ). part ∷ parts_from (text ++ more) end (ends ++ length (text ++ more) ∷ []))
    (range_same text more start end are.0 are.1.0)
    ∙ ap (λ (parts : List (List ℕ)). slice_range text start end ∷ parts) (parts_more text more end ends are.2)

pub ends_more : (text more : List ℕ) (start : ℕ) (ends : List ℕ) → IsUtf8 more → AreEnds text start ends
    → AreEnds (text ++ more) start (ends ++ length (text ++ more) ∷ [])
ends_more text more start [] spelled are = (
  omega (arith, are, length-append text more),
  IsCharBoundary-end (text ++ more),
  refl,
)
ends_more text more start (end ∷ ends) spelled are = (
  are.0,
  boundary_more text more end spelled are.1,
  ends_more text more end ends spelled are.2,
)

-- a list that has nothing there ends before
pub none_past : {X : Type 0} (xs : List X) (number : ℕ) → slice_get xs number ≡ None → length xs ≤ number
none_past xs number none = elim (slice_get_cases xs number).1 [
  | inl there ↦ absurd (none-some there.0 (sym none ∙ there.2))
  | inr past ↦ past.0
]
