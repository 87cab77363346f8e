-- Texts that are cut, by their first bytes.
use Rattle.std.proofs.Common.{◌≡◌, ◌∙◌, refl, sym, ap, ℕ, zero, suc, ◌+◌, ◌-◌, ◌<◌, ◌≤◌, ◌⊎◌}
use Rattle.std.proofs.Common.{inl, inr, List, [], ◌∷◌, ◌++◌}
use Rattle.std.proofs.Common.{length, take, drop, cond, Bool, true, false, arith, get_or, append_assoc, drop-cons, ◌==◌}
use Rattle.std.specs.Prelude.{nat_le}
use Rattle.std.specs.List.{flat_map}
use Rattle.std.proofs.lemmas.List.{append-nil, take_all, take_more, take-append-drop, take-append-le}
use Rattle.std.proofs.lemmas.List.{length-take-le, drop-take}
use Rattle.std.proofs.lemmas.List.{take-take}
use Rattle.std.proofs.lemmas.Grind.{flat_map-append}
use Rattle.std.proofs.Math.ListN.{drop_of_length-le}
use Rattle.std.proofs.lemmas.Bool.{eqb-true}
use Rattle.scip_records.specs.Texts.{unless_empty}
use Rattle.scip_pages.specs.Targets.{below}
use Rattle.std.proofs.Math.Seq.{take-append-add}
use Rattle.std.proofs.lemmas.Bool.{cases_lt}
use Rattle.std.proofs.lemmas.Bool.Decides.{nat_tests}
use Rattle.scip_pages.specs.Columns.{is_first_byte, is_uncut}
use Rattle.scip_pages.specs.Hover.{ellipsis, max_hover, uncut_end, shortened}

-- ---- the first bytes of a text, and of one behind it

pub taken_more : (n : ℕ) (front bytes : List ℕ)
    → take n front ++ take (n - length (take n front)) bytes ≡ take n (front ++ bytes)
taken_more n front bytes = by (cases_lt (length front) n)
  where
    by : (length front < n) ⊎ (n ≤ length front)
        → take n front ++ take (n - length (take n front)) bytes ≡ take n (front ++ bytes)
    by (inl shorter) =
        let whole : take n front ≡ front = take_all n front (omega (arith, shorter)) in
        let sum : length front + (n - length front) ≡ n = omega (arith, shorter) in
        ap (λ (xs : List ℕ). xs ++ take (n - length xs) bytes) whole
        ∙ (sym (take-append-add front bytes (n - length front)) ∙ ap (λ (k : ℕ). take k (front ++ bytes)) sum)
    by (inr full) =
        let none : n - length (take n front) ≡ 0 = omega (arith, length-take-le n front full) in
        ap (λ (k : ℕ). take n front ++ take k bytes) none
        ∙ (append-nil (take n front) ∙ sym (take-append-le n front bytes full))

-- where there are enough already, more changes nothing
pub taken_enough : (n : ℕ) (front bytes : List ℕ) → n ≤ length (take n front)
    → take n front ≡ take n (front ++ bytes)
taken_enough n front bytes enough = by (cases_lt (length front) n)
  where
    by : (length front < n) ⊎ (n ≤ length front) → take n front ≡ take n (front ++ bytes)
    by (inl shorter) =
        let whole : take n front ≡ front = take_all n front (omega (arith, shorter)) in
        absurd (omega (arith, enough, shorter, ap length whole))
    by (inr full) = sym (take-append-le n front bytes full)

-- ---- where a text is cut

pub end_at_start : (text : List ℕ) → uncut_end text 0 ≡ 0
unfolding uncut_end
end_at_start text = refl

pub end_here : (text : List ℕ) (most : ℕ) → 0 < most → is_uncut (drop most text) ≡ true → uncut_end text most ≡ most
unfolding uncut_end
end_here text zero some uncut = refl
end_here text (suc most) some uncut = rw uncut refl

pub end_before : (text : List ℕ) (most : ℕ) → 0 < most → is_uncut (drop most text) ≡ false
    → uncut_end text most ≡ uncut_end text (most - 1)
unfolding uncut_end
end_before text zero some cut = refl
end_before text (suc most) some cut =
    let one_less : suc most - 1 ≡ most = omega arith in
    rw (cut, one_less) refl

first_alike : (m : ℕ) (bytes : List ℕ) → is_uncut (take (suc m) bytes) ≡ is_uncut bytes
first_alike m [] = refl
first_alike m (byte ∷ bytes) = refl

cut_alike : (n at : ℕ) (text : List ℕ) → at < n → is_uncut (drop at (take n text)) ≡ is_uncut (drop at text)
cut_alike n at text within =
    let more : ℕ = n - (at + 1) in
    let parts : n ≡ at + suc more = omega (arith, within) in
    ap (λ (m : ℕ). is_uncut (drop at (take m text))) parts
    ∙ (ap is_uncut (drop-take at (suc more) text) ∙ first_alike more (drop at text))

end_alike : (n most : ℕ) (text : List ℕ) → most < n → uncut_end (take n text) most ≡ uncut_end text most
unfolding uncut_end
end_alike n zero text within = refl
end_alike n (suc most) text within =
    rw (cut_alike n (suc most) text within, end_alike n most text (omega (arith, within))) refl

end_within : (text : List ℕ) (most : ℕ) → uncut_end text most ≤ most
unfolding uncut_end
end_within text zero = omega arith
end_within text (suc most) = by (is_uncut (drop (suc most) text)) (end_within text most)
  where
    by : (b : Bool) → uncut_end text most ≤ most → cond b (suc most) (uncut_end text most) ≤ suc most
    by true below = omega arith
    by false below = omega (arith, below)

-- a text that isn't long stays whole
pub whole_front : (whole : List ℕ) → length (take (max_hover + 1) whole) ≤ max_hover
    → take (max_hover + 1) whole ≡ shortened whole
whole_front whole few = by (cases_lt max_hover (length whole))
  where
    by : (max_hover < length whole) ⊎ (length whole ≤ max_hover) → take (max_hover + 1) whole ≡ shortened whole
    by (inl long) = absurd (omega (arith, few, long, length-take-le (max_hover + 1) whole (omega (arith, long))))
    by (inr short) =
        let fits : nat_le (length whole) max_hover ≡ true = grind (arith, nat_tests, short) in
        take_all (max_hover + 1) whole (omega (arith, short))
        ∙ sym (ap (λ b. cond b whole (take (uncut_end whole max_hover) whole ++ ellipsis)) fits)

-- and a longer one is cut
pub cut_front : (whole : List ℕ) → max_hover < length (take (max_hover + 1) whole)
    → take (uncut_end (take (max_hover + 1) whole) max_hover) (take (max_hover + 1) whole) ++ ellipsis
    ≡ shortened whole
cut_front whole many = by (cases_lt max_hover (length whole))
  where
    by : (max_hover < length whole) ⊎ (length whole ≤ max_hover)
        → take (uncut_end (take (max_hover + 1) whole) max_hover) (take (max_hover + 1) whole) ++ ellipsis
        ≡ shortened whole
    by (inl long) =
        let past : nat_le (length whole) max_hover ≡ false = grind (arith, nat_tests, long) in
        let alike : uncut_end (take (max_hover + 1) whole) max_hover ≡ uncut_end whole max_hover =
        end_alike (max_hover + 1) max_hover whole (omega arith) in
        ap (λ (end : ℕ). take end (take (max_hover + 1) whole) ++ ellipsis) alike
        ∙ (ap (λ (xs : List ℕ). xs ++ ellipsis) (take-take (uncut_end whole max_hover) (max_hover + 1) whole
        (omega (arith, end_within whole max_hover)))
        ∙ sym (ap (λ b. cond b whole (take (uncut_end whole max_hover) whole ++ ellipsis)) past))
    by (inr short) =
        absurd (omega (arith, many, short, ap length (take_all (max_hover + 1) whole (omega (arith, short)))))

-- ---- an offset that cuts no character

pub uncut_there : (text : List ℕ) (offset byte : ℕ) → offset < length text → byte ≡ get_or text offset byte
    → is_first_byte byte ≡ is_uncut (drop offset text)
uncut_there text offset byte within is =
    ap is_first_byte is ∙ sym (ap is_uncut (drop-cons text offset byte within))

pub uncut_past : (text : List ℕ) (offset : ℕ) → length text ≤ offset → true ≡ is_uncut (drop offset text)
uncut_past text offset past = sym (ap is_uncut (drop_of_length-le text past))

-- ---- texts below a text

pub empty_below : (front signature : List ℕ) → (length signature == 0) ≡ true
    → front ++ flat_map below (unless_empty signature) ≡ front
empty_below front [] none = append-nil front
empty_below front (byte ∷ bytes) none = absurd (omega (arith, eqb-true (length (byte ∷ bytes)) 0 none))

pub some_below : (front signature : List ℕ) → (length signature == 0) ≡ false
    → front ++ flat_map below (unless_empty signature) ≡ front ++ below signature
some_below front [] some = absurd cc
some_below front (byte ∷ bytes) some = ap (λ (more : List ℕ). front ++ more) (append-nil (below (byte ∷ bytes)))

pub below_more : (front : List ℕ) (texts : List (List ℕ)) (at : ℕ) (text : List ℕ) → at < length texts
    → text ≡ get_or texts at text
    → (front ++ flat_map below (take at texts)) ++ below text ≡ front ++ flat_map below (take (at + 1) texts)
below_more front texts at text within is =
    append_assoc front (flat_map below (take at texts)) (below text)
    ∙ ap (λ (more : List ℕ). front ++ more)
    (sym (ap (flat_map below) (take_more texts at text within
    ∙ ap (λ (one : List ℕ). take at texts ++ one ∷ []) (sym is))
    ∙ (flat_map-append below (take at texts) (text ∷ [])
    ∙ ap (λ (more : List ℕ). flat_map below (take at texts) ++ more) (append-nil (below text)))))

pub below_rest : (front : List ℕ) (texts : List (List ℕ)) (at : ℕ)
    → (front ++ flat_map below (take at texts)) ++ flat_map below (drop at texts) ≡ front ++ flat_map below texts
below_rest front texts at =
    append_assoc front (flat_map below (take at texts)) (flat_map below (drop at texts))
    ∙ ap (λ (more : List ℕ). front ++ more)
    (sym (flat_map-append below (take at texts) (drop at texts)) ∙ ap (flat_map below) (take-append-drop at texts))
