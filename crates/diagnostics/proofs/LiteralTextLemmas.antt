-- Gaps and literals, one after another.
use Rattle.std.proofs.Common.{◌≡◌, ◌∙◌, ap, refl, sym, ℕ, zero, suc, ◌-◌, ◌<◌, true, false, nat_eq, bytes_eq}
use Rattle.std.proofs.Common.{List, [], ◌∷◌, length, take, drop, ◌++◌, append_assoc, arith}
use Rattle.std.proofs.Math.Seq.{drop-append_seam, take-append_seam}
use Rattle.std.proofs.lemmas.Bool.{cond-false}
use Rattle.std.proofs.lemmas.Bool.Decides.{Decides-eqb}
use Rattle.std.proofs.lemmas.List.{take-append-drop}
use Rattle.std.proofs.lemmas.Slice.Eq.{bytes_eq-Decides}
use Rattle.basics.proofs.TestLemmas.{same_tests}
use Rattle.diagnostics.specs.Gaps.{behind_pieces, piece_len}
use Rattle.diagnostics.specs.Literals.{texts_of}

-- ---- gaps

not_zero : (n : ℕ) → 0 < n → nat_eq n 0 ≡ false
not_zero n some =
    same_tests (nat_eq n 0) false (λ none. absurd (omega (arith, some, (Decides-eqb n 0).0 none))) (λ no. cc)

-- one piece less is to come
pub gap_more : (left len : ℕ) (rest next all : List ℕ) → 0 < left → len ≡ piece_len rest → 0 < len
    → next ≡ drop len rest → behind_pieces left rest ≡ all → behind_pieces (left - 1) next ≡ all
gap_more zero len rest next all more is some behind h = absurd (omega (arith, more))
gap_more (suc n) len rest next all more is some behind h =
    let one_less : suc n - 1 ≡ n = omega arith in
    let some_bytes : nat_eq (piece_len rest) 0 ≡ false = not_zero (piece_len rest) (omega (arith, is, some)) in
    ap (λ k. behind_pieces k next) one_less
    ∙ ap (behind_pieces n) (behind ∙ ap (λ k. drop k rest) is)
    ∙ sym (cond-false (nat_eq (piece_len rest) 0) rest (behind_pieces n (drop (piece_len rest) rest)) some_bytes)
    ∙ h

-- ---- literals

-- one text less is to come
pub text_more : (left : ℕ) (rest text behind : List ℕ) → 0 < left
    → ((count : ℕ) → texts_of (suc count) rest ≡ text ++ texts_of count behind)
    → texts_of left rest ≡ text ++ texts_of (left - 1) behind
text_more zero rest text behind more is = absurd (omega (arith, more))
text_more (suc n) rest text behind more is =
    let one_less : suc n - 1 ≡ n = omega arith in
    is n ∙ ap (λ k. text ++ texts_of k behind) (sym one_less)

-- none is to come
pub text_none : (left : ℕ) (rest : List ℕ) → 0 < left → ((count : ℕ) → texts_of (suc count) rest ≡ [])
    → texts_of left rest ≡ []
text_none zero rest more is = absurd (omega (arith, more))
text_none (suc n) rest more is = is n

pub pushed : (now next text later here due : List ℕ) → next ≡ now ++ text → here ≡ text ++ later
    → now ++ here ≡ due → next ++ later ≡ due
pushed now next text later here due is parts h =
    ap (λ l. l ++ later) is ∙ append_assoc now text later ∙ ap (λ l. now ++ l) (sym parts) ∙ h

-- ---- a text that is to be spelled

pub spelled_more : (text later due others : List ℕ) → bytes_eq (take (length text) due) text ≡ true
    → others ≡ drop (length text) due → bytes_eq later others ≡ bytes_eq (text ++ later) due
spelled_more text later due others starts is =
    let front : take (length text) due ≡ text = (bytes_eq-Decides (take (length text) due) text).0 starts in
    let whole : due ≡ text ++ others =
    sym (take-append-drop (length text) due) ∙ ap (λ l. l ++ drop (length text) due) front
    ∙ ap (λ l. text ++ l) (sym is) in
    same_tests (bytes_eq later others) (bytes_eq (text ++ later) due)
    (λ same. (bytes_eq-Decides (text ++ later) due).1
    (ap (λ l. text ++ l) ((bytes_eq-Decides later others).0 same) ∙ sym whole))
    (λ same. let e : text ++ later ≡ due = (bytes_eq-Decides (text ++ later) due).0 same in
    (bytes_eq-Decides later others).1
    (sym (drop-append_seam text later) ∙ ap (drop (length text)) e ∙ sym is))

pub spelled_not : (text later due : List ℕ) → bytes_eq (take (length text) due) text ≡ false
    → bytes_eq (text ++ later) due ≡ false
spelled_not text later due starts =
    same_tests (bytes_eq (text ++ later) due) false
    (λ same. let e : text ++ later ≡ due = (bytes_eq-Decides (text ++ later) due).0 same in
    sym starts ∙ (bytes_eq-Decides (take (length text) due) text).1
    (ap (take (length text)) (sym e) ∙ take-append_seam text later))
    (λ no. cc)

pub spelled_end : (due : List ℕ) → bytes_eq [] due ≡ nat_eq (length due) 0
spelled_end [] = refl
spelled_end (byte ∷ bytes) = sym (not_zero (length (byte ∷ bytes)) (omega arith))
