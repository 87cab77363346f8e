-- What stands before an offset on its line is text of its own.
use Rattle.std.proofs.Common.{◌≡◌, ◌∙◌, sym, ap, refl, subst, ℕ, zero, suc, ◌+◌, ◌≤◌, List, [], ◌∷◌, ◌++◌, length}
use Rattle.std.proofs.Common.{get_or, take, drop, Bool, true, false, ◌⊎◌, inl, inr, arith, length-append, append_assoc}
use Rattle.std.specs.Prelude.{IsUtf8, IsCharBoundary}
use Rattle.std.specs.List.{after_last}
use Rattle.std.proofs.lemmas.List.{take_more, take_all, drop_at, append-nil, get_or_at}
use Rattle.std.proofs.lemmas.Str.{IsUtf8-take, IsUtf8-drop, IsCharBoundary-after_ascii}
use Rattle.std.proofs.lemmas.Bool.{eqb-true}
use Rattle.proto_lex.specs.Position.{is_line_end}
use Rattle.proto_lex.proofs.PositionLemmas.{after_last_push}

-- a text is what ends with its last line end, if it has one, and then what stands after
record Parts (text : List ℕ) : Type 0 where
  front : List ℕ
  whole : text ≡ front ++ after_last is_line_end text
  ends : (front ≡ []) ⊎ ((lines : List ℕ) × (front ≡ lines ++ 10 ∷ []))

one_more : (text : List ℕ) (byte : ℕ) (is_end : Bool) → is_line_end byte ≡ is_end → Parts text
    → Parts (text ++ byte ∷ [])
one_more text byte true e parts = record {
  front = text ++ byte ∷ [];
  whole = rw (after_last_push is_line_end text byte, e) (sym (append-nil (text ++ byte ∷ [])));
  ends = inr (text, ap (λ (b : ℕ). text ++ b ∷ []) (eqb-true byte 10 e));
}
one_more text byte false e parts = record {
  front = parts.front;
  whole = rw (after_last_push is_line_end text byte, e)
      (ap (λ (t : List ℕ). t ++ byte ∷ []) parts.whole
      ∙ append_assoc parts.front (after_last is_line_end text) (byte ∷ []));
  ends = parts.ends;
}

parts_so_far : (text : List ℕ) (n : ℕ) → n ≤ length text → Parts (take n text)
parts_so_far text zero inside = record { front = []; whole = refl; ends = inl refl }
parts_so_far text (suc n) inside =
    let k : n + 1 ≡ suc n = omega arith in
    subst (λ (t : List ℕ). Parts t) (sym (take_more text n 0 (omega arith)) ∙ ap (λ (k : ℕ). take k text) k)
    (one_more (take n text) (get_or text n 0) (is_line_end (get_or text n 0)) refl (parts_so_far text n (omega arith)))

parts_of : (text : List ℕ) → Parts text
parts_of text = subst (λ (t : List ℕ). Parts t) (take_all (length text) text (omega arith))
    (parts_so_far text (length text) (omega arith))

after_end : (text lines rest : List ℕ) → text ≡ (lines ++ 10 ∷ []) ++ rest → IsUtf8 text → IsUtf8 rest
after_end text lines rest e utf8 =
    let regroup : text ≡ lines ++ 10 ∷ rest = e ∙ append_assoc lines (10 ∷ []) rest in
    let at_end : get_or text (length lines) 0 ≡ 10 = rw regroup (get_or_at lines 10 rest 0 (length lines) refl) in
    let count : length text ≡ length lines + (1 + length rest) =
    ap length regroup ∙ length-append lines (10 ∷ rest) ∙ omega arith in
    let here : drop (length lines + 1) text ≡ rest =
    rw e (drop_at (lines ++ 10 ∷ []) rest (length lines + 1) (length-append lines (10 ∷ []))) in
    subst (λ (t : List ℕ). IsUtf8 t) here
    (IsUtf8-drop text (length lines + 1) utf8
    (IsCharBoundary-after_ascii text (length lines) utf8 (omega arith) (omega arith)))

by_parts : (text : List ℕ) (parts : Parts text)
    → (parts.front ≡ []) ⊎ ((lines : List ℕ) × (parts.front ≡ lines ++ 10 ∷ [])) → IsUtf8 text
    → IsUtf8 (after_last is_line_end text)
by_parts text parts (inl none) utf8 =
    subst (λ (t : List ℕ). IsUtf8 t) (parts.whole ∙ ap (λ (f : List ℕ). f ++ after_last is_line_end text) none) utf8
by_parts text parts (inr some) utf8 =
    after_end text some.0 (after_last is_line_end text)
    (parts.whole ∙ ap (λ (f : List ℕ). f ++ after_last is_line_end text) some.1) utf8

pub IsUtf8-line_before : (text : List ℕ) (offset : ℕ) → IsUtf8 text → IsCharBoundary text offset
    → IsUtf8 (after_last is_line_end (take offset text))
IsUtf8-line_before text offset utf8 between =
    let parts : Parts (take offset text) = parts_of (take offset text) in
    by_parts (take offset text) parts parts.ends (IsUtf8-take text offset utf8 between)
