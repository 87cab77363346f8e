-- What is shown of a text up to its first NUL, and behind it.
use Rattle.std.proofs.Common.{◌≡◌, ◌∙◌, refl, ap, sym, subst, ℕ, suc, ◌+◌, ◌<◌, ◌≤◌, inl, inr, Bool, true, false}
use Rattle.std.proofs.Common.{List, [], ◌∷◌, ◌++◌, length, take, drop, get_or, arith, append_assoc, append-nil, take_all}
use Rattle.std.proofs.Common.{IsUtf8, IsCharBoundary}
use Rattle.std.specs.Prelude.{nat_eq, not, cond, if◌then◌else◌}
use Rattle.std.specs.Char.{encode_utf8}
use Rattle.std.specs.List.{prefix_len}
use Rattle.std.proofs.lemmas.Bool.{cases_lt}
use Rattle.std.proofs.lemmas.Bool.Decides.{nat_tests}
use Rattle.std.proofs.lemmas.List.Sums.{prefix_len-le-length}
use Rattle.std.proofs.lemmas.Str.{IsCharBoundary-end, IsCharBoundary-before_ascii, IsCharBoundary-after_ascii}
use Rattle.comment_texts.specs.Nul.{replacement, is_plain, without_nul}

-- ---- of a text by its first byte

one_add : (n : ℕ) → 1 + n ≡ suc n
one_add n = omega arith

len_nul : (b : ℕ) (text : List ℕ) → nat_eq b 0 ≡ true → prefix_len is_plain (b ∷ text) ≡ 0
len_nul b text e = subst (λ t. cond (not t) (1 + prefix_len is_plain text) 0 ≡ 0) (sym e) refl

len_plain : (b : ℕ) (text : List ℕ) → nat_eq b 0 ≡ false
    → prefix_len is_plain (b ∷ text) ≡ suc (prefix_len is_plain text)
len_plain b text e =
    subst (λ t. cond (not t) (1 + prefix_len is_plain text) 0 ≡ suc (prefix_len is_plain text)) (sym e)
    (one_add (prefix_len is_plain text))

shown_nul : (b : ℕ) (text : List ℕ) → nat_eq b 0 ≡ true
    → without_nul (b ∷ text) ≡ encode_utf8 replacement ++ without_nul text
shown_nul b text e =
    subst (λ t. (if t then encode_utf8 replacement else b ∷ []) ++ without_nul text
    ≡ encode_utf8 replacement ++ without_nul text) (sym e) refl

shown_plain : (b : ℕ) (text : List ℕ) → nat_eq b 0 ≡ false → without_nul (b ∷ text) ≡ b ∷ without_nul text
shown_plain b text e =
    subst (λ t. (if t then encode_utf8 replacement else b ∷ []) ++ without_nul text ≡ b ∷ without_nul text) (sym e) refl

-- ---- up to the first NUL

-- a text without one is shown as it is
pub none_shown : (text : List ℕ) → prefix_len is_plain text ≡ length text → without_nul text ≡ text
none_shown [] e = refl
none_shown (b ∷ text) e = by (none_shown text) (nat_eq b 0) refl
  where
    by : (prefix_len is_plain text ≡ length text → without_nul text ≡ text)
        → (t : Bool) → nat_eq b 0 ≡ t → without_nul (b ∷ text) ≡ b ∷ text
    by rest true is = absurd (omega (arith, e, len_nul b text is))
    by rest false is = shown_plain b text is ∙ ap (λ l. b ∷ l) (rest (omega (arith, e, len_plain b text is)))

-- of any other what is before it, U+FFFD, and what is shown of what is behind it
first_shown : (text : List ℕ) → prefix_len is_plain text < length text
    → without_nul text
    ≡ take (prefix_len is_plain text) text
    ++ (encode_utf8 replacement ++ without_nul (drop (prefix_len is_plain text + 1) text))
first_shown [] less = absurd (omega arith)
first_shown (b ∷ text) less = by (first_shown text) (nat_eq b 0) refl
  where
    Goes : ℕ → Type 0
    Goes n = without_nul (b ∷ text)
        ≡ take n (b ∷ text) ++ (encode_utf8 replacement ++ without_nul (drop (n + 1) (b ∷ text)))

    one_on : (m : ℕ) → suc (m + 1) ≡ suc m + 1
    one_on m = omega arith

    later : (m : ℕ) → without_nul text ≡ take m text ++ (encode_utf8 replacement ++ without_nul (drop (m + 1) text))
        → b ∷ without_nul text
        ≡ take (suc m) (b ∷ text) ++ (encode_utf8 replacement ++ without_nul (drop (suc m + 1) (b ∷ text)))
    later m is =
        ap (λ l. b ∷ l) is
        ∙ ap (λ k. take (suc m) (b ∷ text) ++ (encode_utf8 replacement ++ without_nul (drop k (b ∷ text)))) (one_on m)

    by : (prefix_len is_plain text < length text → without_nul text ≡ take (prefix_len is_plain text) text
        ++ (encode_utf8 replacement ++ without_nul (drop (prefix_len is_plain text + 1) text)))
        → (t : Bool) → nat_eq b 0 ≡ t → Goes (prefix_len is_plain (b ∷ text))
    by rest true is = subst Goes (sym (len_nul b text is)) (shown_nul b text is)
    by rest false is =
        subst Goes (sym (len_plain b text is))
        (shown_plain b text is
        ∙ later (prefix_len is_plain text) (rest (omega (arith, less, len_plain b text is))))

-- ---- where a text may be cut

nul_is : (b : ℕ) → nat_eq b 0 ≡ true → b < 128
nul_is b e = grind (arith, nat_tests)

nul_at : (text : List ℕ) → prefix_len is_plain text < length text → get_or text (prefix_len is_plain text) 0 < 128
nul_at [] less = absurd (omega arith)
nul_at (b ∷ text) less = by (nul_at text) (nat_eq b 0) refl
  where
    by : (prefix_len is_plain text < length text → get_or text (prefix_len is_plain text) 0 < 128)
        → (t : Bool) → nat_eq b 0 ≡ t → get_or (b ∷ text) (prefix_len is_plain (b ∷ text)) 0 < 128
    by rest true is = subst (λ n. get_or (b ∷ text) n 0 < 128) (sym (len_nul b text is)) (nul_is b is)
    by rest false is = subst (λ n. get_or (b ∷ text) n 0 < 128) (sym (len_plain b text is))
        (rest (omega (arith, less, len_plain b text is)))

-- before the first NUL, or at the end
pub cut_before : (text : List ℕ) (n : ℕ) → n ≡ prefix_len is_plain text → IsUtf8 text → IsCharBoundary text n
cut_before text n is utf8 = elim (cases_lt n (length text)) [
  | inl less ↦ IsCharBoundary-before_ascii text n less
      (subst (λ k. get_or text k 0 < 128) (sym is) (nul_at text (omega (arith, is, less))))
  | inr more ↦ subst (IsCharBoundary text) (whole more) (IsCharBoundary-end text)
]
  where
    whole : length text ≤ n → length text ≡ n
    whole more = omega (arith, is, more, prefix_len-le-length is_plain text)

-- behind it
pub cut_behind : (text : List ℕ) (n : ℕ) → n ≡ prefix_len is_plain text → n < length text → IsUtf8 text
    → IsCharBoundary text (n + 1)
cut_behind text n is less utf8 =
    IsCharBoundary-after_ascii text n utf8 less
    (subst (λ k. get_or text k 0 < 128) (sym is) (nul_at text (omega (arith, is, less))))

-- ---- a step

pub shown_whole : (old new text : List ℕ) (n : ℕ) → n ≡ prefix_len is_plain text → n ≡ length text
    → new ≡ old ++ take n text → new ++ without_nul [] ≡ old ++ without_nul text
shown_whole old new text n is all pushed =
    append-nil new ∙ (pushed ∙ ap (λ t. old ++ t)
    (ap (λ k. take k text) all
    ∙ (take_all (length text) text (omega arith) ∙ sym (none_shown text (sym is ∙ all)))))

pub shown_more : (old middle new text left : List ℕ) (n : ℕ) → n ≡ prefix_len is_plain text → n < length text
    → middle ≡ old ++ take n text → new ≡ middle ++ encode_utf8 replacement → left ≡ drop (n + 1) text
    → new ++ without_nul left ≡ old ++ without_nul text
shown_more old middle new text left n is less first second rest =
    let replaced = encode_utf8 replacement in
    let behind = without_nul (drop (n + 1) text) in
    let Shows : ℕ → Type 0 = λ k. without_nul text
    ≡ take k text ++ (encode_utf8 replacement ++ without_nul (drop (k + 1) text)) in
    let shows = subst Shows (sym is) (first_shown text (omega (arith, is, less))) in
    ap (λ t. t ++ without_nul left) (second ∙ ap (λ t. t ++ replaced) first)
    ∙ (ap (λ t. ((old ++ take n text) ++ replaced) ++ without_nul t) rest
    ∙ (append_assoc (old ++ take n text) replaced behind
    ∙ (append_assoc old (take n text) (replaced ++ behind) ∙ ap (λ t. old ++ t) (sym shows))))
