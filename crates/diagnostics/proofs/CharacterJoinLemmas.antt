-- The characters of joined bytes, and of what is shown.
use Rattle.std.proofs.Common.{◌≡◌, ◌∙◌, ap, refl, sym, subst, ℕ, zero, suc, ◌/◌, ◌%◌, ◌≤◌, ◌<◌, Bool, true, false}
use Rattle.std.proofs.Common.{List, [], ◌∷◌, take, drop, ◌++◌, ◌⊎◌, inl, inr, arith, cond, not, ◌&&◌}
use Rattle.std.specs.Char.{digit_char}
use Rattle.std.specs.List.{AllByRecursion, flat_map, onto_first}
use Rattle.std.specs.Str.{is_utf8, chars}
use Rattle.std.specs.List.{list_any}
use Rattle.std.proofs.lemmas.Bool.{lt-ltb, le-ltb, cases_lt}
use Rattle.std.proofs.lemmas.Bool.Decides.{nat_tests}
use Rattle.std.proofs.lemmas.Str.{IsUtf8-from_is_utf8, IsCharBoundary-start, encode_ascii}
use Rattle.proto_lex.specs.Bytes.{starts}
use Rattle.diagnostics.specs.Characters.{characters, goes_on}
use Rattle.diagnostics.specs.Shown.{escaped, is_obeyed, is_plain, shown, shown_text}
use Rattle.diagnostics.proofs.CharacterLemmas.{first_is}

-- ---- joined bytes

onto_joined : (x : ℕ) (front back : List (List ℕ)) (c : List ℕ) (cs : List (List ℕ)) → front ≡ c ∷ cs
    → onto_first x (front ++ back) ≡ onto_first x front ++ back
onto_joined x front back c cs is =
    ap (λ (l : List (List ℕ)). onto_first x (l ++ back)) is
    ∙ sym (ap (λ (l : List (List ℕ)). onto_first x l ++ back) is)

joined_by : (x y : ℕ) (xs ys : List ℕ) (t : Bool) → goes_on y ≡ t
    → characters (y ∷ (xs ++ ys)) ≡ characters (y ∷ xs) ++ characters ys
    → characters (x ∷ y ∷ (xs ++ ys)) ≡ characters (x ∷ y ∷ xs) ++ characters ys
joined_by x y xs ys true is h =
    ap (λ t. cond t (onto_first x (characters (y ∷ (xs ++ ys)))) ((x ∷ []) ∷ characters (y ∷ (xs ++ ys)))) is
    ∙ ap (onto_first x) h
    ∙ onto_joined x (characters (y ∷ xs)) (characters ys) _ _ (first_is y xs)
    ∙ sym (ap (λ t. cond t (onto_first x (characters (y ∷ xs))) ((x ∷ []) ∷ characters (y ∷ xs)) ++ characters ys) is)
joined_by x y xs ys false is h =
    ap (λ t. cond t (onto_first x (characters (y ∷ (xs ++ ys)))) ((x ∷ []) ∷ characters (y ∷ (xs ++ ys)))) is
    ∙ ap (λ (l : List (List ℕ)). (x ∷ []) ∷ l) h
    ∙ sym (ap (λ t. cond t (onto_first x (characters (y ∷ xs))) ((x ∷ []) ∷ characters (y ∷ xs)) ++ characters ys) is)

-- what begins with a character begins one behind others, too
pub joined : (xs ys : List ℕ) → starts goes_on ys ≡ false → characters (xs ++ ys) ≡ characters xs ++ characters ys
joined [] ys begins = refl
joined (x ∷ []) ys begins = ap (λ t. cond t (onto_first x (characters ys)) ((x ∷ []) ∷ characters ys)) begins
joined (x ∷ y ∷ xs) ys begins = joined_by x y xs ys (goes_on y) refl (joined (y ∷ xs) ys begins)

pub starts_joined : (xs ys : List ℕ) → starts goes_on xs ≡ false → starts goes_on ys ≡ false
    → starts goes_on (xs ++ ys) ≡ false
starts_joined [] ys a b = b
starts_joined (x ∷ xs) ys a b = a

-- ---- one character

abbrev pub GoOn : List ℕ → Type 0
GoOn bytes = AllByRecursion (λ b. goes_on b ≡ true) bytes

abbrev pub IsOne : List ℕ → Type 0
IsOne [] = ⊥
IsOne (byte ∷ bytes) = GoOn bytes

pub alone : (b : ℕ) (bs : List ℕ) → GoOn bs → characters (b ∷ bs) ≡ (b ∷ bs) ∷ []
alone b [] h = refl
alone b (c ∷ cs) h =
    ap (λ t. cond t (onto_first b (characters (c ∷ cs))) ((b ∷ []) ∷ characters (c ∷ cs))) h.0
    ∙ ap (onto_first b) (alone c cs h.1)

onto_ones : (b c : ℕ) (f : List ℕ) (others all : List (List ℕ)) → goes_on c ≡ true → all ≡ (c ∷ f) ∷ others
    → AllByRecursion IsOne all → AllByRecursion IsOne (onto_first b all)
onto_ones b c f others all on is =
    subst (λ (l : List (List ℕ)). AllByRecursion IsOne l → AllByRecursion IsOne (onto_first b l)) (sym is)
    (λ h. ((on, h.0), h.1))

ones_by : (b c : ℕ) (cs : List ℕ) (t : Bool) → goes_on c ≡ t → AllByRecursion IsOne (characters (c ∷ cs))
    → AllByRecursion IsOne (characters (b ∷ c ∷ cs))
ones_by b c cs true is h =
    subst (AllByRecursion IsOne)
    (sym (ap (λ t. cond t (onto_first b (characters (c ∷ cs))) ((b ∷ []) ∷ characters (c ∷ cs))) is))
    (onto_ones b c _ _ (characters (c ∷ cs)) is (first_is c cs) h)
ones_by b c cs false is h =
    subst (AllByRecursion IsOne)
    (sym (ap (λ t. cond t (onto_first b (characters (c ∷ cs))) ((b ∷ []) ∷ characters (c ∷ cs))) is))
    (tt, h)

pub ones : (bytes : List ℕ) → AllByRecursion IsOne (characters bytes)
ones [] = tt
ones (b ∷ []) = (tt, tt)
ones (b ∷ c ∷ cs) = ones_by b c cs (goes_on c) refl (ones (c ∷ cs))

pub taken : (n : ℕ) (cs : List (List ℕ)) → AllByRecursion IsOne cs → AllByRecursion IsOne (take n cs)
taken zero cs h = tt
taken (suc n) [] h = tt
taken (suc n) (c ∷ cs) h = (h.0, taken n cs h.1)

pub dropped : (n : ℕ) (cs : List (List ℕ)) → AllByRecursion IsOne cs → AllByRecursion IsOne (drop n cs)
dropped zero cs h = h
dropped (suc n) [] h = tt
dropped (suc n) (c ∷ cs) h = dropped n cs h.1

-- ---- which bytes begin a character

pub low_begins : (b : ℕ) → b < 128 → goes_on b ≡ false
low_begins b small = grind (arith, nat_tests)

pub high_begins : (b : ℕ) → 192 ≤ b → goes_on b ≡ false
high_begins b large = grind (arith, nat_tests)

pub both : (a b : Bool) → a && b ≡ true → (a ≡ true) × (b ≡ true)
both true true e = (refl, refl)
both true false e = absurd cc
both false b e = absurd cc

pub plain_parts : (c : List ℕ) → is_plain c ≡ true → (is_utf8 c ≡ true) × (not (list_any is_obeyed (chars c)) ≡ true)
plain_parts c e = both (is_utf8 c) (not (list_any is_obeyed (chars c))) e

plain_begins : (c : List ℕ) → is_plain c ≡ true → starts goes_on c ≡ false
plain_begins [] e = refl
plain_begins (b ∷ bs) e = by (cases_lt b 128)
  where
    by : (b < 128) ⊎ (128 ≤ b) → goes_on b ≡ false
    by (inl small) = low_begins b small
    by (inr large) =
        let utf8 = IsUtf8-from_is_utf8 (b ∷ bs) (plain_parts (b ∷ bs) e).0 in
        high_begins b ((IsCharBoundary-start (b ∷ bs) utf8).1 (omega arith) large)

-- ---- escapes

digit_by : (n : ℕ) → n < 16 → (n < 10) ⊎ (10 ≤ n) → (48 ≤ digit_char n) × (digit_char n < 127)
digit_by n small (inl few) = rw (lt-ltb n 10 few) (omega arith, omega arith)
digit_by n small (inr many) = rw (le-ltb n 10 many) (omega arith, omega arith)

pub digit_low : (n : ℕ) → n < 16 → (48 ≤ digit_char n) × (digit_char n < 127)
digit_low n small = digit_by n small (cases_lt n 10)

abbrev pub high_digit : ℕ → ℕ
high_digit b = digit_char (b / 16 % 16)

abbrev pub low_digit : ℕ → ℕ
low_digit b = digit_char (b % 16)

pub high_is : (b : ℕ) → (48 ≤ high_digit b) × (high_digit b < 127)
high_is b = digit_low (b / 16 % 16) (omega arith)

pub low_is : (b : ℕ) → (48 ≤ low_digit b) × (low_digit b < 127)
low_is b = digit_low (b % 16) (omega arith)

pub escape_is : (b : ℕ) → escaped b ≡ 92 ∷ 120 ∷ high_digit b ∷ low_digit b ∷ []
escape_is b = rw (
  encode_ascii (high_digit b) (omega (arith, (high_is b).1)),
  encode_ascii (low_digit b) (omega (arith, (low_is b).1)),
) refl

pub escapes_begin : (bytes : List ℕ) → starts goes_on (flat_map escaped bytes) ≡ false
escapes_begin [] = refl
escapes_begin (b ∷ bs) = refl

-- ---- what is shown

shown_by : (c : List ℕ) (t : Bool) → is_plain c ≡ t → starts goes_on (shown c) ≡ false
shown_by c true is = ap (λ t. starts goes_on (cond t c (flat_map escaped c))) is ∙ plain_begins c is
shown_by c false is = ap (λ t. starts goes_on (cond t c (flat_map escaped c))) is ∙ escapes_begin c

-- what is shown begins with a character
pub text_begins : (cs : List (List ℕ)) → starts goes_on (shown_text cs) ≡ false
text_begins [] = refl
text_begins (c ∷ cs) = starts_joined (shown c) (shown_text cs) (shown_by c (is_plain c) refl) (text_begins cs)
