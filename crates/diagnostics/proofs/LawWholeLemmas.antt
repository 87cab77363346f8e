-- What is shown as it is.
use Rattle.std.proofs.Common.{◌≡◌, ◌∙◌, ap, ap₂, refl, sym, subst, ℕ, ◌+◌, ◌-◌, ◌/◌, ◌≤◌, ◌<◌}
use Rattle.std.proofs.Common.{true, false, cond, not, ◌&&◌, ◌||◌, List, [], ◌∷◌, length, map, take, drop, ◌++◌}
use Rattle.std.proofs.Common.{◌⊎◌, inl, inr, arith, append-nil, append_assoc, length-append}
use Rattle.std.specs.Prelude.{codes, IsUtf8, chars, nat_lt}
use Rattle.std.specs.Char.{IsScalar}
use Rattle.std.specs.Fmt.{decimal}
use Rattle.std.specs.List.{flat_map, list_any}
use Rattle.std.specs.Str.{NonePass}
use Rattle.std.proofs.Math.Utf8.{encode, encodes, scalar, scalars}
use lib.Utf8.{next}
use Rattle.std.proofs.lemmas.Bool.{lt-ltb, le-ltb, cases_lt}
use Rattle.std.proofs.lemmas.Bool.Decides.{nat_tests}
use Rattle.std.proofs.lemmas.List.{take-append-drop, take_all, length-map}
use Rattle.std.proofs.lemmas.Str.{chars-encodes, chars-append, chars_from_encodes, IsUtf8-append, IsUtf8-encode}
use Rattle.std.proofs.lemmas.Str.{is_utf8-from_IsUtf8}
use Rattle.proto_lex.specs.Bytes.{starts}
use Rattle.proto_lex.specs.Position.{line_before}
use Rattle.diagnostics.specs.Characters.{characters, goes_on}
use Rattle.diagnostics.specs.Excerpts.{where_cut, last_of, parts_in, shown_line}
use Rattle.diagnostics.specs.Laws.{IsTame, AreOfTheText, ShortLinesAreWhole, PathsAreWhole, QuotesAreWhole}
use Rattle.diagnostics.specs.Places.{line_number, line_after, column}
use Rattle.diagnostics.specs.Shown.{is_obeyed, is_plain, shown, shown_text, escaped}
use Rattle.diagnostics.proofs.CharacterJoinLemmas.{both, joined, GoOn, alone, low_begins, high_begins}

-- ---- the bytes of a character

next_goes_on : (bits : ℕ) → goes_on (next bits) ≡ true
next_goes_on bits = grind (arith, nat_tests)

-- one byte that begins a character, and then those that go on
abbrev IsOfOne : List ℕ → Type 0
IsOfOne [] = ⊥
IsOfOne (b ∷ bs) = (goes_on b ≡ false) × GoOn bs

one_byte : (c : ℕ) → c < 128 → IsOfOne (encode c)
unfolding encode
one_byte c small = rw (lt-ltb c 128 small) (low_begins c small, tt)

two_bytes : (c : ℕ) → 128 ≤ c → c < 2048 → IsOfOne (encode c)
unfolding encode
two_bytes c least small = rw (le-ltb c 128 least, lt-ltb c 2048 small) (
  high_begins (192 + c / 64) (omega arith),
  (next_goes_on c, tt),
)

three_bytes : (c : ℕ) → 2048 ≤ c → c < 65536 → IsOfOne (encode c)
unfolding encode
three_bytes c least small = rw (le-ltb c 128 (omega arith), le-ltb c 2048 least, lt-ltb c 65536 small) (
  high_begins (224 + c / 4096) (omega arith),
  (next_goes_on (c / 64), (next_goes_on c, tt)),
)

four_bytes : (c : ℕ) → 65536 ≤ c → IsOfOne (encode c)
unfolding encode
four_bytes c least = rw (le-ltb c 128 (omega arith), le-ltb c 2048 (omega arith), le-ltb c 65536 least) (
  high_begins (240 + c / 262144) (omega arith),
  (next_goes_on (c / 4096), (next_goes_on (c / 64), (next_goes_on c, tt))),
)

of_one : (c : ℕ) → IsOfOne (encode c)
of_one c = by_bytes c (cases_lt c 128) (cases_lt c 2048) (cases_lt c 65536)
  where
    by_bytes : (c : ℕ) → (c < 128) ⊎ (128 ≤ c) → (c < 2048) ⊎ (2048 ≤ c) → (c < 65536) ⊎ (65536 ≤ c)
        → IsOfOne (encode c)
    by_bytes c (inl a) two three = one_byte c a
    by_bytes c (inr a) (inl b) three = two_bytes c a b
    by_bytes c (inr a) (inr b) (inl d) = three_bytes c b d
    by_bytes c (inr a) (inr b) (inr d) = four_bytes c d

alone_by : (bytes : List ℕ) → IsOfOne bytes → characters bytes ≡ bytes ∷ []
alone_by [] is = absurd is
alone_by (b ∷ bs) is = alone b bs is.1

begins_by : (bytes rest : List ℕ) → IsOfOne bytes → starts goes_on (bytes ++ rest) ≡ false
begins_by [] rest is = absurd is
begins_by (b ∷ bs) rest is = is.0

begins : (cs : List ℕ) → starts goes_on (encodes cs) ≡ false
begins [] = refl
begins (c ∷ cs) = begins_by (encode c) (encodes cs) (of_one c)

each : (cs : List ℕ) → characters (encodes cs) ≡ map encode cs
each [] = refl
each (c ∷ cs) =
    joined (encode c) (encodes cs) (begins cs)
    ∙ ap₂ (λ (x y : List (List ℕ)). x ++ y) (alone_by (encode c) (of_one c)) (each cs)

pub are_of_the_text : AreOfTheText
are_of_the_text text utf8 = subst (λ (bytes : List ℕ). characters bytes ≡ map encode (chars bytes)) utf8.1.1
    (rw (chars-encodes utf8.0 utf8.1.0) (each utf8.0))

pub length_is : (text : List ℕ) → IsUtf8 text → length (characters text) ≡ length (chars text)
length_is text utf8 = ap length (are_of_the_text text utf8) ∙ length-map (chars text) encode

-- ---- a text in which nothing is obeyed

chars_one : (c : ℕ) → IsScalar c → chars (encode c) ≡ c ∷ []
chars_one c is = ap chars (sym (append-nil (encode c))) ∙ chars-encodes (c ∷ []) (rw is refl)

plain_one : (c : ℕ) → IsScalar c → is_obeyed c ≡ false → is_plain (encode c) ≡ true
plain_one c is free =
    ap₂ (λ a b. a && not b) (is_utf8-from_IsUtf8 (encode c) (IsUtf8-encode c is))
    (ap (list_any is_obeyed) (chars_one c is) ∙ ap (λ t. t || false) free)

shown_one : (c : ℕ) → IsScalar c → is_obeyed c ≡ false → shown (encode c) ≡ encode c
shown_one c is free = ap (λ t. cond t (encode c) (flat_map escaped (encode c))) (plain_one c is free)

whole_of : (cs : List ℕ) → scalars cs ≡ true → NonePass is_obeyed cs → shown_text (map encode cs) ≡ encodes cs
whole_of [] are free = refl
whole_of (c ∷ cs) are free = let h = both (scalar c) (scalars cs) are in
    ap₂ (λ (x y : List ℕ). x ++ y) (shown_one c h.0 free.0) (whole_of cs h.1 free.1)

whole : (text : List ℕ) → IsUtf8 text → NonePass is_obeyed (chars text) → shown_text (characters text) ≡ text
whole text utf8 free =
    let are : chars text ≡ utf8.0 = ap chars (sym utf8.1.1) ∙ chars-encodes utf8.0 utf8.1.0 in
    subst (λ (bytes : List ℕ). shown_text (characters bytes) ≡ bytes) utf8.1.1
    (ap shown_text (each utf8.0) ∙ whole_of utf8.0 utf8.1.0 (subst (NonePass is_obeyed) are free))

free_of : (text : List ℕ) → IsUtf8 text → IsTame text → NonePass is_obeyed (chars text)
free_of text utf8 tame = subst (NonePass is_obeyed) (chars_from_encodes tame.0 text utf8 tame.1) tame.2

free_parts : (xs ys : List ℕ) → NonePass is_obeyed (xs ++ ys) → NonePass is_obeyed xs × NonePass is_obeyed ys
free_parts [] ys free = (tt, free)
free_parts (x ∷ xs) ys free = let h = free_parts xs ys free.1 in ((free.0, h.0), h.1)

pub whole_text : (text : List ℕ) → IsUtf8 text → IsTame text → shown_text (characters text) ≡ text
whole_text text utf8 tame = whole text utf8 (free_of text utf8 tame)

-- ---- a short line

abbrev line_at : ℕ → (before marked behind : List (List ℕ)) → List ℕ
line_at n before marked behind =
    (where_cut (nat_lt n (length before)) (codes "...") ++ shown_text (last_of n before))
    ++ shown_text (take n marked)
    ++ (shown_text (take (n - length marked) behind)
    ++ where_cut (nat_lt n (length marked + length behind)) (codes "..."))

front_at : (before : List (List ℕ)) → length before ≤ 200
    → where_cut (nat_lt 200 (length before)) (codes "...") ++ shown_text (last_of 200 before) ≡ shown_text before
front_at before few =
    let none : length before - 200 ≡ 0 = omega (arith, few) in
    ap (λ t. where_cut t (codes "...") ++ shown_text (last_of 200 before)) (le-ltb 200 (length before) few)
    ∙ ap (λ k. shown_text (drop k before)) none

back_at : (marked behind : List (List ℕ)) → length marked + length behind ≤ 200
    → shown_text (take (200 - length marked) behind)
    ++ where_cut (nat_lt 200 (length marked + length behind)) (codes "...") ≡ shown_text behind
back_at marked behind few =
    let shown = shown_text (take (200 - length marked) behind) in
    ap (λ t. shown ++ where_cut t (codes "...")) (le-ltb 200 (length marked + length behind) few)
    ∙ append-nil shown
    ∙ ap shown_text (take_all (200 - length marked) behind (omega (arith, few)))

three_same : (a b c x y z : List ℕ) → a ≡ x → b ≡ y → c ≡ z → a ++ b ++ c ≡ x ++ y ++ z
three_same a b c x y z h i j =
    ap₂ (λ (s t : List ℕ). s ++ t) (ap₂ (λ (s t : List ℕ). s ++ t) h i) j

at_200 : (before marked behind : List (List ℕ)) → length before + length marked + length behind ≤ 200
    → line_at 200 before marked behind ≡ shown_text before ++ shown_text marked ++ shown_text behind
at_200 before marked behind few =
    three_same _ _ _ (shown_text before) (shown_text marked) (shown_text behind)
    (front_at before (omega (arith, few)))
    (ap shown_text (take_all 200 marked (omega (arith, few))))
    (back_at marked behind (omega (arith, few)))

short : (before marked behind : List (List ℕ)) → length before + length marked + length behind ≤ 200
    → shown_line (record { before = before; marked = marked; behind = behind })
    ≡ shown_text before ++ shown_text marked ++ shown_text behind
short before marked behind few =
    ap (λ t. line_at (cond t 100 200) before marked behind)
    (le-ltb 200 (length before + length marked + length behind) few)
    ∙ at_200 before marked behind few

whole_parts : (before marked behind after : List ℕ) → marked ++ behind ≡ after
    → IsUtf8 before → IsUtf8 marked → IsUtf8 behind → IsTame (before ++ after) → length (chars (before ++ after)) ≤ 200
    → shown_line (parts_in before marked behind) ≡ before ++ after
whole_parts before marked behind after are a b c tame few =
    let ends : IsUtf8 after = subst IsUtf8 are (IsUtf8-append marked behind b c) in
    let chars_are : chars (before ++ after) ≡ chars before ++ (chars marked ++ chars behind) =
    chars-append before after a
    ∙ ap (λ (t : List ℕ). chars before ++ t) (ap chars (sym are) ∙ chars-append marked behind b) in
    let all = free_of (before ++ after) (IsUtf8-append before after a ends) tame in
    let free = subst (NonePass is_obeyed) chars_are all in
    let front = free_parts (chars before) (chars marked ++ chars behind) free in
    let back = free_parts (chars marked) (chars behind) front.1 in
    let count : length (characters before) + length (characters marked) + length (characters behind) ≤ 200 = omega (
      arith,
      few,
      ap length chars_are,
      length-append (chars before) (chars marked ++ chars behind),
      length-append (chars marked) (chars behind),
      length_is before a,
      length_is marked b,
      length_is behind c,
    ) in
    short (characters before) (characters marked) (characters behind) count
    ∙ three_same _ _ _ before marked behind (whole before a front.0) (whole marked b back.0) (whole behind c back.1)
    ∙ append_assoc before marked behind
    ∙ ap (λ (t : List ℕ). before ++ t) are

pub short_lines_are_whole : ShortLinesAreWhole
short_lines_are_whole text at len a b c tame few =
    let after = line_after text at in
    whole_parts (line_before text at) (take len after) (drop len after) after (take-append-drop len after) a b c tame
    few

pub paths_are_whole : PathsAreWhole
paths_are_whole path text at utf8 tame =
    ap (λ (shown : List ℕ). shown ++ codes ":" ++ decimal (line_number text at) ++ codes ":"
    ++ decimal (column text at) ++ codes ": ") (whole_text path utf8 tame)

pub quotes_are_whole : QuotesAreWhole
quotes_are_whole bytes utf8 tame few =
    let count : length (characters bytes) ≤ 40 = omega (arith, few, length_is bytes utf8) in
    let shown = shown_text (take 40 (characters bytes)) in
    ap (λ t. codes "`" ++ shown ++ where_cut t (codes "...") ++ codes "`") (le-ltb 40 (length (characters bytes)) count)
    ∙ ap (λ (text : List ℕ). text ++ codes "`") (append-nil (codes "`" ++ shown))
    ∙ ap (λ (text : List ℕ). codes "`" ++ text ++ codes "`")
    (ap shown_text (take_all 40 (characters bytes) count) ∙ whole_text bytes utf8 tame)
