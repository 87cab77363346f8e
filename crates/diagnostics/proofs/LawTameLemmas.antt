-- Nothing that is shown is obeyed by a terminal.
use Rattle.std.proofs.Common.{◌≡◌, ◌∙◌, ap, refl, sym, subst, ℕ, ◌+◌, ◌%◌, ◌≤◌, ◌<◌, ◌^◌, Bool, true, false}
use Rattle.std.proofs.Common.{List, [], ◌∷◌, length, take, ◌++◌, ◌-◌, cond, not, ◌&&◌, arith, length-take, length-drop}
use Rattle.std.specs.Prelude.{codes, nat_le, nat_lt}
use Rattle.std.specs.Fmt.{decimal}
use Rattle.std.specs.List.{AllByRecursion, flat_map, list_any, list_all, count_by, suffix_len, onto_first}
use Rattle.std.specs.Str.{NonePass, chars, encode_utf8_all}
use Rattle.std.proofs.lemmas.Bool.Decides.{nat_tests}
use Rattle.std.proofs.lemmas.Grind.{common_steps}
use Rattle.std.proofs.lemmas.Fmt.{decimal_by_steps_wide}
use Rattle.std.proofs.lemmas.Str.{IsUtf8-from_is_utf8, NoCharPasses-nil, NoCharPasses-append}
use Rattle.std.proofs.lemmas.Str.{encodes-chars, encode_ascii}
use Rattle.proto_lex.specs.Position.{is_line_end, line_before}
use Rattle.proto_lex.specs.Bytes.{starts}
use Rattle.diagnostics.specs.Characters.{characters, goes_on}
use Rattle.diagnostics.specs.Excerpts.{where_cut, carets, shown_before, shown_marked, shown_behind, shown_line}
use Rattle.diagnostics.specs.Excerpts.{mark_line, blanks, Parts, parts_of, last_of, room}
use Rattle.diagnostics.specs.Laws.{IsTame, PlacesAreTame, QuotesAreTame, ExcerptsAreTame}
use Rattle.diagnostics.specs.Places.{line_number, column}
use Rattle.diagnostics.specs.Shown.{escaped, is_obeyed, is_plain, is_tab, mark, marks, shown, shown_text}
use Rattle.diagnostics.proofs.CharacterJoinLemmas.{high_digit, low_digit, high_is, low_is, escape_is, plain_parts}

pub tame_joined : (xs ys : List ℕ) → IsTame xs → IsTame ys → IsTame (xs ++ ys)
tame_joined xs ys a b = NoCharPasses-append is_obeyed xs ys a b

-- ---- printable ASCII

abbrev pub IsPrintable : ℕ → Type 0
IsPrintable b = (32 ≤ b) × (b < 127)

printable_passes : (b : ℕ) → IsPrintable b → is_obeyed b ≡ false
printable_passes b h = let low = h.0 in let high = h.1 in grind (arith, nat_tests)

tame_byte : (b : ℕ) (bs : List ℕ) → b < 128 → is_obeyed b ≡ false → IsTame bs → IsTame (b ∷ bs)
tame_byte b bs small passes rest = (
  b ∷ rest.0,
  ap (λ (xs : List ℕ). xs ++ encode_utf8_all rest.0) (encode_ascii b small)
      ∙ ap (λ (xs : List ℕ). b ∷ xs) rest.1,
  (passes, rest.2),
)

pub tame_printable : (text : List ℕ) → AllByRecursion IsPrintable text → IsTame text
tame_printable [] all = NoCharPasses-nil is_obeyed
tame_printable (b ∷ bs) all =
    tame_byte b bs (omega (arith, all.0.1)) (printable_passes b all.0) (tame_printable bs all.1)

-- a written text, by a test
test_by : (b : ℕ) (bs : List ℕ) → list_all (λ b. nat_le 32 b && nat_lt b 127) (b ∷ bs) ≡ true
    → (IsPrintable b) × (list_all (λ b. nat_le 32 b && nat_lt b 127) bs ≡ true)
test_by b bs e = grind (arith, nat_tests)

pub tame_text : (text : List ℕ) → list_all (λ b. nat_le 32 b && nat_lt b 127) text ≡ true → IsTame text
tame_text [] e = NoCharPasses-nil is_obeyed
tame_text (b ∷ bs) e = let h = test_by b bs e in
    tame_byte b bs (omega (arith, h.0.1)) (printable_passes b h.0) (tame_text bs h.1)

tame_tab : IsTame (codes "\t")
tame_tab = tame_byte 9 [] (omega arith) refl (NoCharPasses-nil is_obeyed)

-- ---- decimals

abbrev pub IsDigit : ℕ → Type 0
IsDigit b = (48 ≤ b) × (b < 58)

one_more_digit : (ds : List ℕ) (d : ℕ) → AllByRecursion IsDigit ds → IsDigit d → AllByRecursion IsDigit (ds ++ d ∷ [])
one_more_digit [] d all is = (is, tt)
one_more_digit (e ∷ ds) d all is = (all.0, one_more_digit ds d all.1 is)

pub digits_of : (n : ℕ) → n < 10 ^ 64 → AllByRecursion IsDigit (decimal n)
digits_of =
    decimal_by_steps_wide (λ n ds. AllByRecursion IsDigit ds) (λ n small. ((omega arith, omega arith), tt))
    (λ n ds large h. one_more_digit ds (48 + n % 10) h (omega arith, omega arith))

tame_digits : (ds : List ℕ) → AllByRecursion IsDigit ds → IsTame ds
tame_digits [] all = NoCharPasses-nil is_obeyed
tame_digits (d ∷ ds) all = tame_byte d ds (omega (arith, all.0.1))
    (printable_passes d (omega (arith, all.0.0), omega (arith, all.0.1))) (tame_digits ds all.1)

pub tame_decimal : (n : ℕ) → n < 10 ^ 64 → IsTame (decimal n)
tame_decimal n fits = tame_digits (decimal n) (digits_of n fits)

-- ---- characters that are shown

none_by : (c : ℕ) (cs : List ℕ) → not (list_any is_obeyed (c ∷ cs)) ≡ true
    → (is_obeyed c ≡ false) × (not (list_any is_obeyed cs) ≡ true)
none_by c cs e = by (is_obeyed c) refl
  where
    by : (t : Bool) → is_obeyed c ≡ t → (is_obeyed c ≡ false) × (not (list_any is_obeyed cs) ≡ true)
    by true is = absurd cc
    by false is = (is, cc)

none_pass : (cs : List ℕ) → not (list_any is_obeyed cs) ≡ true → NonePass is_obeyed cs
none_pass [] e = tt
none_pass (c ∷ cs) e = let h = none_by c cs e in (h.0, none_pass cs h.1)

tame_plain : (c : List ℕ) → is_plain c ≡ true → IsTame c
tame_plain c e = let h = plain_parts c e in
    (chars c, encodes-chars c (IsUtf8-from_is_utf8 c h.0), none_pass (chars c) h.1)

tame_escape : (b : ℕ) → IsTame (escaped b)
tame_escape b =
    let high : IsPrintable (high_digit b) = (omega (arith, (high_is b).0), (high_is b).1) in
    let low : IsPrintable (low_digit b) = (omega (arith, (low_is b).0), (low_is b).1) in
    subst IsTame (sym (escape_is b)) (tame_printable (92 ∷ 120 ∷ high_digit b ∷ low_digit b ∷ [])
    ((omega arith, omega arith), ((omega arith, omega arith), (high, (low, tt)))))

tame_escapes : (bytes : List ℕ) → IsTame (flat_map escaped bytes)
tame_escapes [] = NoCharPasses-nil is_obeyed
tame_escapes (b ∷ bs) = tame_joined (escaped b) (flat_map escaped bs) (tame_escape b) (tame_escapes bs)

tame_by : (c : List ℕ) (t : Bool) → is_plain c ≡ t → IsTame (shown c)
tame_by c true is = subst IsTame (sym (ap (λ t. cond t c (flat_map escaped c)) is)) (tame_plain c is)
tame_by c false is = subst IsTame (sym (ap (λ t. cond t c (flat_map escaped c)) is)) (tame_escapes c)

pub tame_shown : (cs : List (List ℕ)) → IsTame (shown_text cs)
tame_shown [] = NoCharPasses-nil is_obeyed
tame_shown (c ∷ cs) = tame_joined (shown c) (shown_text cs) (tame_by c (is_plain c) refl) (tame_shown cs)

tame_cut : (cut : Bool) (text : List ℕ) → IsTame text → IsTame (where_cut cut text)
tame_cut true text h = h
tame_cut false text h = NoCharPasses-nil is_obeyed

-- ---- marks

mark_by : (sign c : List ℕ) (t : Bool) → is_tab c ≡ t → IsTame sign → IsTame (mark sign c)
mark_by sign c true is h = subst IsTame (sym (ap (λ t. cond t (codes "\t") sign) is)) tame_tab
mark_by sign c false is h = subst IsTame (sym (ap (λ t. cond t (codes "\t") sign) is)) h

tame_marks : (sign : List ℕ) (cs : List (List ℕ)) → IsTame sign → IsTame (flat_map (mark sign) cs)
tame_marks sign [] h = NoCharPasses-nil is_obeyed
tame_marks sign (c ∷ cs) h =
    tame_joined (mark sign c) (flat_map (mark sign) cs) (mark_by sign c (is_tab c) refl h) (tame_marks sign cs h)

tame_carets : (text : List ℕ) → IsTame (carets text)
tame_carets [] = tame_text (codes "^") refl
tame_carets (b ∷ bs) = tame_marks (codes "^") (characters (b ∷ bs)) (tame_text (codes "^") refl)

tame_blanks : (digits : List ℕ) → IsTame (blanks digits)
tame_blanks [] = NoCharPasses-nil is_obeyed
tame_blanks (d ∷ ds) = tame_joined (codes " ") (blanks ds) (tame_text (codes " ") refl) (tame_blanks ds)

-- ---- laws

count_by_one : (b : ℕ) (bs : List ℕ) (t : Bool) → is_line_end b ≡ t → count_by is_line_end bs ≤ length bs
    → count_by is_line_end (b ∷ bs) ≤ length (b ∷ bs)
count_by_one b bs true is h = grind (arith, common_steps)
count_by_one b bs false is h = grind (arith, common_steps)

count_le : (text : List ℕ) → count_by is_line_end text ≤ length text
count_le [] = omega arith
count_le (b ∷ bs) = count_by_one b bs (is_line_end b) refl (count_le bs)

pub line_fits : (text : List ℕ) (at : ℕ) → length text < 2 ^ 64 → line_number text at < 10 ^ 64
line_fits text at fits = omega (arith, count_le (take at text), length-take at text)

onto_len : (b : ℕ) (cs : List (List ℕ)) → length (onto_first b cs) ≤ length cs + 1
onto_len b [] = omega arith
onto_len b (c ∷ cs) = omega arith

one_by : (b : ℕ) (bs : List ℕ) (t : Bool) → starts goes_on bs ≡ t → length (characters bs) ≤ length bs
    → length (characters (b ∷ bs)) ≤ length (b ∷ bs)
one_by b bs true is h = rw is (omega (arith, onto_len b (characters bs), h))
one_by b bs false is h = rw is (omega (arith, h))

pub characters_le : (bytes : List ℕ) → length (characters bytes) ≤ length bytes
characters_le [] = omega arith
characters_le (b ∷ bs) = one_by b bs (starts goes_on bs) refl (characters_le bs)

pub column_fits : (text : List ℕ) (at : ℕ) → length text < 2 ^ 64 → column text at < 10 ^ 64
column_fits text at fits = omega (
  arith,
  characters_le (line_before text at),
  length-take at text,
  length-drop (length (take at text) - suffix_len (λ x. not (is_line_end x)) (take at text)) (take at text),
)

-- of two to six parts
two : (a b : List ℕ) → IsTame a → IsTame b → IsTame (a ++ b)
two a b x y = tame_joined a b x y

three : (a b c : List ℕ) → IsTame a → IsTame b → IsTame c → IsTame (a ++ b ++ c)
three a b c x y z = two (a ++ b) c (two a b x y) z

four : (a b c d : List ℕ) → IsTame a → IsTame b → IsTame c → IsTame d → IsTame (a ++ b ++ c ++ d)
four a b c d x y z w = two (a ++ b ++ c) d (three a b c x y z) w

pub places_are_tame : PlacesAreTame
places_are_tame path text at fits =
    let name = shown_text (characters path) in
    let line = decimal (line_number text at) in
    let place = decimal (column text at) in
    three (name ++ codes ":" ++ line ++ codes ":") place (codes ": ")
    (four name (codes ":") line (codes ":") (tame_shown (characters path)) (tame_text (codes ":") refl)
    (tame_decimal (line_number text at) (line_fits text at fits)) (tame_text (codes ":") refl))
    (tame_decimal (column text at) (column_fits text at fits)) (tame_text (codes ": ") refl)

pub quotes_are_tame : QuotesAreTame
quotes_are_tame bytes =
    let cs = take 40 (characters bytes) in
    let cut = nat_lt 40 (length (characters bytes)) in
    four (codes "`") (shown_text cs) (where_cut cut (codes "...")) (codes "`") (tame_text (codes "`") refl)
    (tame_shown cs) (tame_cut cut (codes "...") (tame_text (codes "...") refl)) (tame_text (codes "`") refl)

tame_before : (parts : Parts) → IsTame (shown_before parts)
tame_before parts =
    let cut = nat_lt (room parts) (length parts.before) in
    two (where_cut cut (codes "...")) (shown_text (last_of (room parts) parts.before))
    (tame_cut cut (codes "...") (tame_text (codes "...") refl)) (tame_shown (last_of (room parts) parts.before))

tame_behind : (parts : Parts) → IsTame (shown_behind parts)
tame_behind parts =
    let cut = nat_lt (room parts) (length parts.marked + length parts.behind) in
    let cs = take (room parts - length parts.marked) parts.behind in
    two (shown_text cs) (where_cut cut (codes "...")) (tame_shown cs)
    (tame_cut cut (codes "...") (tame_text (codes "...") refl))

tame_line : (parts : Parts) → IsTame (shown_line parts)
tame_line parts =
    three (shown_before parts) (shown_marked parts) (shown_behind parts) (tame_before parts)
    (tame_shown (take (room parts) parts.marked)) (tame_behind parts)

tame_below : (parts : Parts) → IsTame (mark_line parts)
tame_below parts =
    two (marks (codes " ") (shown_before parts)) (carets (shown_marked parts))
    (tame_marks (codes " ") (characters (shown_before parts)) (tame_text (codes " ") refl))
    (tame_carets (shown_marked parts))

pub excerpts_are_tame : ExcerptsAreTame
excerpts_are_tame text at len fits =
    let number = decimal (line_number text at) in
    let parts = parts_of text at len in
    let of_number = tame_decimal (line_number text at) (line_fits text at fits) in
    let edge = tame_text (codes "  ") refl in
    let bar = tame_text (codes " | ") refl in (
      codes "  " ++ number ++ codes " | " ++ shown_line parts,
      codes "  " ++ blanks number ++ codes " | " ++ mark_line parts,
      refl,
      four (codes "  ") number (codes " | ") (shown_line parts) edge of_number bar (tame_line parts),
      four (codes "  ") (blanks number) (codes " | ") (mark_line parts) edge (tame_blanks number) bar
          (tame_below parts),
    )
