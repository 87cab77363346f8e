-- What stands below is as wide as what stands above.
use Rattle.std.proofs.Common.{◌≡◌, ◌∙◌, ap, ap₂, refl, sym, ℕ, Bool, true, false}
use Rattle.std.proofs.Common.{List, [], ◌∷◌, map, ◌++◌, ◌⊎◌, inl, inr, arith, append_assoc}
use Rattle.std.specs.Prelude.{codes, nat_eq}
use Rattle.std.specs.Fmt.{decimal}
use Rattle.std.specs.List.{AllByRecursion, flat_map}
use Rattle.std.proofs.lemmas.Bool.Decides.{nat_tests}
use Rattle.std.proofs.lemmas.List.{map-append}
use Rattle.proto_lex.specs.Bytes.{starts}
use Rattle.diagnostics.specs.Characters.{characters, goes_on}
use Rattle.diagnostics.specs.Excerpts.{blanks, carets, parts_of, shown_before, shown_marked, shown_line}
use Rattle.diagnostics.specs.Laws.{width, IsBelow, MarkIt, margin, MarksStandBelow}
use Rattle.diagnostics.specs.Places.{line_number}
use Rattle.diagnostics.specs.Shown.{is_tab, mark, marks}
use Rattle.diagnostics.proofs.CharacterJoinLemmas.{joined, low_begins}
use Rattle.diagnostics.proofs.LawTameLemmas.{IsDigit, digits_of, line_fits}

width_joined : (xs ys : List ℕ) → starts goes_on ys ≡ false → width (xs ++ ys) ≡ width xs ++ width ys
width_joined xs ys begins = ap (map is_tab) (joined xs ys begins) ∙ map-append is_tab (characters xs) (characters ys)

-- ---- marks of a text

-- a sign is a byte of ASCII, and no tab
abbrev IsSign : ℕ → Type 0
IsSign sign = (goes_on sign ≡ false) × (nat_eq sign 9 ≡ false)

one_by : (sign : ℕ) (c : List ℕ) (t : Bool) → IsSign sign → is_tab c ≡ t → width (mark (sign ∷ []) c) ≡ is_tab c ∷ []
one_by sign c true is tab = rw tab refl
one_by sign c false is tab = rw (tab, is.1) refl

begins_by : (sign : ℕ) (c : List ℕ) (rest : List ℕ) (t : Bool) → IsSign sign → is_tab c ≡ t
    → starts goes_on (mark (sign ∷ []) c ++ rest) ≡ false
begins_by sign c rest true is tab = rw tab refl
begins_by sign c rest false is tab = rw tab is.0

begins : (sign : ℕ) (cs : List (List ℕ)) → IsSign sign → starts goes_on (flat_map (mark (sign ∷ [])) cs) ≡ false
begins sign [] is = refl
begins sign (c ∷ cs) is = begins_by sign c (flat_map (mark (sign ∷ [])) cs) (is_tab c) is refl

width_of : (sign : ℕ) (cs : List (List ℕ)) → IsSign sign → width (flat_map (mark (sign ∷ [])) cs) ≡ map is_tab cs
width_of sign [] is = refl
width_of sign (c ∷ cs) is =
    width_joined (mark (sign ∷ []) c) (flat_map (mark (sign ∷ [])) cs) (begins sign cs is)
    ∙ ap₂ (λ (x y : List Bool). x ++ y) (one_by sign c (is_tab c) is refl) (width_of sign cs is)

abbrev SignOrTab : ℕ → ℕ → Type 0
SignOrTab sign b = (b ≡ sign) ⊎ (b ≡ 9)

mark_of : (sign : ℕ) (c rest : List ℕ) (t : Bool) → is_tab c ≡ t → AllByRecursion (SignOrTab sign) rest
    → AllByRecursion (SignOrTab sign) (mark (sign ∷ []) c ++ rest)
mark_of sign c rest true tab all = rw tab (inr refl, all)
mark_of sign c rest false tab all = rw tab (inl refl, all)

only_of : (sign : ℕ) (cs : List (List ℕ)) → AllByRecursion (SignOrTab sign) (flat_map (mark (sign ∷ [])) cs)
only_of sign [] = tt
only_of sign (c ∷ cs) = mark_of sign c (flat_map (mark (sign ∷ [])) cs) (is_tab c) refl (only_of sign cs)

marks_below : (sign : ℕ) (text : List ℕ) → IsSign sign → IsBelow sign (marks (sign ∷ []) text) text
marks_below sign text is = (width_of sign (characters text) is, only_of sign (characters text))

-- ---- the margin

digit_alone : (d : ℕ) (ds : List ℕ) → IsDigit d → AllByRecursion IsDigit ds → width (d ∷ ds) ≡ false ∷ width ds
digit_alone d [] is all = let least = is.0 in ap (λ t. t ∷ []) (grind (arith, nat_tests))
digit_alone d (e ∷ ds) is all =
    let least = is.0 in
    width_joined (d ∷ []) (e ∷ ds) (low_begins e (omega (arith, all.0.1)))
    ∙ ap (λ t. t ∷ width (e ∷ ds)) (grind (arith, nat_tests))

blank_alone : (digits : List ℕ) → width (32 ∷ blanks digits) ≡ false ∷ width (blanks digits)
blank_alone [] = refl
blank_alone (d ∷ ds) = refl

width_digits : (ds : List ℕ) → AllByRecursion IsDigit ds → width (blanks ds) ≡ width ds
width_digits [] all = refl
width_digits (d ∷ ds) all =
    blank_alone ds ∙ ap (λ (l : List Bool). false ∷ l) (width_digits ds all.1) ∙ sym (digit_alone d ds all.0 all.1)

behind_two : (ds : List ℕ) → AllByRecursion IsDigit ds → width (32 ∷ 32 ∷ ds) ≡ false ∷ false ∷ width ds
behind_two [] all = refl
behind_two (d ∷ ds) all = width_joined (32 ∷ 32 ∷ []) (d ∷ ds) (low_begins d (omega (arith, all.0.1)))

only_blanks : (ds : List ℕ) → AllByRecursion (SignOrTab 32) (blanks ds)
only_blanks [] = tt
only_blanks (d ∷ ds) = (inl refl, only_blanks ds)

below_margin : (ds : List ℕ) → AllByRecursion IsDigit ds → IsBelow 32 (codes "  " ++ blanks ds) (codes "  " ++ ds)
below_margin ds all = (
  blank_alone (32 ∷ ds) ∙ ap (λ (l : List Bool). false ∷ l) (blank_alone ds)
      ∙ ap (λ (l : List Bool). false ∷ false ∷ l) (width_digits ds all) ∙ sym (behind_two ds all),
  (inl refl, (inl refl, only_blanks ds)),
)

mark_it : (marked : List ℕ) → MarkIt (carets marked) marked
mark_it [] = refl
mark_it (b ∷ bs) = marks_below 94 (b ∷ bs) (refl, refl)

pub marks_stand_below : MarksStandBelow
marks_stand_below text at len fits =
    let number = decimal (line_number text at) in
    let parts = parts_of text at len in
    let edge = codes "  " ++ blanks number in
    let under = marks (codes " ") (shown_before parts) in
    let last = carets (shown_marked parts) in (
      edge,
      under,
      last,
      ap (λ (l : List ℕ). 10 ∷ (margin text at ++ codes " | " ++ shown_line parts ++ 10 ∷ l))
          (sym (append_assoc (edge ++ codes " | ") under last)),
      below_margin number (digits_of (line_number text at) (line_fits text at fits)),
      marks_below 32 (shown_before parts) (refl, refl),
      mark_it (shown_marked parts),
    )
