-- What stands below what is shown.
use Rattle.std.proofs.Common.{◌≡◌, ◌∙◌, ap, ap₂, refl, sym, ℕ, zero, suc, ◌≤◌, ◌<◌, Bool, true, false, cond}
use Rattle.std.proofs.Common.{List, [], ◌∷◌, length, take, ◌++◌, append-nil, append_assoc, arith}
use Rattle.std.specs.Prelude.{codes, ◌==◌, nat_eq}
use Rattle.std.specs.List.{AllByRecursion, flat_map}
use Rattle.std.proofs.lemmas.Bool.Decides.{nat_tests}
use Rattle.std.proofs.lemmas.Grind.{flat_map-append}
use Rattle.proto_lex.specs.Bytes.{starts}
use Rattle.diagnostics.specs.Characters.{characters, goes_on}
use Rattle.diagnostics.specs.Excerpts.{carets, where_cut}
use Rattle.diagnostics.specs.Shown.{escaped, is_plain, mark, marks, shown, shown_text}
use Rattle.diagnostics.specs.Tables.Steps.{four, signs}
use Rattle.diagnostics.proofs.CharacterLemmas.{first_is}
use Rattle.diagnostics.proofs.CharacterJoinLemmas.{joined, IsOne, alone, low_begins, high_digit, low_digit, high_is}
use Rattle.diagnostics.proofs.CharacterJoinLemmas.{low_is}
use Rattle.diagnostics.proofs.CharacterJoinLemmas.{escape_is, escapes_begin, text_begins}

pub marks_joined : (sign xs ys : List ℕ) → starts goes_on ys ≡ false
    → marks sign (xs ++ ys) ≡ marks sign xs ++ marks sign ys
marks_joined sign xs ys begins =
    ap (flat_map (mark sign)) (joined xs ys begins) ∙ flat_map-append (mark sign) (characters xs) (characters ys)

-- ---- escapes

no_tab : (d : ℕ) → 48 ≤ d → nat_eq d 9 ≡ false
no_tab d large = grind (arith, nat_tests)

four_signs : (sign : List ℕ) (d e : ℕ) → (48 ≤ d) × (d < 127) → (48 ≤ e) × (e < 127)
    → marks sign (92 ∷ 120 ∷ d ∷ e ∷ []) ≡ four sign
four_signs sign d e of_d of_e = rw (
  low_begins d (omega (arith, of_d.1)),
  low_begins e (omega (arith, of_e.1)),
  no_tab d of_d.0,
  no_tab e of_e.0,
  append-nil sign,
) (sym (append_assoc (sign ++ sign) sign sign ∙ append_assoc sign sign (sign ++ sign)))

marks_escape : (sign : List ℕ) (b : ℕ) → marks sign (escaped b) ≡ four sign
marks_escape sign b =
    ap (marks sign) (escape_is b) ∙ four_signs sign (high_digit b) (low_digit b) (high_is b) (low_is b)

marks_escapes : (sign bytes : List ℕ) → marks sign (flat_map escaped bytes) ≡ flat_map (λ (b : ℕ). four sign) bytes
marks_escapes sign [] = refl
marks_escapes sign (b ∷ bs) =
    marks_joined sign (escaped b) (flat_map escaped bs) (escapes_begin bs)
    ∙ ap₂ (λ (x y : List ℕ). x ++ y) (marks_escape sign b) (marks_escapes sign bs)

-- ---- characters of a source

mark_alone : (sign c : List ℕ) → IsOne c → marks sign c ≡ mark sign c
mark_alone sign [] one = absurd one
mark_alone sign (b ∷ bs) one =
    ap (flat_map (mark sign)) (alone b bs one) ∙ append-nil (mark sign (b ∷ bs))

signs_by : (sign c : List ℕ) (t : Bool) → IsOne c → is_plain c ≡ t → signs sign c ≡ marks sign (shown c)
signs_by sign c true one is =
    ap (λ t. cond t (mark sign c) (flat_map (λ (b : ℕ). four sign) c)) is
    ∙ sym (mark_alone sign c one)
    ∙ sym (ap (λ t. marks sign (cond t c (flat_map escaped c))) is)
signs_by sign c false one is =
    ap (λ t. cond t (mark sign c) (flat_map (λ (b : ℕ). four sign) c)) is
    ∙ sym (marks_escapes sign c)
    ∙ sym (ap (λ t. marks sign (cond t c (flat_map escaped c))) is)

pub signs_are_marks : (sign : List ℕ) (cs : List (List ℕ)) → AllByRecursion IsOne cs
    → flat_map (signs sign) cs ≡ marks sign (shown_text cs)
signs_are_marks sign [] all = refl
signs_are_marks sign (c ∷ cs) all =
    ap₂ (λ (x y : List ℕ). x ++ y) (signs_by sign c (is_plain c) all.0 refl) (signs_are_marks sign cs all.1)
    ∙ sym (marks_joined sign (shown c) (shown_text cs) (text_begins cs))

-- ---- carets below what is marked, and blanks before them

some_by : (b : ℕ) (bs : List ℕ) (t : Bool) → is_plain (b ∷ bs) ≡ t → 0 < length (shown (b ∷ bs))
some_by b bs true is = rw is (omega arith)
some_by b bs false is = rw is (omega arith)

some_text : (xs ys : List ℕ) → 0 < length xs → carets (xs ++ ys) ≡ marks (codes "^") (xs ++ ys)
some_text [] ys some = absurd (omega (arith, some))
some_text (x ∷ xs) ys some = refl

below_some : (characters : List (List ℕ)) (b : ℕ) (bs : List ℕ) (cs : List (List ℕ)) (most : ℕ)
    → characters ≡ (b ∷ bs) ∷ cs → 0 < most
    → carets (shown_text (take most characters)) ≡ marks (codes "^") (shown_text (take most characters))
below_some characters b bs cs zero are some = absurd (omega (arith, some))
below_some characters b bs cs (suc n) are some =
    ap (λ (xs : List (List ℕ)). carets (shown_text (take (suc n) xs))) are
    ∙ some_text (shown (b ∷ bs)) (shown_text (take n cs)) (some_by b bs (is_plain (b ∷ bs)) refl)
    ∙ sym (ap (λ (xs : List (List ℕ)). marks (codes "^") (shown_text (take (suc n) xs))) are)

pub some_carets : (bytes : List ℕ) (most : ℕ) → (length bytes == 0) ≡ false → 0 < most
    → carets (shown_text (take most (characters bytes))) ≡ marks (codes "^") (shown_text (take most (characters bytes)))
some_carets [] most none some = absurd cc
some_carets (b ∷ bs) most none some = below_some (characters (b ∷ bs)) b _ _ most (first_is b bs) some

pub below_cut : (cut : Bool) (cs : List (List ℕ))
    → marks (codes " ") (where_cut cut (codes "...") ++ shown_text cs)
    ≡ where_cut cut (codes "   ") ++ marks (codes " ") (shown_text cs)
below_cut true cs = marks_joined (codes " ") (codes "...") (shown_text cs) (text_begins cs)
below_cut false cs = refl

pub mark_line_is : (text due : List ℕ) (cut : Bool) (cs : List (List ℕ)) (next after : List ℕ)
    → next ≡ text ++ where_cut cut (codes "   ") → after ≡ next ++ marks (codes " ") (shown_text cs)
    → after ++ due ≡ text ++ (marks (codes " ") (where_cut cut (codes "...") ++ shown_text cs) ++ due)
mark_line_is text due cut cs next after a b =
    let blanks = marks (codes " ") (shown_text cs) in
    let spaces = where_cut cut (codes "   ") in
    ap (λ (t : List ℕ). t ++ due) (b ∙ ap (λ (t : List ℕ). t ++ blanks) a ∙ append_assoc text spaces blanks)
    ∙ append_assoc text (spaces ++ blanks) due
    ∙ ap (λ (t : List ℕ). text ++ (t ++ due)) (sym (below_cut cut cs))
