-- Decimal digits in a page.
use Rattle.std.proofs.Common.{◌≡◌, ◌∙◌, sym, refl, ap, ℕ, ◌+◌, ◌%◌, ◌^◌, ◌<◌, List, [], ◌∷◌, ◌++◌}
use Rattle.std.proofs.Common.{arith, append_assoc}
use Rattle.std.specs.Prelude.{codes}
use Rattle.std.specs.Fmt.{decimal}
use Rattle.std.proofs.lemmas.Bool.{ne_eqb}
use Rattle.std.proofs.lemmas.Fmt.{decimal_by_steps}
use Rattle.std.proofs.lemmas.Grind.{flat_map-append}
use Rattle.scip_pages.specs.Escapes.{escape, escape_byte}
use Rattle.scip_pages.specs.Code.{mark, line_mark}
use Rattle.scip_pages.proofs.EscapeLemmas.{plain_byte}

-- a digit is written as it is
digit_byte : (d : ℕ) → d < 10 → escape_byte (48 + d) ≡ (48 + d) ∷ []
digit_byte d small =
    plain_byte (48 + d)
    (rw (
      ne_eqb (48 + d) 38 (λ e. omega (arith, e)),
      ne_eqb (48 + d) 60 (λ e. omega (arith, e, small)),
      ne_eqb (48 + d) 62 (λ e. omega (arith, e, small)),
      ne_eqb (48 + d) 34 (λ e. omega (arith, e)),
      ne_eqb (48 + d) 39 (λ e. omega (arith, e)),
      ne_eqb (48 + d) 13 (λ e. omega (arith, e)),
      ne_eqb (48 + d) 0 (λ e. omega (arith, e)),
    ) refl)

-- so are all digits of a number
pub escape_decimal : (n : ℕ) → n < 2 ^ 64 → escape (decimal n) ≡ decimal n
escape_decimal n small =
    decimal_by_steps (λ (m : ℕ) (ds : List ℕ). escape ds ≡ ds)
    (λ m l. ap (λ (c : List ℕ). c ++ []) (digit_byte m l))
    (λ m ds l h. flat_map-append escape_byte ds ((48 + m % 10) ∷ [])
    ∙ ap (λ (front : List ℕ). front ++ (escape_byte (48 + m % 10) ++ [])) h
    ∙ ap (λ (c : List ℕ). ds ++ (c ++ [])) (digit_byte (m % 10) (omega arith)))
    n small

-- the place of a line behind a page
pub line_mark_behind : (page : List ℕ) (n : ℕ) → n < 2 ^ 64
    → ((page ++ codes "<a id=\"L") ++ decimal n) ++ codes "\"></a>" ≡ page ++ line_mark n
line_mark_behind page n small =
    let open_ : List ℕ = codes "<a id=\"L" in
    let end : List ℕ = codes "\"></a>" in
    append_assoc (page ++ open_) (decimal n) end ∙ append_assoc page open_ (decimal n ++ end)
    ∙ ap (λ (l : List ℕ). page ++ l) (sym (whole n small))
  where
    marked : List ℕ → List ℕ
    marked digits =
        mark (codes "a" ++ (codes " " ++ codes "id" ++ codes "=\"" ++ (76 ∷ digits) ++ codes "\"")) ++ mark (codes "/a")

    assoc : (digits : List ℕ) → marked digits ≡ codes "<a id=\"L" ++ (digits ++ codes "\"></a>")
    assoc digits =
        ap (λ (l : List ℕ). codes "<a id=\"L" ++ l)
        (append_assoc (digits ++ codes "\"") (codes ">") (mark (codes "/a"))
        ∙ append_assoc digits (codes "\"") (codes ">" ++ mark (codes "/a")))

    whole : (n : ℕ) → n < 2 ^ 64 → line_mark n ≡ codes "<a id=\"L" ++ (decimal n ++ codes "\"></a>")
    whole n small = ap marked (escape_decimal n small) ∙ assoc (decimal n)
