-- The code units between two places of a text, by those that are kept.
use Rattle.std.proofs.Common.{◌≡◌, ◌∙◌, refl, sym, ap, ℕ, ◌+◌, ◌-◌, ◌*◌, ◌<◌, ◌≤◌, ◌⊎◌, inl, inr, List, [], ◌∷◌, ◌++◌}
use Rattle.std.proofs.Common.{length, get_or, take, drop, arith}
use Rattle.std.specs.List.{sum_by}
use Rattle.std.proofs.Math.Seq.{take-add}
use Rattle.std.proofs.lemmas.Bool.{cases_lt}
use Rattle.std.proofs.lemmas.List.{get_or_default, get_or_append_left, get_or_push, length_push}
use Rattle.std.proofs.lemmas.List.Sums.{sum_by-append, sum_by-cons}
use Rattle.proto_lex.specs.Position.{code_units}
use Rattle.proto_lex.specs.Units.{AreUnits}
use Rattle.proto_lex.specs.declared.position.Encoding.{Encoding}
use Rattle.proto_lex.specs.declared.position.Encoding.TheVariants.{Utf8, Utf16}

-- those up to a place, and from there to another
pub units_on : (encoding : Encoding) (text : List ℕ) (start end : ℕ) → start ≤ end
    → sum_by (code_units encoding) (take start text)
    + sum_by (code_units encoding) (take (end - start) (drop start text))
    ≡ sum_by (code_units encoding) (take end text)
units_on encoding text start end order =
    let parts : end ≡ start + (end - start) = omega arith in
    sym (ap (λ n. sum_by (code_units encoding) (take n text)) parts
    ∙ (ap (sum_by (code_units encoding)) (take-add start (end - start) text)
    ∙ sum_by-append (code_units encoding) (take start text) (take (end - start) (drop start text))))

-- so many bytes are so many units in UTF-8
pub byte_units : (bytes : List ℕ) → sum_by (code_units Utf8) bytes ≡ length bytes
byte_units [] = refl
byte_units (byte ∷ others) = omega (arith, sum_by-cons (code_units Utf8) byte others, byte_units others)

-- those before a place, by those that are kept before it and those from there
pub units_by_mark : (text units : List ℕ) (offset mark before more : ℕ) → AreUnits text units → mark < length units
    → before ≡ get_or units mark before → mark * 1024 ≤ offset
    → more ≡ sum_by (code_units Utf16) (take (offset - mark * 1024) (drop (mark * 1024) text))
    → before + more ≡ sum_by (code_units Utf16) (take offset text)
units_by_mark text units offset mark before more are within is order counted =
    let kept : before ≡ sum_by (code_units Utf16) (take (mark * 1024) text) =
    is ∙ (get_or_default units mark before 0 within ∙ are mark within) in
    ap (λ n. n + more) kept ∙ (ap (λ n. sum_by (code_units Utf16) (take (mark * 1024) text) + n) counted
    ∙ units_on Utf16 text (mark * 1024) offset order)

-- those before the next mark
pub units_to_next : (text : List ℕ) (mark before more : ℕ) → before ≡ sum_by (code_units Utf16) (take (mark * 1024) text)
    → more ≡ sum_by (code_units Utf16) (take (mark * 1024 + 1024 - mark * 1024) (drop (mark * 1024) text))
    → before + more ≡ sum_by (code_units Utf16) (take ((mark + 1) * 1024) text)
units_to_next text mark before more kept counted =
    let start = mark * 1024 in
    let there : start + 1024 ≡ (mark + 1) * 1024 = omega arith in
    ap (λ n. n + more) kept ∙ (ap (λ n. sum_by (code_units Utf16) (take start text) + n) counted
    ∙ (units_on Utf16 text start (start + 1024) (omega arith)
    ∙ ap (λ n. sum_by (code_units Utf16) (take n text)) there))

-- one more is kept
pub units_pushed : (text units : List ℕ) (next : ℕ) → AreUnits text units
    → next ≡ sum_by (code_units Utf16) (take (length units * 1024) text) → AreUnits text (units ++ next ∷ [])
units_pushed text units next are is = λ mark within. by mark within (cases_lt mark (length units))
  where
    by : (mark : ℕ) → mark < length (units ++ next ∷ []) → (mark < length units) ⊎ (length units ≤ mark)
        → get_or (units ++ next ∷ []) mark 0 ≡ sum_by (code_units Utf16) (take (mark * 1024) text)
    by mark within (inl before) = get_or_append_left units (next ∷ []) 0 mark before ∙ are mark before
    by mark within (inr past) =
        let last : length units ≡ mark = omega (arith, length_push units next) in
        get_or_push units next 0 mark last ∙ (is ∙ ap (λ n. sum_by (code_units Utf16) (take (n * 1024) text)) last)
