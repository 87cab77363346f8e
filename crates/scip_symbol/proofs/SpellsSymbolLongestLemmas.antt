-- Where the reader stops, the longest prefix of the text that begins some symbol's spelling ends.
use Rattle.std.proofs.Common.{◌≡◌, ℕ, zero, suc, ◌+◌, ◌-◌, ◌<◌, ◌≤◌, inl, inr, Err, List, [], ◌∷◌, ◌++◌, length, take}
use Rattle.std.proofs.Common.{refl, ap, sym, ◌∙◌, subst, arith, append_assoc, length-append}
use Rattle.std.proofs.Math.Seq.{take-append_seam}
use Rattle.std.proofs.lemmas.Bool.{cases_lt}
use Rattle.scip_symbol.specs.LongestPrefix.{BeginsSymbol, IsLongestPrefix}
use Rattle.scip_symbol.specs.SpellsSymbol.{SpellsSymbol}
use Rattle.scip_symbol.specs.Reading.{symbol_at}
use Rattle.scip_symbol.specs.declared.symbol.SymbolParts.{SymbolParts}
use Rattle.scip_symbol.proofs.SymbolLemmas.{unspelled}
use Rattle.scip_symbol.proofs.ReadingLocalLemmas.{StopsAt}
use Rattle.scip_symbol.proofs.ReadingStopLemmas.{symbol-stuck}
use Rattle.scip_symbol.proofs.SpellsBeginLemmas.{Begins}
use Rattle.scip_symbol.proofs.SpellsSymbolBeginLemmas.{symbol-begins}

begun : (front : List ℕ) → Begins SpellsSymbol front → BeginsSymbol front
begun front b = record { behind = b.behind; is_text = b.is_text; symbol = b.value; spelled = b.spelled }

-- a front that is longer takes the next byte in
longer : (front : List ℕ) (b : ℕ) (rest : List ℕ) (n : ℕ) → length front < n
    → (more : List ℕ) × (take n (front ++ (b ∷ rest)) ≡ front ++ (b ∷ more))
longer [] b rest zero h = absurd (omega arith)
longer [] b rest (suc n) h = (take n rest, refl)
longer (x ∷ front) b rest zero h = absurd (omega arith)
longer (x ∷ front) b rest (suc n) h = let more = longer front b rest n (omega arith) in (more.0, ap (λ l. x ∷ l) more.1)

no-longer : {P : Type 0} (text : List ℕ) (left n : ℕ) (behind : List ℕ) (symbol : SymbolParts)
    → StopsAt symbol_at text left → length text < n + left → SpellsSymbol (take n text ++ behind) symbol → P
no-longer text left n behind symbol s h spelled =
    let more = longer s.front s.b s.rest n
    (omega (arith, ap length s.split, length-append s.front (s.b ∷ s.rest), s.count)) in
    let whole : take n text ++ behind ≡ s.front ++ (s.b ∷ (more.0 ++ behind)) =
    ap (λ l. take n l ++ behind) s.split ∙ ap (λ l. l ++ behind) more.1
    ∙ append_assoc s.front (s.b ∷ more.0) behind in
    unspelled (s.front ++ (s.b ∷ (more.0 ++ behind))) (length (s.b ∷ (more.0 ++ behind))) symbol
    (s.always (more.0 ++ behind))
    (subst (λ l. SpellsSymbol l symbol) whole spelled)

none-longer : (text : List ℕ) (left : ℕ) → symbol_at text ≡ Err left → (n : ℕ) (behind : List ℕ) (symbol : SymbolParts)
    → n ≤ length text → SpellsSymbol (take n text ++ behind) symbol → n + left ≤ length text
none-longer text zero e n behind symbol h spelled = omega arith
none-longer text (suc k) e n behind symbol h spelled = elim (cases_lt (length text) (n + suc k)) [
  | inl beyond ↦ no-longer text (suc k) n behind symbol (symbol-stuck text (suc k) e (omega arith)) beyond
      spelled
  | inr within ↦ within
]

pub longest-prefix : (text : List ℕ) (left : ℕ) → symbol_at text ≡ Err left
    → IsLongestPrefix text (length text - left)
longest-prefix text left e =
    let s = symbol-begins text left e in
    let count : length text ≡ length s.front + left =
    omega (arith, ap length s.split, length-append s.front s.rest, s.count) in
    let cut : length text - left ≡ length s.front = omega arith in
    let taken : take (length text - left) text ≡ s.front =
    ap (λ k. take k text) cut ∙ ap (take (length s.front)) s.split ∙ take-append_seam s.front s.rest in
    record {
      within = omega arith;
      begins = subst BeginsSymbol (sym taken) (begun s.front s.begins);
      longest = λ n behind symbol h spelled. omega (arith, none-longer text left e n behind symbol h spelled);
    }
