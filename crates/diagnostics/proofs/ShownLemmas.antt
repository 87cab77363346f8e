-- Which bytes stand as they are.
use Rattle.std.proofs.Common.{◌≡◌, ap, ap₂, refl, List, ℕ, Bool, true, false, not, ◌&&◌}
use Rattle.std.specs.List.{list_any}
use Rattle.std.specs.Str.{IsUtf8, is_utf8, chars}
use Rattle.std.proofs.lemmas.Str.{IsUtf8-from_is_utf8, is_utf8-from_IsUtf8}
use Rattle.diagnostics.specs.Shown.{is_obeyed, is_plain}

pub stands : (c : List ℕ) (obeyed : Bool) → IsUtf8 c → list_any is_obeyed (chars c) ≡ obeyed → is_plain c ≡ not obeyed
stands c obeyed utf8 is = ap₂ (λ a b. a && not b) (is_utf8-from_IsUtf8 c utf8) is

pub no_text : (c : List ℕ) → (IsUtf8 c → ⊥) → is_plain c ≡ false
no_text c refused = by (is_utf8 c) refl
  where
    by : (b : Bool) → is_utf8 c ≡ b → is_plain c ≡ false
    by true e = absurd (refused (IsUtf8-from_is_utf8 c e))
    by false e = ap (λ a. a && not (list_any is_obeyed (chars c))) e
