-- Texts that are shown where a pointer hovers.
use Rattle.std.specs.Prelude.{ℕ, zero, suc, cond, nat_le, List, [], ◌∷◌, ◌++◌, length, take, drop}
use Rattle.scip_pages.specs.Columns.{is_uncut}

-- the most bytes of such a text that are shown
abbrev pub max_hover : ℕ
max_hover = 4096

-- the last offset of a text, up to this one, that cuts no character
unfoldable pub uncut_end : (text : List ℕ) → ℕ → ℕ
uncut_end text zero = zero
uncut_end text (suc most) = cond (is_uncut (drop (suc most) text)) (suc most) (uncut_end text most)

-- an ellipsis, U+2026, in UTF-8
abbrev pub ellipsis : List ℕ
ellipsis = 226 ∷ (128 ∷ (166 ∷ []))

-- A longer text is cut between two characters, and an ellipsis shows that there is more.
abbrev pub shortened : List ℕ → List ℕ
shortened text =
    cond (nat_le (length text) max_hover) text (take (uncut_end text max_hover) text ++ ellipsis)
