-- Texts whose first bytes are written as they are.
use Rattle.std.proofs.Common.{◌≡◌, ◌∙◌, sym, refl, ap, ℕ, ◌+◌, Bool, true, false, List, [], ◌∷◌, ◌++◌, take, drop}
use Rattle.std.proofs.Common.{arith, append_assoc, suc}
use Rattle.std.specs.List.{flat_map, prefix_len}

module _ (code : ℕ → List ℕ) (test : ℕ → Bool) (same : (b : ℕ) → test b ≡ true → code b ≡ b ∷ []) where
  one_more : (n : ℕ) → 1 + n ≡ suc n
  one_more n = omega arith

  -- what a text is written as: its first bytes, and what the others are written as
  pub plain_front : (text : List ℕ)
      → flat_map code text ≡ take (prefix_len test text) text ++ flat_map code (drop (prefix_len test text) text)
  plain_front [] = refl
  plain_front (byte ∷ text) = by (test byte) refl (plain_front text)
    where
      by : (b : Bool) → test byte ≡ b
          → flat_map code text ≡ take (prefix_len test text) text ++ flat_map code (drop (prefix_len test text) text)
          → flat_map code (byte ∷ text)
          ≡ take (prefix_len test (byte ∷ text)) (byte ∷ text)
          ++ flat_map code (drop (prefix_len test (byte ∷ text)) (byte ∷ text))
      by true passes others =
          rw (passes, one_more (prefix_len test text), same byte passes) (ap (λ (l : List ℕ). byte ∷ l) others)
      by false fails others = rw fails refl

  -- behind a page
  pub front_and_behind : (page text : List ℕ) (n : ℕ) → n ≡ prefix_len test text
      → (page ++ take n text) ++ flat_map code (drop n text) ≡ page ++ flat_map code text
  front_and_behind page text n is =
      append_assoc page (take n text) (flat_map code (drop n text))
      ∙ ap (λ (k : ℕ). page ++ (take k text ++ flat_map code (drop k text))) is
      ∙ ap (λ (l : List ℕ). page ++ l) (sym (plain_front text))
