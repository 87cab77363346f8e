-- What a name in parentheses or in brackets is looked up as: from what is found in scopes.
use Rattle.std.proofs.Common.{◌≡◌, ℕ, ◌<◌, ◌≤◌, Bool, true, false, List, [], ◌∷◌, length, map, get_or, Option}
use Rattle.std.proofs.Common.{MatchOption, refl, sym, subst, arith}
use denote.Ref.{Bor}
use Rattle.proto_decl.specs.Names.{qualified, dotted}
use Rattle.proto_visibility.specs.Files.{File}
use Rattle.proto_visibility.specs.Knows.{is_aggregate}
use Rattle.proto_link.specs.Resolves.{Innermost}
use Rattle.option_link.specs.Lookups.{is_any}
use Rattle.option_link.specs.Tables.{AreSeveral}
use Rattle.option_link.specs.Lookups.{LooksFor}
use Rattle.option_link.specs.Lookups.LooksFor.{absolute, single, compound}
use Rattle.option_link.proofs.WordLemmas.{now}

-- ---- where there is none

module _ (files : List File) (file : ℕ) (from : List ℕ) where
  pub no_words : (has_dot : Bool) (words : List (Bor (List ℕ))) → has_dot ≡ false → length words < 1
      → (name : List ℕ) → LooksFor files file has_dot (map now words) from name → ⊥
  no_words has_dot [] plain few name l = none name
      (subst (λ (dot : Bool). LooksFor files file dot [] from name) plain l)
    where
      none : (text : List ℕ) → LooksFor files file false [] from text → ⊥
      none text x = elim x [ ]
  no_words has_dot (w ∷ ws) plain few name l = absurd (omega (arith, few))

  pub single_none : (word : List ℕ) → ((start : List ℕ) → Innermost files file is_any word from start → ⊥)
      → (name : List ℕ) → LooksFor files file false (word ∷ []) from name → ⊥
  single_none word none _ (single {scope = scope} innermost) = none scope innermost

  pub compound_none : (first second : List ℕ) (others : List (List ℕ))
      → ((start : List ℕ) → Innermost files file is_aggregate first from start → ⊥)
      → (name : List ℕ) → LooksFor files file false (first ∷ (second ∷ others)) from name → ⊥
  compound_none first second others none _ (compound {scope = scope} innermost) = none scope innermost

-- ---- what is given

module _ {S : Type 0} (files : List File) (file : ℕ) (bytes : S → List ℕ) (from : List ℕ) where
  -- what is found is the one answer
  abbrev pub Answers : Option S → (has_dot : Bool) → (words : List (List ℕ)) → Type 0
  Answers result has_dot words =
      MatchOption result ((name : List ℕ) → LooksFor files file has_dot words from name → ⊥)
      (λ name. LooksFor files file has_dot words from (bytes name))

module _ (files : List File) (file : ℕ) (from : List ℕ) where
  pub absolute_by : (words : List (List ℕ)) (text : List ℕ) → text ≡ dotted words
      → LooksFor files file true words from text
  absolute_by words text is = subst (LooksFor files file true words from) (sym is) absolute

  pub single_by : (word start text : List ℕ) → Innermost files file is_any word from start
      → text ≡ qualified start word → LooksFor files file false (word ∷ []) from text
  single_by word start text innermost is =
      subst (LooksFor files file false (word ∷ []) from) (sym is) (single innermost)

  pub compound_by : (first second : List ℕ) (others : List (List ℕ)) (start text : List ℕ)
      → Innermost files file is_aggregate first from start
      → text ≡ qualified start (dotted (first ∷ (second ∷ others)))
      → LooksFor files file false (first ∷ (second ∷ others)) from text
  compound_by first second others start text innermost is =
      subst (LooksFor files file false (first ∷ (second ∷ others)) from) (sym is) (compound innermost)

pub several_of : (words : List (Bor (List ℕ))) (d : Bor (List ℕ)) → 2 ≤ length words
    → AreSeveral (get_or words 0 d).now (map now words)
several_of [] d many = absurd (omega (arith, many))
several_of (w ∷ []) d many = absurd (omega (arith, many))
several_of (w ∷ (v ∷ ws)) d many = (v.now, map now ws, refl)
