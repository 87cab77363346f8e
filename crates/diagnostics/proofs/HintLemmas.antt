-- What is put behind what is found.
use Rattle.std.proofs.Common.{◌≡◌, ◌∙◌, ap, sym, ℕ, ◌-◌, ◌<◌, ◌≤◌, Bool, true, false, List, [], ◌∷◌, ◌++◌, length, map}
use Rattle.std.proofs.Common.{take, drop, get_or, subst, arith, append_assoc}
use Rattle.std.specs.Borrow.{Bor}
use Rattle.std.proofs.lemmas.List.{append-nil, take_all}
use Rattle.diagnostics.specs.Appended.{Adds, with_it}
use Rattle.diagnostics.specs.Candidates.{signs, number, whole_numbers, literal, versions, name, words}
use Rattle.diagnostics.specs.Hints.{AreHints, OfKind, Standing, none, stays, goes}

-- the texts of candidates
abbrev pub texts : List (Bor (List ℕ)) → List (List ℕ)
texts candidates = map (λ (s : Bor (List ℕ)). s.now) candidates

module _ (Could : List ℕ → Bool → Type 0) where
  -- ---- those of a list

  module _ (all before : List (List ℕ)) where
    -- what is kept so far, and behind it what is kept of the rest, is kept of all
    abbrev pub SoFar : (rest now : List (List ℕ)) → Type 0
    SoFar rest now =
        (kept : List (List ℕ)) × (now ≡ before ++ kept)
        × ((more : List (List ℕ)) → Standing Could rest more → Standing Could all (kept ++ more))

    pub none_kept : SoFar all before
    none_kept = ([], sym (append-nil before), λ more are. are)

    one_more : (spelling : List ℕ) (others now next : List (List ℕ)) → SoFar (spelling ∷ others) now
        → (could : Bool) → Could spelling could → next ≡ with_it could spelling now → SoFar others next
    one_more spelling others now next so true could is = (
      so.0 ++ spelling ∷ [],
      is ∙ ap (λ (t : List (List ℕ)). t ++ spelling ∷ []) so.1 ∙ append_assoc before so.0 (spelling ∷ []),
      λ more are. subst (Standing Could all) (sym (append_assoc so.0 (spelling ∷ []) more))
          (so.2 (spelling ∷ more) (stays could are)),
    )
    one_more spelling others now next so false could is = (so.0, is ∙ so.1, λ more are. so.2 more (goes could are))

    -- the first is taken from the front
    pub after_first : (rest : List (Bor (List ℕ))) (blank : Bor (List ℕ)) (now next : List (List ℕ))
        → 1 ≤ length rest → SoFar (texts rest) now
        → ((could : Bool) × Could (get_or rest 0 blank).now could
        × (next ≡ with_it could (get_or rest 0 blank).now now))
        → SoFar (texts (take (length rest - 1) (drop 1 rest))) next
    after_first [] blank now next some so is = absurd (omega (arith, some))
    after_first (s ∷ others) blank now next some so is =
        subst (λ (l : List (Bor (List ℕ))). SoFar (texts l) next)
        (sym (take_all (length (s ∷ others) - 1) others (omega arith)))
        (one_more s.now (texts others) now next so is.0 is.1 is.2)

    -- none is left
    pub all_kept : (rest : List (Bor (List ℕ))) (now : List (List ℕ)) → length rest < 1 → SoFar (texts rest) now
        → Adds (Standing Could all) before now
    all_kept [] now end so = (so.0, subst (Standing Could all) (append-nil so.0) (so.2 [] none), so.1)
    all_kept (s ∷ others) now end so = absurd (omega (arith, end))

  -- ---- kind by kind

  pub all_kinds : (first second third last : List (List ℕ)) → Adds (Standing Could signs) [] first
      → Adds (OfKind Could number whole_numbers) first second → Adds (OfKind Could literal versions) second third
      → Adds (OfKind Could name words) third last → AreHints Could last
  all_kinds first second third last a b c d = record {
    of_signs = a.0;
    signs_are = a.1;
    of_numbers = b.0;
    numbers_are = b.1;
    of_literals = c.0;
    literals_are = c.1;
    of_names = d.0;
    names_are = d.1;
    all_are =
        d.2
        ∙ ap (λ (t : List (List ℕ)). t ++ d.0)
        (c.2 ∙ ap (λ (t : List (List ℕ)). t ++ c.0) (b.2 ∙ ap (λ (t : List (List ℕ)). t ++ b.0) a.2));
  }
