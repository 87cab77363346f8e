-- Lookup along scopes.
use Rattle.std.proofs.Common.{◌≡◌, ◌↔◌, ℕ, ◌+◌, Bool, List, [], length, Option, Some, None, MatchOption}
use Rattle.std.proofs.Common.{subst}
use Rattle.proto_decl.specs.Names.{qualified, IsAround}
use Rattle.proto_decl.proofs.ScopeLemmas.{one_around, none_around_root}
use denote.Ref.{Bor}
use Rattle.proto_visibility.specs.Files.{File}
use Rattle.proto_visibility.specs.Knows.{NameKind, KnowsAs}
use Rattle.proto_link.specs.Resolves.{Innermost}
use Rattle.proto_link.specs.Resolves.Innermost.{here, farther}

module _ (files : List File) (file : ℕ) (admits : NameKind → Bool) (word : List ℕ) where
  -- what is left to look through answers for all of the scopes
  abbrev pub StandsFor : (next : Option (Bor (List ℕ))) → (scope : List ℕ) → Type 0
  StandsFor next scope = MatchOption next
      ((start : List ℕ) → Innermost files file admits word scope start → ⊥)
      (λ s. (start : List ℕ) → Innermost files file admits word s.now start
      ↔ Innermost files file admits word scope start)

  pub stands_first : (scope : List ℕ) → (start : List ℕ) → Innermost files file admits word scope start
      ↔ Innermost files file admits word scope start
  stands_first scope start = (λ i. i, λ i. i)

  behind : (scope outer start : List ℕ) → (KnowsAs files file admits (qualified scope word) → ⊥)
      → IsAround scope outer → Innermost files file admits word scope start
      → Innermost files file admits word outer start
  behind scope outer start not is (here known) = absurd (not known)
  behind scope outer start not is (farther absent also rest) =
      subst (λ (o : List ℕ). Innermost files file admits word o start) (one_around also is) rest

  none_at_root : (scope start : List ℕ) → scope ≡ [] → (KnowsAs files file admits (qualified scope word) → ⊥)
      → Innermost files file admits word scope start → ⊥
  none_at_root scope start root not (here known) = not known
  none_at_root scope start root not (farther {outer = outer} absent is rest) =
      none_around_root (subst (λ (s : List ℕ). IsAround s outer) root is)

  pub stands_next : (scope inner : List ℕ) (around : Option (Bor (List ℕ)))
      → (KnowsAs files file admits (qualified inner word) → ⊥)
      → MatchOption around (inner ≡ []) (λ outer. IsAround inner outer.now)
      → ((start : List ℕ) → Innermost files file admits word inner start
      ↔ Innermost files file admits word scope start) → StandsFor around scope
  stands_next scope inner None not root so_far = λ start i. none_at_root inner start root not ((so_far start).1 i)
  stands_next scope inner (Some outer) not is so_far = λ start. (
    λ i. (so_far start).0 (farther not is i),
    λ i. behind inner outer.now start not is ((so_far start).1 i),
  )

-- how much is left to look through
abbrev pub left : Option (Bor (List ℕ)) → ℕ
left None = 0
left (Some s) = length s.now + 1
