-- The lines that a loop appends, one after another.
use Rattle.std.proofs.Common.{◌≡◌, ◌∙◌, ℕ, ◌<◌, ◌≤◌, ◌+◌, List, [], ◌++◌, length, drop, get_or, ap, sym, refl}
use Rattle.std.proofs.Common.{subst, append_assoc, Option}
use Rattle.std.proofs.lemmas.List.{append-nil, drop_all, drop_more}
use Rattle.proto_parse.specs.dialect.Dialect.{Dialect}
use Rattle.source_tree.specs.Files.{TreeFile}
use Rattle.scip_build.specs.declared.omission.Omission.{Omission}
use Rattle.protoscip.specs.ToldLines.{AreLines, IsEndedLine}

module _ (explain : Option Dialect) (tree : List TreeFile) (told : List Omission) (old : List ℕ) where
  -- what is appended so far, and with those of the others all lines
  abbrev pub SoFar : (now : List ℕ) → (at : ℕ) → Type 0
  SoFar now at =
      (so_far : List ℕ) × (now ≡ old ++ so_far)
      × ((rest : List ℕ) → AreLines explain tree (drop at told) rest → AreLines explain tree told (so_far ++ rest))

  pub none_so_far : SoFar old 0
  none_so_far = ([], sym (append-nil old), λ rest are. are)

  pub one_more : (now next : List ℕ) (at : ℕ) (omission : Omission) → at < length told → SoFar now at
      → ((line : List ℕ) × IsEndedLine explain tree (get_or told at omission) line × (next ≡ now ++ line))
      → SoFar next (at + 1)
  one_more now next at omission within so is =
      let lines = so.0 ++ is.0 in (
        lines,
        is.2 ∙ ap (λ (t : List ℕ). t ++ is.0) so.1 ∙ append_assoc old so.0 is.0,
        λ rest are.
            let both : AreLines explain tree (drop at told) (is.0 ++ rest) =
            subst (λ (omissions : List Omission). AreLines explain tree omissions (is.0 ++ rest))
            (sym (drop_more told at omission within)) (is.0, rest, is.1, are, refl) in
            subst (AreLines explain tree told) (sym (append_assoc so.0 is.0 rest)) (so.2 (is.0 ++ rest) both),
      )

  pub all_lines : (now : List ℕ) (at : ℕ) → length told ≤ at → SoFar now at
      → (lines : List ℕ) × AreLines explain tree told lines × (now ≡ old ++ lines)
  all_lines now at end so =
      let none : AreLines explain tree (drop at told) [] =
      subst (λ (omissions : List Omission). AreLines explain tree omissions []) (sym (drop_all at told end)) refl in (
        so.0,
        subst (AreLines explain tree told) (append-nil so.0) (so.2 [] none),
        so.1,
      )
