-- What is to be said of an index, by what it lacks.
use Rattle.std.proofs.Common.{◌≡◌, ◌∙◌, ◌+◌, ◌-◌, ◌++◌, ℕ, suc, true, false, List, [], ◌∷◌, Option, Some, None}
use Rattle.std.proofs.Common.{length, ◌==◌, ◌&&◌, ap, refl, arith}
use Rattle.std.specs.List.{count_by}
use Rattle.basics.proofs.TestLemmas.{never_zero as no_items, first_holds}
use Rattle.proto_parse.specs.dialect.Dialect.{Dialect}
use Rattle.source_tree.specs.Files.{TreeFile}
use Rattle.source_tree.specs.Trees.{IsSourceCount}
use Rattle.scip_build.specs.declared.omission.Omission.{Omission}
use Rattle.protoscip.specs.ToldLines.{IsTextOfAllOmissions, IsToldText, IsToldTextWith, is_import, is_skipped}
use Rattle.protoscip.specs.Unread.{PathUnread}
use Rattle.protoscip.specs.ToldLines.{is_skipped_source, is_use, numbers_line}

-- where all could be read, the text is that of what an index lacks
pub all_read : (explain : Option Dialect) (tree : List TreeFile) (sources : ℕ) (told : List Omission) (text : List ℕ)
    → IsToldTextWith explain tree sources [] told text → IsToldText explain tree sources told text
all_read explain tree sources told text is =
    let skipped = count_by is_skipped told in
    let none : 0 + skipped ≡ skipped = omega arith in (
      is.0,
      is.1,
      is.2 ∙ ap (λ (n : ℕ). is.0 ++ numbers_line (sources - count_by (is_skipped_source sources) told) n
          (count_by is_import told) (count_by is_use told)) none,
    )

module _ (explain : Option Dialect) (tree : List TreeFile) where
  -- it lacks nothing
  pub nothing : (unread : List PathUnread) (told : List Omission) → (length unread == 0 && length told == 0) ≡ true
      → IsTextOfAllOmissions explain tree unread told None
  nothing [] [] none = refl
  nothing [] (first ∷ others) none = absurd (no_items (length others) none)
  nothing (path ∷ unread) told none =
      absurd (no_items (length unread) (first_holds (suc (length unread) == 0) (length told == 0) none))

  -- it lacks something
  pub something : (unread : List PathUnread) (told : List Omission) (text : List ℕ)
      → (length unread == 0 && length told == 0) ≡ false
      → ((sources : ℕ) × IsSourceCount tree sources
      × IsToldTextWith explain tree sources unread told text)
      → IsTextOfAllOmissions explain tree unread told (Some text)
  something [] [] text some is = absurd cc
  something [] (first ∷ others) text some is =
      (is.0, is.1, (text, all_read explain tree is.0 (first ∷ others) text is.2, refl))
  something (path ∷ unread) told text some is = (is.0, is.1, (text, is.2, refl))
