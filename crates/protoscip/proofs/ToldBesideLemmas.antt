-- What is told beside what couldn't be read.
use Rattle.std.proofs.Common.{◌≡◌, ◌∙◌, ℕ, ◌<◌, ◌≤◌, ◌+◌, List, [], ◌∷◌, ◌++◌, length, take, get_or, ap, sym, cond}
use Rattle.std.proofs.Common.{arith}
use Rattle.std.specs.List.{count_by, filter}
use Rattle.std.specs.List.Sorted.{IsStrictlySortedBy}
use Rattle.std.proofs.lemmas.List.Elements.{All-filter, filter_more}
use Rattle.std.proofs.lemmas.List.Kept.{IsStrictlySortedBy-filter}
use Rattle.source_tree.specs.Files.{TreeFile}
use Rattle.scip_build.specs.Kept.{told_cmp}
use Rattle.scip_build.specs.declared.omission.Omission.{Omission}
use Rattle.protoscip.specs.FaultLines.{HasFilesOf, HaveFilesOf}
use Rattle.protoscip.specs.Faults.{fault_of_omission}
use Rattle.protoscip.specs.ToldLines.{is_left_beside, is_read, is_skipped, is_skipped_read, told_beside}
use Rattle.protoscip.specs.Unread.{PathUnread}

pub read_more : (all now next : List Omission) (at : ℕ) (d : Omission) → at < length all
    → now ≡ filter is_read (take at all)
    → next ≡ now ++ cond (is_read (get_or all at d)) (get_or all at d ∷ []) []
    → next ≡ filter is_read (take (at + 1) all)
read_more all now next at d within so is =
    let more : List Omission = cond (is_read (get_or all at d)) (get_or all at d ∷ []) [] in
    is ∙ (ap (λ l. l ++ more) so ∙ sym (filter_more is_read all at d within))

pub read_have : (tree : List TreeFile) (told : List Omission) → HaveFilesOf tree told
    → HaveFilesOf tree (filter is_read told)
read_have tree told have = All-filter is_read (λ o. HasFilesOf tree (fault_of_omission o)) told have

pub beside_have : (tree : List TreeFile) (unread : List PathUnread) (told : List Omission) → HaveFilesOf tree told
    → HaveFilesOf tree (told_beside unread told)
beside_have tree [] told have = have
beside_have tree (first ∷ others) told have = read_have tree told have

pub beside_rises : (unread : List PathUnread) (told : List Omission) → IsStrictlySortedBy told_cmp told
    → IsStrictlySortedBy told_cmp (told_beside unread told)
beside_rises [] told rising = rising
beside_rises (first ∷ others) told rising = IsStrictlySortedBy-filter told_cmp is_read told rising

-- ---- beside nothing, or something

pub counts_all : (unread : List PathUnread) (told : List Omission) (count : ℕ) → length unread ≡ 0
    → count ≡ count_by is_skipped told → count ≡ count_by (is_left_beside unread) told
counts_all [] told count none is = is
counts_all (first ∷ others) told count none is = absurd (omega (arith, none))

pub counts_read : (unread : List PathUnread) (told : List Omission) (count : ℕ) → 1 ≤ length unread
    → count ≡ count_by is_skipped_read told → count ≡ count_by (is_left_beside unread) told
counts_read [] told count some is = absurd (omega (arith, some))
counts_read (first ∷ others) told count some is = is
