use Rattle.std.proofs.Common.{rules, ◌≡◌, IsTrue, arith, not, subst}
use Rattle.std.proofs.lemmas.Grind.{common_steps}
use Rattle.source_files.specs.Unread.{Unread, unread_of}
use Rattle.source_files.proofs.UnreadEntryLemmas.{root_is}
use Rattle.source_files.proofs.walk.is_root.Goals as goal

pub returns-then-is_none : goal.returns-then-is_none
returns-then-is_none c =
    subst (λ (root : Unread). (IsTrue (not c.args.entry.now.has_bad_path) → unread_of c.args.entry.now ≡ root)
    × (unread_of c.args.entry.now ≡ root → IsTrue (not c.args.entry.now.has_bad_path))) root_is (grind (arith, common_steps))

pub returns-else-is_none : goal.returns-else-is_none
returns-else-is_none c =
    subst (λ (root : Unread). (IsTrue c.if-is_empty-2.value → unread_of c.args.entry.now ≡ root)
    × (unread_of c.args.entry.now ≡ root → IsTrue c.if-is_empty-2.value)) root_is (search rules)
