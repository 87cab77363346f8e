use Rattle.std.proofs.Common.{List, ℕ, map, refl, string_bytes}
use Rattle.std.specs.Borrow.{Bor}
use Rattle.source_files.proofs.ExclusionLemmas.{ahead_excluded, behind_excluded, here_excluded}
use Rattle.source_files.proofs.excluding.has_excluded.Goals as goal

pub returns-then-branch : goal.returns-then-branch
returns-then-branch c =
    let patterns = map string_bytes c.args.patterns.now in
    let f : Bor (List ℕ) → List ℕ = λ name. name.now in (
      (λ t. c.loop-rest.invariant.0 (here_excluded patterns f c.loop-rest.rest.now _ (string_bytes c.loop-rest.folder) _
          c.in-len1-up.len_at_least c.as_str.ensures.value (c.in_ok-is_excluded.ensures.0 c.if-branch.true))),
      (λ excluded. refl),
    )

pub loop-rest-preserved : goal.loop-rest-preserved
loop-rest-preserved c =
    let patterns = map string_bytes c.args.patterns.now in
    let folder = string_bytes c.loop-rest.folder in
    let f : Bor (List ℕ) → List ℕ = λ name. name.now in (
      (λ behind. c.loop-rest.invariant.0 (behind_excluded patterns f c.loop-rest.rest.now _ folder _
          c.in-len1-up.len_at_least c.in_ok-push_folder.ensures behind)),
      (λ all. ahead_excluded patterns f c.loop-rest.rest.now _ folder _ _ _ c.in-len1-up.len_at_least
          c.as_str.ensures.value c.in_ok-is_excluded.ensures c.if-branch.false c.in_ok-push_folder.ensures
          (c.loop-rest.invariant.1 all)),
    )
