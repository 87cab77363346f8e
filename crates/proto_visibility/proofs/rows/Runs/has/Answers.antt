use Rattle.std.proofs.Common.{◌≡◌, ◌↔◌, IsTrue, List, ℕ, Some, None, true, false, rules, ltb, leb, ap, subst, sym, ◌∙◌}
use Rattle.std.specs.List.{Contains, slice_get}
use Rattle.std.specs.List.Sorted.{IsPartitionPoint}
use Rattle.std.proofs.lemmas.Bool.{false≢true}
use Rattle.std.proofs.lemmas.List.Sorted.{IsPartitionPoint-from_clause, IsPartitionedBy-ltb}
use Rattle.proto_visibility.specs.declared.rows.Run.{Run}
use Rattle.proto_visibility.proofs.RowRunLemmas.{run_has, no_run_has}
use Rattle.proto_visibility.proofs.rows.Runs.has.Goals as goal

pub returns-in-Some : goal.returns-in-Some
returns-in-Some c =
    let runs = c.self.inside.runs.items in
    let number = c.args.number in
    let before = c.partition_point-before.result in
    let listed = c.deref.ensures.value in
    let parted = IsPartitionedBy-ltb (λ (r : Run). r.last) c.deref.result.now number
    (rw listed c.self.invariant.lasts) in
    let point = IsPartitionPoint-from_clause (λ (r : Run). ltb r.last number) c.deref.result.now before
    c.partition_point-before.ensures.partitioned parted (λ a r q k. search rules) in
    let stands : slice_get runs before ≡ Some c.in-Some.run' =
    sym (ap (λ xs. slice_get xs before) c.as_slice.ensures.value) ∙ (sym c.run_at.ensures ∙ c.in-Some.is) in
    subst (λ (xs : List ℕ). IsTrue (leb c.in-Some.run'.first number) ↔ Contains xs number) c.self.view_is
    (run_has runs number before c.self.invariant
    (subst (λ (rs : List Run). IsPartitionPoint (λ (r : Run). ltb r.last number ≡ true)
    (λ (r : Run). ltb r.last number ≡ false) rs before) listed point) c.in-Some.run' stands)

pub returns-in-None : goal.returns-in-None
returns-in-None c =
    let runs = c.self.inside.runs.items in
    let number = c.args.number in
    let before = c.partition_point-before.result in
    let listed = c.deref.ensures.value in
    let parted = IsPartitionedBy-ltb (λ (r : Run). r.last) c.deref.result.now number
    (rw listed c.self.invariant.lasts) in
    let point = IsPartitionPoint-from_clause (λ (r : Run). ltb r.last number) c.deref.result.now before
    c.partition_point-before.ensures.partitioned parted (λ a r q k. search rules) in
    let none : slice_get runs before ≡ None =
    sym (ap (λ xs. slice_get xs before) c.as_slice.ensures.value) ∙ (sym c.run_at.ensures ∙ c.in-None.is) in (
      λ t. absurd (false≢true t),
      λ there. absurd (no_run_has runs number before c.self.invariant
          (subst (λ (rs : List Run). IsPartitionPoint (λ (r : Run). ltb r.last number ≡ true)
          (λ (r : Run). ltb r.last number ≡ false) rs before) listed point) none
          (subst (λ (xs : List ℕ). Contains xs number) (sym c.self.view_is) there)),
    )
