use Rattle.std.proofs.Common.{ℕ, ◌≡◌, ◌≤◌, ◌+◌, ◌++◌, ◌∙◌, length, ap, sym, subst, arith}
use Rattle.std.proofs.lemmas.Bool.{false≢true}
use Rattle.source_tree.specs.Files.{paths_of, IsByPath, RepeatsAPath}
use Rattle.source_tree.specs.Trees.{max_files, HaveGoodPaths, IsTree, IsTreeOf}
use Rattle.source_tree.specs.Marks.{marks_of, files_of, with_texts}
use Rattle.source_tree.proofs.CountingLemmas.{length-marks}
use Rattle.source_tree.proofs.TreeLemmas.{IsMade, made_tree, made_tree_of, made_from, few_from, if_not_err}
use Rattle.source_tree.proofs.tree.Tree.with_included.Goals as goal

pub counted-included-requires-clause-marks : goal.counted-included-requires-clause-marks
counted-included-requires-clause-marks c =
    ap length c.in-Ok.ensures.marks ∙ length-marks (paths_of c.deref-5.result.now) c.deref-6.result.now
    ∙ ap length c.deref-6.ensures.value

is_made : (c : goal.After-new)
    → IsMade c.args.sources.items c.args.included.items c.sort_by_path.new.files.items
    c.sort_distinct_by_path.new.files.items
is_made c =
    let sources = c.args.sources.items in
    let included = c.args.included.items in
    let listed = c.sort_by_path.new.files.items in
    let all = ap length c.deref.ensures.value in
    let others = ap length c.deref-2.ensures.value in
    let least = few_from c.deref.result.now c.deref-2.result.now (λ many. false≢true (c.if-are_too_many.ensures.1 many))
    in
    let few : length sources + length included ≤ max_files = omega arith in
    made_from sources included listed c.sort_distinct_by_path.new.files.items c.counted-included.result.items
    c.in-Ok.counting.marks.items
    few
    (subst (λ l. HaveGoodPaths (l ++ included)) c.deref-3.ensures.value
    (subst (λ l. HaveGoodPaths (c.deref-3.result.now ++ l)) c.deref-4.ensures.value c.in_default.ensures))
    (c.in-Ok.ensures.marks ∙ ap (λ l. marks_of (paths_of l) c.deref-6.result.now) c.deref-5.ensures.value
    ∙ ap (marks_of (paths_of sources)) c.deref-6.ensures.value)
    (if_not_err c.sort_by_path.result (IsByPath sources listed) c.sort_by_path.ensures.ok
    (sym c.if-is_err.ensures.value))
    (subst (λ l. (number : ℕ) → RepeatsAPath l number → ⊥) c.deref-7.ensures.value c.in_default-first_repeat.ensures)
    c.counted-included.ensures
    c.sort_distinct_by_path.ensures.complete
    c.sort_distinct_by_path.ensures.ascends

plain : (c : goal.After-new)
    → files_of c.sort_by_path.new.files.items c.sort_distinct_by_path.new.files.items
    ≡ with_texts c.new.result.items (files_of c.sort_by_path.new.files.items c.sort_distinct_by_path.new.files.items)
plain c =
    let files = files_of c.sort_by_path.new.files.items c.sort_distinct_by_path.new.files.items in
    ap (λ texts. with_texts texts files) (sym c.new.ensures.items)

pub invariant_of-result : goal.invariant_of-result
invariant_of-result c = subst IsTree (plain c)
    (made_tree c.args.sources.items c.args.included.items c.sort_by_path.new.files.items
    c.sort_distinct_by_path.new.files.items (is_made c))

pub returns-clause-tree : goal.returns-clause-tree
returns-clause-tree c = subst (IsTreeOf c.args.sources.items c.args.included.items) (plain c)
    (made_tree_of c.args.sources.items c.args.included.items c.sort_by_path.new.files.items
    c.sort_distinct_by_path.new.files.items (is_made c))
