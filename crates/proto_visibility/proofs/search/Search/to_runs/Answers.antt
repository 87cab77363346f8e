use Rattle.std.proofs.Common.{◌↔◌, ◌<◌, All, List, ℕ, ap, sym, ◌∙◌, subst}
use Rattle.std.specs.List.{Contains}
use Rattle.std.proofs.lemmas.Result.{IfOk-weaker}
use Rattle.proto_visibility.specs.Tables.Rows.{files_at}
use Rattle.proto_visibility.specs.Tables.Visits.{Found}
use Rattle.proto_visibility.proofs.FileOrderLemmas.{all_whole, with_all}
use Rattle.proto_visibility.proofs.search.Search.to_runs.Goals as goal

pub add_files-requires : goal.add_files-requires
add_files-requires c =
    let order = c.args.order.now in
    let all = subst (λ (f : Found). (number : ℕ) → number < f.files → Contains order number) (sym c.self.view_is)
    c.requires in
    subst (All (Contains order)) (sym c.as_slice.ensures.value)
    (λ k d h. all _ (c.self.invariant.below k d h))

pub of-requires : goal.of-requires
of-requires c =
    all_whole c.args.order.now c.in_ok-runs.runs.items c.add_files.new.runs.items (Contains c.as_slice.result.now)
    c.in_ok-runs.ensures.items c.in_ok-add_files.ensures

pub returns : goal.returns
returns c =
    let order = c.args.order.now in
    let numbers = c.as_slice.ensures.value ∙ ap (λ (f : Found). f.numbers) c.self.view_is in
    IfOk-weaker c.of.result _ _ (λ row same number.
    subst (λ (xs : List ℕ). Contains (files_at order row) number ↔ Contains xs number) numbers
    (with_all order c.in_ok-runs.runs.items c.add_files.new.runs.items row (Contains c.as_slice.result.now)
    c.in_ok-runs.ensures.items c.in_ok-add_files.ensures same number)) c.of.ensures
