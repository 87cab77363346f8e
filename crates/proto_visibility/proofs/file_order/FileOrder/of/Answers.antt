use Rattle.std.proofs.Common.{◌<◌, All, ℕ, List, length, ap, sym, ◌∙◌, subst}
use Rattle.std.specs.List.{Contains}
use Rattle.proto_visibility.specs.Tables.Visits.{Found}
use Rattle.proto_visibility.proofs.file_order.FileOrder.of.Goals as goal

pub ranks_of-requires-clause-below : goal.ranks_of-requires-clause-below
ranks_of-requires-clause-below c =
    let size = c.in_ok-walk.ensures.files ∙ ap (λ (f : Found). f.files) c.in_ok-search.ensures in
    let files = c.as_slice.ensures.value ∙ (c.in_ok-files.ensures.items ∙ c.found.ensures.value) in
    subst (All (λ number. number < length c.args.table.now)) (sym files)
    (subst (λ n. All (λ number. number < n) c.walk.new.search.numbers) size c.found.ensures.below)

pub ranks_of-requires-clause-all : goal.ranks_of-requires-clause-all
ranks_of-requires-clause-all c = λ number few.
    let files = c.as_slice.ensures.value ∙ (c.in_ok-files.ensures.items ∙ c.found.ensures.value) in
    subst (λ (xs : List ℕ). Contains xs number) (sym files) (c.in_ok-walk.ensures.found number few)

pub returns : goal.returns
returns c = λ number few.
    let files = c.in_ok-files.ensures.items ∙ c.found.ensures.value in
    subst (λ (xs : List ℕ). Contains xs number) (sym files) (c.in_ok-walk.ensures.found number few)
