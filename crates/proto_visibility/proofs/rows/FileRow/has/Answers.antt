use Rattle.std.proofs.Common.{◌∙◌, sym, subst, Decides}
use Rattle.std.specs.List.{Contains}
use Rattle.std.specs.List.Sorted.{IsStrictlyIncreasing}
use Rattle.std.specs.Result.{is_ok}
use Rattle.proto_visibility.proofs.RowRisingLemmas.{decides_has}
use Rattle.proto_visibility.proofs.rows.FileRow.has.Goals as goal

pub returns : goal.returns
returns c =
    let found : Decides (is_ok c.binary_search.result) (Contains c.deref.result.now c.args.number) =
    decides_has c.deref.result.now c.args.number c.binary_search.result
    (subst IsStrictlyIncreasing (sym c.deref.ensures.value) c.self.invariant) c.binary_search.ensures.position in
    let same = c.deref.ensures.value ∙ c.self.view_is in (
      λ t. subst (λ xs. Contains xs c.args.number) same (found.0 (sym c.is_ok.ensures.value ∙ t)),
      λ there. c.is_ok.ensures.value ∙ found.1 (subst (λ xs. Contains xs c.args.number) (sym same) there),
    )
