use Rattle.std.proofs.Common.{◌≡◌, ℕ, List, Some, ap, sym, ◌∙◌, subst}
use Rattle.std.specs.List.{slice_get}
use Rattle.proto_visibility.proofs.file_order.FileOrder.rank_of.Goals as goal

pub returns : goal.returns
returns c = λ rank.
    let number = c.args.number in
    let is : c.number_at.result ≡ slice_get c.self.inside.ranks.items number =
    c.number_at.ensures ∙ ap (λ xs. slice_get xs number) c.as_slice.ensures.value in
    let ranked = c.self.invariant number rank in (
      λ stands. is ∙ ranked.0 (subst (λ (xs : List ℕ). slice_get xs rank ≡ Some number) (sym c.self.view_is) stands),
      λ at. subst (λ (xs : List ℕ). slice_get xs rank ≡ Some number) c.self.view_is (ranked.1 (sym is ∙ at)),
    )
