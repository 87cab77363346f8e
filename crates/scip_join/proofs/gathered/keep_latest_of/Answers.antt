use Rattle.std.proofs.Common.{◌≡◌, inl, inr, None, List, reverse, subst}
use Rattle.std.proofs.lemmas.Result.{err_from_is_err_and}
use Rattle.scip_join.specs.declared.piece.Piece.{Piece}
use Rattle.scip_join.specs.Tables.{first_pair, IsRefusedPair}
use Rattle.scip_join.proofs.RefusedLemmas.{refuses}
use Rattle.scip_join.proofs.gathered.keep_latest_of.Goals as goal

pub returns-clause-latest : goal.returns-clause-latest
returns-clause-latest c = record {
  ordered = c.sort_latest_first.new.pieces.items;
  in_order = c.in_ok-sort_latest_first.ensures;
  firsts_are = c.keep_latest.ensures;
}

pub returns-clause-allowed : goal.returns-clause-allowed
returns-clause-allowed c = elim c.in_ok-refuse_twice.ensures.none [
  | inl asked ↦ inl asked
  | inr none ↦ inr (record {
    ordered = c.sort_latest_first.new.pieces.items;
    in_order = c.in_ok-sort_latest_first.ensures;
    none = subst (λ (l : List Piece). first_pair l ≡ None) c.as_slice.ensures.value none;
  })
]

pub returns-in_err-refuse_twice-clause-refused : goal.returns-in_err-refuse_twice-clause-refused
returns-in_err-refuse_twice-clause-refused c =
    let p = err_from_is_err_and c.from_residual-in_err-refuse_twice.result
    c.from_residual-in_err-refuse_twice.ensures.1 in
    let fault = c.in_err-refuse_twice.field-0.0 in
    rw (p.1, p.2) (refuses c.args.replace (reverse c.args.pieces.now.items) c.sort_latest_first.new.pieces.items fault
    c.in_ok-sort_latest_first.ensures
    (subst (λ (l : List Piece). IsRefusedPair c.args.replace (first_pair l) fault) c.as_slice.ensures.value
    c.in_err-refuse_twice.ensures.refused))
