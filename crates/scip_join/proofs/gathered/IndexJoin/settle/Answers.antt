use Rattle.std.proofs.Common.{refl, subst, List}
use Rattle.std.proofs.lemmas.Result.{err_from_is_err_and}
use Rattle.scip_join.specs.declared.piece.Piece.{Piece}
use Rattle.scip_join.specs.Steps.{AreUndefined}
use Rattle.scip_join.proofs.gathered.IndexJoin.settle.Goals as goal

pub returns-clause-settled : goal.returns-clause-settled
returns-clause-settled c =
    rw (← c.self.view_is) (record {
      choices = refl;
      metadata = refl;
      pieces = c.in_ok-keep_latest_of.ensures.latest;
      externals = subst (λ (l : List Piece). AreUndefined l c.self.inside.externals.items
          c.keep_undefined.new.entries.items) c.as_slice.ensures.value c.in_ok-keep_undefined.ensures;
      allowed = c.in_ok-keep_latest_of.ensures.allowed;
    })

pub returns-in_err-keep_latest_of-clause-refused : goal.returns-in_err-keep_latest_of-clause-refused
returns-in_err-keep_latest_of-clause-refused c =
    let p = err_from_is_err_and c.from_residual.result c.from_residual.ensures.1 in
    rw (p.1, p.2, ← c.self.view_is) c.in_err-keep_latest_of.ensures.refused
