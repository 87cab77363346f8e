use Rattle.std.proofs.Common.{inr, refl, subst}
use Rattle.std.proofs.lemmas.Result.{err_from_is_err_and}
use Rattle.scip_join.specs.Gathered.{Gathered}
use Rattle.scip_join.specs.Steps.{IsAdded}
use Rattle.scip_join.proofs.GatheredLemmas.{one_more, said, told, unsaid, untold}
use Rattle.scip_join.proofs.gathered.IndexJoin.add.Goals as goal

-- another root

pub returns-then-has_other_root-clause-other_root : goal.returns-then-has_other_root-clause-other_root
returns-then-has_other_root-clause-other_root c indexes is = (
  λ e. told c.args.self.now.choices indexes c.args.index c.args.self.now c.has_other_root.result is
      c.has_other_root.ensures c.if-has_other_root.true,
  λ other. refl,
)

pub returns-then-has_other_root-clause-other_encoding : goal.returns-then-has_other_root-clause-other_encoding
returns-then-has_other_root-clause-other_encoding c indexes is = (
  λ e. absurd cc,
  λ both. absurd (both.1 (told c.args.self.now.choices indexes c.args.index c.args.self.now c.has_other_root.result is
      c.has_other_root.ensures c.if-has_other_root.true)),
)

-- another encoding

pub returns-then-has_other_encoding-clause-other_root : goal.returns-then-has_other_encoding-clause-other_root
returns-then-has_other_encoding-clause-other_root c indexes is = (
  λ e. absurd cc,
  λ other. absurd (untold c.args.self.now.choices indexes c.args.index c.args.self.now c.has_other_root.result is
      c.has_other_root.ensures c.if-has_other_root.false other),
)

pub returns-then-has_other_encoding-clause-other_encoding : goal.returns-then-has_other_encoding-clause-other_encoding
returns-then-has_other_encoding-clause-other_encoding c indexes is = (
  λ e. (
    said c.args.self.now.choices indexes c.args.index c.args.self.now c.has_other_encoding.result is
        c.has_other_encoding.ensures c.if-has_other_encoding.true,
    untold c.args.self.now.choices indexes c.args.index c.args.self.now c.has_other_root.result is
        c.has_other_root.ensures c.if-has_other_root.false,
  ),
  λ both. refl,
)

-- memory

pub returns-in_err-take_in-clause-other_root : goal.returns-in_err-take_in-clause-other_root
returns-in_err-take_in-clause-other_root c indexes is =
    let p = err_from_is_err_and c.from_residual.result c.from_residual.ensures.1 in
    let never = untold c.args.self.now.choices indexes c.args.index c.args.self.now c.has_other_root.result is
    c.has_other_root.ensures c.if-has_other_root.false in
    rw (p.1, p.2) (λ e. absurd cc, λ other. absurd (never other))

pub returns-in_err-take_in-clause-other_encoding : goal.returns-in_err-take_in-clause-other_encoding
returns-in_err-take_in-clause-other_encoding c indexes is =
    let p = err_from_is_err_and c.from_residual.result c.from_residual.ensures.1 in
    let never = unsaid c.args.self.now.choices indexes c.args.index c.args.self.now c.has_other_encoding.result is
    c.has_other_encoding.ensures c.if-has_other_encoding.false in
    rw (p.1, p.2) (λ e. absurd cc, λ both. absurd (never both.0))

pub returns-in_err-take_in-clause-refused : goal.returns-in_err-take_in-clause-refused
returns-in_err-take_in-clause-refused c =
    let p = err_from_is_err_and c.from_residual.result c.from_residual.ensures.1 in rw (p.1, p.2) (inr (inr refl))

pub returns-in_err-take_in-clause-unchanged : goal.returns-in_err-take_in-clause-unchanged
returns-in_err-take_in-clause-unchanged c =
    let p = err_from_is_err_and c.from_residual.result c.from_residual.ensures.1 in rw (p.1, p.2) (inr refl)

-- it is kept

pub returns-clause-added : goal.returns-clause-added
returns-clause-added c indexes is =
    one_more c.args.self.now.choices indexes c.args.index c.take_in.new.self
    (subst (λ (g : Gathered). IsAdded g c.args.index c.take_in.new.self) is c.in_ok-take_in.ensures.added)

pub returns-clause-other_root : goal.returns-clause-other_root
returns-clause-other_root c indexes is = (
  λ e. absurd cc,
  λ other. absurd (untold c.args.self.now.choices indexes c.args.index c.args.self.now c.has_other_root.result is
      c.has_other_root.ensures c.if-has_other_root.false other),
)

pub returns-clause-other_encoding : goal.returns-clause-other_encoding
returns-clause-other_encoding c indexes is = (
  λ e. absurd cc,
  λ both. absurd (unsaid c.args.self.now.choices indexes c.args.index c.args.self.now c.has_other_encoding.result is
      c.has_other_encoding.ensures c.if-has_other_encoding.false both.0),
)
