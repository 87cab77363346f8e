use Rattle.std.proofs.Common.{◌≡◌, ◌∙◌, sym}
use Rattle.std.proofs.lemmas.Result.{IfOk-at_ok, IfErr-at_err, err_from_is_err_and}
use Rattle.proto_visibility.specs.Linked.{CanBeLinked, MayRefuse}
use Rattle.scip_build.proofs.linking.linker_in_parts.Goals as goal

pub returns-in_err-checked-clause-refused : goal.returns-in_err-checked-clause-refused
returns-in_err-checked-clause-refused g c =
    let p = err_from_is_err_and c.from_residual.result c.from_residual.ensures.1 in
    rw (p.1, p.2)
    (IfErr-at_err (MayRefuse c.args.duplicates c.args.files.now) c.in_err-checked.was c.join-checked.ensures.first.1.1)

pub joined-requires : goal.joined-requires
joined-requires g c =
    IfOk-at_ok (λ listed. listed ≡ c.args.files.now) c.in_ok-listed.was c.join-checked.ensures.second
    ∙ sym (IfOk-at_ok (λ checked. checked ≡ c.args.files.now) c.in_ok-checked.was c.join-checked.ensures.first.0)

pub returns-clause-linked : goal.returns-clause-linked
returns-clause-linked g c =
    c.joined.ensures
    ∙ IfOk-at_ok (λ checked. checked ≡ c.args.files.now) c.in_ok-checked.was c.join-checked.ensures.first.0

pub returns-clause-can_be : goal.returns-clause-can_be
returns-clause-can_be g c =
    IfOk-at_ok (λ _. CanBeLinked c.args.duplicates c.args.files.now) c.in_ok-checked.was
    c.join-checked.ensures.first.1.0
