use Rattle.std.proofs.Common.{◌≡◌, Some, List, subst}
use Rattle.std.specs.List.{slice_get}
use Rattle.proto_lex.specs.declared.span.Span.{Span}
use Rattle.scip_model.proofs.ConditionUnresolvedLemmas.{first_unresolved}
use Rattle.scip_build.proofs.source_document.make_document.Goals as goal

pub returns-in-Some : goal.returns-in-Some
returns-in-Some c =
    let is = c.in-Some.ensures in
    let First : List Span → Type 0 = λ spans. slice_get spans 0 ≡ Some c.in-Some.span in (
      is.0,
      first_unresolved c.args.sources.now.package.now.files c.args.number c.in-Ok.made.planned.unresolved c.in-Some.span
          c.in-Ok.ensures.unresolved_uses (subst First c.unresolved.ensures is.1),
    )
