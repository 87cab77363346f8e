use Rattle.std.proofs.Common.{◌∙◌, subst, ap, List, ℕ, Some, None}
use Rattle.std.proofs.lemmas.Result.{IfOk-weaker}
use Rattle.source_files.proofs.SystemFileKeptLemmas.{read_some, read_none}
use Rattle.scip_pages.specs.declared.columns.ColumnUnit.{ColumnUnit}
use Rattle.std.specs.Prelude.{Option}
use Rattle.scip_site.specs.Sources.{source_with, unit_named}
use Rattle.scip_site.proofs.SourceLemmas.{none_with}
use Rattle.scip_site.proofs.sources.source_below.Goals as goal

pub returns-in-Some : goal.returns-in-Some
returns-in-Some g c =
    let gives = g.F.ReadFiles.gives c.args.files.now in
    let given = read_some (gives c.as_str.result.now) _ c.in_ok-bytes.field-0 c.in-Some.bytes c.in-Some.is
    c.in_ok-bytes.ensures in
    IfOk-weaker c.source_with.result _ _
    (λ o e. (
      Some c.in-Some.bytes.items,
      subst (λ p. gives p (Some c.in-Some.bytes.items)) (c.as_str.ensures.value ∙ c.in_ok-file.ensures) given,
      e
          ∙ ap (λ (b : List ℕ). source_with c.args.path.now c.unit_named.result (Some b)) c.as_slice.ensures.value
          ∙ ap (λ (unit : Option ColumnUnit). source_with c.args.path.now unit (Some c.in-Some.bytes.items))
          c.unit_named.ensures,
    ))
    c.source_with.ensures

pub returns : goal.returns
returns g c =
    let gives = g.F.ReadFiles.gives c.args.files.now in
    let given = read_none (gives c.as_str.result.now) _ c.in_ok-bytes.field-0 c.in-None.is
    c.in_ok-bytes.ensures in (
      None,
      subst (λ p. gives p None) (c.as_str.ensures.value ∙ c.in_ok-file.ensures) given,
      none_with c.args.path.now (unit_named c.args.queries.now c.args.path.now),
    )
