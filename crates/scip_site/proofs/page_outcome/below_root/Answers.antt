use Rattle.std.proofs.Common.{◌∙◌, subst, ap, refl, List, ℕ, Some, None}
use Rattle.std.proofs.lemmas.Result.{IfOk-weaker}
use Rattle.scip_site.specs.Snapshots.{path_in}
use Rattle.source_files.proofs.SystemFileKeptLemmas.{read_some, read_none}
use Rattle.scip_site.specs.Reading.{of_source}
use Rattle.scip_site.proofs.page_outcome.below_root.Goals as goal

pub returns-in-Some : goal.returns-in-Some
returns-in-Some g c =
    let gives = g.F.ReadFiles.gives c.args.files.now in
    let given = read_some (gives c.as_str-2.result.now) _ c.in_ok-bytes.field-0 c.in-Some.bytes c.in-Some.is
    c.in_ok-bytes.ensures in
    IfOk-weaker c.with_bytes.result _ _
    (λ o e. (
      Some c.in-Some.bytes.items,
      subst (λ p. gives p (Some c.in-Some.bytes.items))
          (c.as_str-2.ensures.value ∙ c.in_ok-file.ensures
          ∙ ap (path_in c.args.root.now) c.as_str.ensures) given,
      e ∙ ap (λ (b : List ℕ). of_source c.args.document.now (Some b)) c.as_slice.ensures.value,
    ))
    c.with_bytes.ensures

pub returns : goal.returns
returns g c =
    let gives = g.F.ReadFiles.gives c.args.files.now in
    let given = read_none (gives c.as_str-2.result.now) _ c.in_ok-bytes.field-0 c.in-None.is
    c.in_ok-bytes.ensures in (
      None,
      subst (λ p. gives p None)
          (c.as_str-2.ensures.value ∙ c.in_ok-file.ensures ∙ ap (path_in c.args.root.now) c.as_str.ensures) given,
      refl,
    )
