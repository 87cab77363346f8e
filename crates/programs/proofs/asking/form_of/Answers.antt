use Rattle.std.specs.Global.{Global}
use Rattle.std.proofs.Common.{◌∙◌, ap, ℕ, Bool, Vec, subst, sym}
use Rattle.std.proofs.lemmas.Result.{IfOk-weaker}
use Rattle.scip_query.specs.MoreViews.{answer_view}
use Rattle.programs.specs.AskedOnce.{IsForm}
use Rattle.programs.proofs.asking.form_of.Goals as goal

pub returns-in_ok-json_of : goal.returns-in_ok-json_of
returns-in_ok-json_of g c =
    subst (λ (json : Bool). IsForm (g.F.ReadFiles.gives c.args.files.now) c.args.options.now c.args.queries.now json
    (answer_view c.args.answer.now) c.into_bytes.result.items) (sym c.if-options.true)
    (ap (λ (bytes : Vec ℕ Global). bytes.items) c.into_bytes.ensures.value ∙ c.in_ok-json_of.ensures.line)

pub returns-else-options : goal.returns-else-options
returns-else-options g c =
    IfOk-weaker c.told_of.result _ _
    (λ text is. subst (λ (json : Bool). IsForm (g.F.ReadFiles.gives c.args.files.now) c.args.options.now
    c.args.queries.now json (answer_view c.args.answer.now) text.items) (sym c.if-options.false) is)
    c.told_of.ensures
