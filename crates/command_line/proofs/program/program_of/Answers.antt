use Rattle.std.proofs.Common.{◌≡◌, ◌∙◌, ap, map}
use Rattle.std.proofs.lemmas.Result.{IfOk-weaker}
use Rattle.clap.specs.Simple.{app_of_fields}
use Rattle.clap.specs.Words.{App, app_of, new_app, rule_of}
use Rattle.command_line.specs.Program.{with_rules}
use Rattle.command_line.proofs.ProgramRuleLemmas.{all_added, stay_local}
use Rattle.command_line.proofs.program.program_of.Goals as goal

pub returns-clause-line : goal.returns-clause-line
returns-clause-line c =
    let rules = map rule_of c.args.arguments.items in
    let start : app_of c.after_help.result ≡ new_app c.args.name.now =
    ap app_of_fields c.after_help.ensures ∙ ap app_of_fields c.about.ensures ∙ c.new.ensures.app in
    IfOk-weaker c.args-2.result _ _
    (λ d adds. ap (λ (a : App). a.top) (all_added _ _ d adds c.requires ∙ ap (λ (a : App). with_rules a rules) start))
    c.args-2.ensures

pub returns-clause-local : goal.returns-clause-local
returns-clause-local c =
    let none = ap (λ f. f.has_globals) c.after_help.ensures ∙ ap (λ f. f.has_globals) c.about.ensures
    ∙ c.new.ensures.local in
    IfOk-weaker c.args-2.result _ _ (λ d adds. stay_local _ _ d adds c.requires none) c.args-2.ensures
