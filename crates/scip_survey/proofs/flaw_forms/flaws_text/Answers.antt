use Rattle.std.proofs.Common.{◌∙◌, [], ℕ, List, ap}
use Rattle.std.specs.List.{flat_map}
use Rattle.std.specs.String.{string_bytes}
use Rattle.std.proofs.lemmas.List.{take_all}
use Rattle.std.proofs.lemmas.List.Elements.{All-map}
use Rattle.scip_survey.specs.FlawForms.{ReadsBack, flaw_text}
use Rattle.scip_survey.specs.Views.{flawed_view}
use Rattle.scip_survey.specs.declared.flaws.Flawed.{Flawed}
use Rattle.scip_query.proofs.AnswerLemmas.{lines_map}
use Rattle.scip_survey.proofs.ReadBackLemmas.{all_read, more_read, more_text}
use Rattle.scip_survey.proofs.flaw_forms.flaws_text.Goals as goal

pub loop-flawed-preserved : goal.loop-flawed-preserved
loop-flawed-preserved c =
    let line : Flawed → List ℕ = λ flawed. flaw_text c.args.json (flawed_view flawed) in
    let Reads : Flawed → Type 0 = λ flawed. ReadsBack (flawed_view flawed) in
    let at = c.loop-flawed.flawed-index in (
      more_text line c.args.flaws.now at c.flawed-item.result [] (string_bytes c.loop-flawed.text)
          (string_bytes c.push_flaw.new.text) c.loop-flawed-test.true c.flawed-item.is c.loop-flawed.invariant.0
          c.in_ok-push_flaw.ensures.text,
      λ json. more_read Reads c.args.flaws.now at c.flawed-item.result c.loop-flawed-test.true c.flawed-item.is
          (c.loop-flawed.invariant.1 json) (c.in_ok-push_flaw.ensures.reads_back json),
    )

pub returns-clause-text : goal.returns-clause-text
returns-clause-text c =
    let line : Flawed → List ℕ = λ flawed. flaw_text c.args.json (flawed_view flawed) in
    c.loop-flawed.invariant.0
    ∙ ap (flat_map line) (take_all c.loop-flawed.flawed-index c.args.flaws.now c.loop-flawed-test.false)
    ∙ lines_map (flaw_text c.args.json) flawed_view c.args.flaws.now

pub returns-clause-reads_back : goal.returns-clause-reads_back
returns-clause-reads_back c = λ json.
    let Reads : Flawed → Type 0 = λ flawed. ReadsBack (flawed_view flawed) in
    All-map ReadsBack flawed_view c.args.flaws.now
    (all_read Reads c.args.flaws.now c.loop-flawed.flawed-index c.loop-flawed-test.false
    (c.loop-flawed.invariant.1 json))
