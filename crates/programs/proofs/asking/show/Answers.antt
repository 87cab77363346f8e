use Rattle.std.proofs.Common.{◌∙◌, Bool, ap, refl, subst, sym}
use Rattle.std.specs.String.{string_bytes}
use Rattle.streams.specs.Writers.{writing}
use Rattle.scip_query.specs.Answers.{is_found}
use Rattle.scip_query.specs.MoreViews.{answer_view}
use Rattle.protoscip.specs.Lines.{plain_line}
use Rattle.programs.specs.AskedOnce.{ShowsBy, miss_of}
use Rattle.programs.specs.Surveying.{status_by}
use Rattle.programs.proofs.MessageLemmas.{told}
use Rattle.programs.proofs.asking.show.Goals as goal

pub returns-then-is_shown : goal.returns-then-is_shown
returns-then-is_shown g c =
    let answer = answer_view c.args.answered.0.now in
    let printed = c.print_bytes.result in
    subst (λ (shown : Bool). ShowsBy g.W.Caused.cause shown (is_found answer)
    (miss_of c.args.options.now c.args.queries.now answer) c.args.answered.1.now
    (writing g.W.Sink c.args.out.now c.print_bytes.new.out)
    (writing g.M.Sink c.args.messages.now c.print_bytes.new.messages) c.status_by.result)
    (sym c.if-is_shown.true ∙ c.is_shown.ensures) (
      printed,
      c.print_bytes.ensures,
      c.status_by.ensures ∙ ap (λ (found : Bool). status_by found printed) c.is_found.ensures,
    )

pub returns-else-is_shown : goal.returns-else-is_shown
returns-else-is_shown g c =
    let answer = answer_view c.args.answered.0.now in
    let miss = miss_of c.args.options.now c.args.queries.now answer in
    let messages = writing g.M.Sink c.args.messages.now c.report.new.messages in
    subst (λ (shown : Bool). ShowsBy g.W.Caused.cause shown (is_found answer) miss c.args.answered.1.now
    (writing g.W.Sink c.args.out.now c.args.out.now) messages c.report.result)
    (sym c.if-is_shown.false ∙ c.is_shown.ensures) (
      refl,
      told messages c.report.result _ _ string_bytes c.miss_line.result (plain_line miss) refl c.miss_line.ensures
          c.report.ensures,
    )
