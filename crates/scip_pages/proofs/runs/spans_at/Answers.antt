use Rattle.std.proofs.Common.{◌∙◌, ap, List}
use Rattle.std.specs.Prelude.{None}
use Rattle.std.proofs.lemmas.List.{take_all}
use Rattle.std.proofs.lemmas.List.FromFn.{fill_by_all}
use Rattle.scip_pages.specs.declared.runs.Span.{Span}
use Rattle.scip_pages.specs.Runs.{span_at}
use Rattle.scip_pages.proofs.runs.spans_at.Goals as goal

pub returns : goal.returns
returns c =
    fill_by_all (span_at c.args.spans.now) c.loop-span.found.items c.args.len None c.loop-span.invariant.sized
    (λ p inside. c.loop-span.invariant.narrowest p inside
    ∙ ap (λ (spans : List Span). span_at spans p)
    (take_all c.loop-span.span-index c.args.spans.now c.loop-span-test.false))
