use Rattle.std.proofs.Common.{◌∙◌, ◌++◌, ap, sym, append-nil}
use Rattle.std.specs.Prelude.{Option}
use Rattle.std.proofs.lemmas.Option.{slice_get_past}
use Rattle.scip_records.specs.declared.records.Occurrence.{Occurrence}
use Rattle.scip_pages.specs.CodeText.{spans_or_none}
use Rattle.scip_pages.proofs.code_table.push_span.Goals as goal

pub returns-in-None : goal.returns-in-None
returns-in-None c =
    let spans = c.args.spans.now.items in
    sym (append-nil spans)
    ∙ ap (λ (o : Option Occurrence). spans ++ spans_or_none c.args.line.now.unit c.args.line.now.text c.args.number o)
    (sym (slice_get_past c.args.occurrences.now c.args.number c.in-None.ensures.lookup.3))
