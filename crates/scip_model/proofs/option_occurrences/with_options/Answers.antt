use Rattle.std.proofs.Common.{map}
use Rattle.std.proofs.lemmas.Result.{IfOk-weaker}
use Rattle.scip_model.specs.OccurrenceOrder.{occurrence_cmp}
use Rattle.scip_model.specs.Tables.Plans.{occurrence_of}
use Rattle.scip_model.proofs.MergeApartLemmas.{of-single}
use Rattle.scip_model.proofs.option_occurrences.with_options.Goals as goal

pub returns : goal.returns
returns c =
    IfOk-weaker c.merged.result _ _
    (λ list apart around up untied.
    let f = occurrence_of around c.args.texts.now in
    let single = c.in_ok-of_options.ensures around in
    of-single occurrence_cmp (map f c.args.besides.items) (map f c.args.of_options.items)
    (map f c.in_ok-of_options.of_options.items) (map f list.items) untied single (apart around up single.ascends))
    c.merged.ensures.apart
