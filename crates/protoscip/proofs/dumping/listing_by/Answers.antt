use Rattle.std.specs.String.{string_bytes}
use Rattle.std.proofs.lemmas.Result.{err_from_is_err_and}
use Rattle.protoscip.proofs.DumpLemmas.{refusal_of_build, listed_or_refused}
use Rattle.protoscip.proofs.dumping.listing_by.Goals as goal

pub returns-in_err-built : goal.returns-in_err-built
returns-in_err-built g c dialect bytes set is =
    let p = err_from_is_err_and c.from_residual.result c.from_residual.ensures.1 in
    rw (p.1, p.2) (refusal_of_build dialect bytes c.args.settings.now c.args.tree.now set is
    c.one_worker-workers.result c.in_err-built.field-0.0 c.one_worker-workers.ensures c.in_err-built.ensures.refused)

pub returns : goal.returns
returns g c dialect bytes set is =
    listed_or_refused dialect bytes c.args.settings.now c.args.tree.now set is string_bytes c.in_ok-built.built
    c.listing_of_index.result c.in_ok-built.ensures.built c.listing_of_index.ensures
