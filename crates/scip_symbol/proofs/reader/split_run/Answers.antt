use Rattle.std.proofs.Common.{◌∙◌, ap}
use Rattle.scip_symbol.specs.Reading.{run_len}
use Rattle.scip_symbol.proofs.NameLemmas.{run-boundary}
use Rattle.scip_symbol.proofs.reader.split_run.Goals as goal

pub split_at-requires : goal.split_at-requires
split_at-requires c = run-boundary c.args.text.now c.run_len-len.result
    (c.run_len-len.ensures ∙ ap run_len c.as_bytes.ensures.value) c.utf8.text
