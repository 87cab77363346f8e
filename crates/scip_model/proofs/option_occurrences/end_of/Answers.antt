use Rattle.std.proofs.Common.{◌∙◌, ap}
use Rattle.proto_decl.specs.Imports.{end_of}
use Rattle.scip_model.proofs.OptionGapLemmas.{last-end}
use Rattle.scip_model.proofs.option_occurrences.end_of.Goals as goal

pub returns-in-len1-up : goal.returns-in-len1-up
returns-in-len1-up c =
    last-end c.as_slice.result.now (record { start = 0; end = 0 }) c.in-len1-up.len_at_least
    ∙ ap end_of c.as_slice.ensures
