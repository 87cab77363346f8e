use Rattle.std.proofs.Common.{◌∙◌, ap}
use Rattle.serde_json.specs.Written.{has_float}
use Rattle.scip_survey.proofs.CountLemmas.{of_counts}
use Rattle.scip_survey.proofs.counts.counts_text.Goals as goal

pub json_line_of-requires : goal.json_line_of-requires
json_line_of-requires c = ap has_float c.in_ok-counts_value.ensures ∙ of_counts c.args.counts.now
