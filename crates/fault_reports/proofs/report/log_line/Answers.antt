use Rattle.std.proofs.Common.{◌∙◌, ap}
use Rattle.serde_json.specs.Written.{has_float}
use Rattle.fault_reports.proofs.SarifFloatLemmas.{of_log}
use Rattle.fault_reports.proofs.report.log_line.Goals as goal

pub push_line-requires : goal.push_line-requires
push_line-requires c = ap has_float c.in_ok-log.ensures ∙ of_log c.args.findings.now
