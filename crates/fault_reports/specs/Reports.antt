-- A whole report: which findings it tells, in which form. Both forms tell just these, each as often as it is in the
-- list, in its order.
use Rattle.std.specs.Prelude.{ℕ, List}
use Rattle.fault_reports.specs.declared.finding.Counts.{Counts}
use Rattle.fault_reports.specs.declared.report.ReportFormat.{ReportFormat}
use Rattle.fault_reports.specs.declared.report.ReportFormat.TheVariants.{JsonLines, Sarif}
use Rattle.fault_reports.specs.Findings.{Found}
use Rattle.fault_reports.specs.JsonLines.{line_of, report_lines}
use Rattle.fault_reports.specs.Sarif.{log_value}

-- the bytes: a line of JSON for each and one with the counts; or the line of the log, which has no counts
abbrev pub report_of : ReportFormat → List Found → Counts → List ℕ
report_of JsonLines findings counts = report_lines findings counts
report_of Sarif findings counts = line_of (log_value findings)
