use Rattle.std.proofs.Common.{◌∙◌, ap}
use Rattle.std.specs.Option.{option_map_or}
use Rattle.command_line.specs.Options.Report.{format_in}
use Rattle.fault_reports.specs.declared.report.ReportFormat.TheVariants.{JsonLines}
use Rattle.command_line.proofs.options.report.format_of.Goals as goal

pub returns-in-Some : goal.returns-in-Some
returns-in-Some c = c.format_in.ensures ∙ ap (λ o. option_map_or format_in o JsonLines) c.in-Some.ensures

pub returns-in-None : goal.returns-in-None
returns-in-None c = ap (λ o. option_map_or format_in o JsonLines) c.in-None.ensures
