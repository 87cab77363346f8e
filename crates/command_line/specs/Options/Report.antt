-- `--report` and `--report-format`: the report that is made, and its form.
use Rattle.std.specs.Prelude.{◌≡◌, Bool, not, ◌&&◌, List, [], ◌∷◌, codes, string_bytes, if◌then◌else◌}
use Rattle.std.specs.Option.{option_map, option_map_or}
use Rattle.std.specs.Str.{bytes_eq}
use Rattle.clap.specs.Words.{Row, Rule, Text, first_of}
use Rattle.fault_reports.specs.declared.report.ReportFormat.{ReportFormat}
use Rattle.fault_reports.specs.declared.report.ReportFormat.TheVariants.{JsonLines, Sarif}
use Rattle.command_line.specs.Arguments.{WordList, option_rule, taking_words}
use Rattle.command_line.specs.Values.{is_given}
use Rattle.command_line.specs.declared.options.report.ReportOptions.{ReportOptions}

abbrev pub report_rule : Rule
report_rule = option_rule (codes "report")

abbrev pub format_words : List Text
format_words = codes "jsonl" ∷ codes "sarif" ∷ []

abbrev pub format_rule : WordList → Rule
format_rule words = taking_words words (option_rule (codes "report-format"))

-- what each word says; `clap` refuses every other text
abbrev pub format_in : Text → ReportFormat
format_in text = if bytes_eq text (codes "sarif") then Sarif else JsonLines

-- lines of JSON, if it isn't given
abbrev pub format_of : List Row → ReportFormat
format_of rows = option_map_or format_in (first_of (codes "report-format") rows) JsonLines

-- the report is that which the rows ask for
pub record CarriesReport (rows : List Row) (report : ReportOptions) : Type 0 where
  pub path : option_map string_bytes report.path ≡ first_of (codes "report") rows
  pub format : report.format ≡ format_of rows

-- a form is given for the report, and no file
abbrev pub lacks_report : List Row → Bool
lacks_report rows = is_given (codes "report-format") rows && not (is_given (codes "report") rows)
