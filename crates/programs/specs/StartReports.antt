-- The report of a run that doesn't start: it tells why, and nothing else.
use Rattle.std.specs.Prelude.{◌≡◌, ℕ, Bool, true, false, List, [], ◌∷◌, None, Result, Ok, Err}
use Rattle.std.specs.Prelude.{IfSome, string_bytes}
use Rattle.std.specs.Option.{option_map}
use Rattle.fault_reports.specs.Findings.{Found, FoundPlace}
use Rattle.fault_reports.specs.Reports.{report_of}
use Rattle.fault_reports.specs.declared.finding.FindingKind.TheVariants as kind
use Rattle.fault_reports.specs.declared.report.ReportFormat.{ReportFormat}
use Rattle.source_files.specs.declared.load_fault.LoadFault.TheVariants as load
use Rattle.command_line.specs.declared.options.report.ReportOptions.{ReportOptions}
use Rattle.protoscip.specs.Findings.{counts_of}
use Rattle.protoscip.specs.declared.fault.Fault.{Fault}
use Rattle.protoscip.specs.declared.fault.Fault.TheVariants.{Write}
use Rattle.programs.specs.Placing.{IsAt, IsLeft, Place}
use Rattle.programs.specs.Reporting.{GoesTo}
use Rattle.programs.specs.StartFaults.{name_of, path_of, sentence_of, status_of}
use Rattle.programs.specs.declared.start_fault.StartFault.{StartFault}
use Rattle.programs.specs.declared.start_fault.StartFault.TheVariants.{Load}

-- ---- what it tells

-- a file, as a whole
abbrev pub whole_file : (path : List ℕ) → FoundPlace
whole_file path = record { path = path; bytes = path; text = []; offset = None; end = None }

abbrev pub finding_of : StartFault → Found
finding_of fault = record {
  kind = kind.Fault;
  name = name_of fault;
  message = sentence_of fault;
  place = option_map whole_file (path_of fault);
  met = None;
  named = None;
  first = None;
  imported = None;
}

-- no source is indexed, and nothing else is told
abbrev pub report_of_start : ReportFormat → StartFault → List ℕ
report_of_start format fault = report_of format (finding_of fault ∷ []) (counts_of 0 [] (status_of fault))

-- ---- where it goes

-- whether a report is asked to go to the place of the index
abbrev pub IsOut : (same : List ℕ → Bool → Type 0) → (out : List ℕ) → ReportOptions → Bool → Type 0
IsOut same out options is_out = IfSome options.path (λ path. IsAt same out (string_bytes path) is_out)

-- whether its place took it, or a write was refused
abbrev pub is_tried : Result (Unit {0}) Fault → Bool
is_tried (Ok done) = true
is_tried (Err (Write count)) = true
is_tried (Err fault) = false

-- What becomes of the report of a run that doesn't start for `fault`, and the fault that is said in the end: the same,
-- or Memory if there is no memory for the report. None is made unless it is asked for, nor where it would replace what
-- may be a source, or is the file that the index goes to: these stay.
pub data EndsUnstarted {Q V : Type 0} (at : Place Q V) (suspects : Bool → Type 0) (is_out : Bool)
    (options : ReportOptions) (fault : StartFault) : (said : StartFault) → Type 0 where
  unasked : options.path ≡ None → IsLeft at → EndsUnstarted at suspects is_out options fault fault
  at_out : is_out ≡ true → IsLeft at → EndsUnstarted at suspects is_out options fault fault
  suspected : suspects true → IsLeft at → EndsUnstarted at suspects is_out options fault fault
  goes : (reported : Result (Unit {0}) Fault) → is_out ≡ false → suspects false
      → GoesTo at (λ bytes. bytes ≡ report_of_start options.format fault) 0 reported
      → is_tried reported ≡ true → EndsUnstarted at suspects is_out options fault fault
  lacking : IsLeft at → EndsUnstarted at suspects is_out options fault (Load load.Memory)
