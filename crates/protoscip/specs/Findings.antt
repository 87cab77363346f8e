-- What a report tells of a tree: a finding for each fault, with the name that its line has and the sentence that
-- explains it.
use Rattle.std.specs.Prelude.{ℕ, ◌-◌, Bool, false, not, ◌&&◌, nat_eq, List, ◌∷◌, ◌++◌, Option, None, Some, drop, map}
use Rattle.std.specs.List.{count_by, filter}
use Rattle.std.specs.Option.{option_map}
use Rattle.fault_reports.specs.Findings.{Found, FoundPlace}
use Rattle.fault_reports.specs.declared.finding.Counts.{Counts}
use Rattle.fault_reports.specs.declared.finding.FindingKind.{FindingKind}
use Rattle.fault_reports.specs.declared.finding.FindingKind.TheVariants as kind
use Rattle.proto_lex.specs.FaultNames.{lex_offset}
use Rattle.proto_parse.specs.FaultNames.{syntax_offset}
use Rattle.proto_visibility.specs.declared.files.FilePlace.{FilePlace}
use Rattle.scip_build.specs.declared.omission.Omission.{Omission}
use Rattle.scip_build.specs.declared.omission.Omission.TheVariants as omitted
use Rattle.source_tree.specs.Files.{TreeFile}
use Rattle.protoscip.specs.Explanations.{bytes_of, sentence_in, spanned}
use Rattle.protoscip.specs.FaultLines.{path_of}
use Rattle.protoscip.specs.FaultTexts.{name_of}
use Rattle.protoscip.specs.Faults.{fault_of_omission}
use Rattle.protoscip.specs.ToldLines.{is_import, is_skipped, is_skipped_source, is_use, left_out, told_beside}
use Rattle.protoscip.specs.Unread.{PathUnread, unread_finding}
use Rattle.protoscip.specs.declared.fault.Fault.{Fault}
use Rattle.protoscip.specs.declared.fault.Fault.TheVariants.{Unread, Lex, Syntax, Duplicate, MissingImport}
use Rattle.protoscip.specs.declared.fault.Fault.TheVariants.{Unresolved, Ambiguous, OptionGap, Uncertain}

-- ---- a finding

-- a place of the file with this number, and its end, if that is known
abbrev pub place_in : List TreeFile → (number : ℕ) → (at end : Option ℕ) → FoundPlace
place_in tree number at end =
    record {
      path = path_of tree number;
      bytes = path_of tree number;
      text = bytes_of tree number;
      offset = at;
      end = end;
    }

abbrev pub place_of_span : List TreeFile → FilePlace → FoundPlace
place_of_span tree place = place_in tree place.file (Some place.span.start) (Some place.span.end)

-- where a fault is: of two places with one full name it is the second
abbrev pub place_of : List TreeFile → Fault → Option FoundPlace
place_of tree (Unread number) = Some (place_in tree number None None)
place_of tree (Lex number fault) = Some (place_in tree number (lex_offset fault) None)
place_of tree (Syntax number fault) = Some (place_in tree number (syntax_offset fault) None)
place_of tree (Duplicate first second) = Some (place_of_span tree second)
place_of tree (MissingImport place) = Some (place_of_span tree place)
place_of tree (Unresolved place) = Some (place_of_span tree place)
place_of tree (Ambiguous place) = Some (place_of_span tree place)
place_of tree (OptionGap place) = Some (place_of_span tree place)
place_of tree (Uncertain place behind) = Some (place_of_span tree place)
place_of tree fault = None

-- and this is the first; of an uncertain use it is the whole file that can't be read
abbrev pub first_of : List TreeFile → Fault → Option FoundPlace
first_of tree (Duplicate first second) = Some (place_of_span tree first)
first_of tree (Uncertain place behind) = Some (place_in tree behind None None)
first_of tree fault = None

-- of an import without a file, its string literals, which spell its path together
abbrev pub import_of : List TreeFile → Fault → Option (List ℕ)
import_of tree (MissingImport place) = Some (spanned tree place)
import_of tree fault = None

-- the bytes of its source from the token on that the parser met
abbrev pub met_of : List TreeFile → Fault → Option (List ℕ)
met_of tree (Syntax number fault) = option_map (λ at. drop at (bytes_of tree number)) (syntax_offset fault)
met_of tree fault = None

-- what is named there: of a name the name, and of an import its literals
abbrev pub named_of : List TreeFile → Fault → Option (List ℕ)
named_of tree (Duplicate first second) = Some (spanned tree second)
named_of tree (MissingImport place) = Some (spanned tree place)
named_of tree (Unresolved place) = Some (spanned tree place)
named_of tree (Ambiguous place) = Some (spanned tree place)
named_of tree (OptionGap place) = Some (spanned tree place)
named_of tree (Uncertain place behind) = Some (spanned tree place)
named_of tree fault = None

abbrev pub finding_of : FindingKind → List TreeFile → Fault → Found
finding_of kind tree fault = record {
  kind = kind;
  name = name_of fault;
  message = sentence_in tree fault;
  place = place_of tree fault;
  met = met_of tree fault;
  named = named_of tree fault;
  first = first_of tree fault;
  imported = import_of tree fault;
}

-- ---- all findings

-- of what an index lacks: a file is left out, an import, a use or an option has no target, or a use may have another
abbrev pub kind_of : Omission → FindingKind
kind_of (omitted.File number fault) = kind.Skipped
kind_of (omitted.Duplicate first second) = kind.Skipped
kind_of (omitted.MissingImport place) = kind.Unresolved
kind_of (omitted.Unresolved place) = kind.Unresolved
kind_of (omitted.Ambiguous place) = kind.Unresolved
kind_of (omitted.OptionGap place) = kind.Unresolved
kind_of (omitted.Uncertain place behind) = kind.Uncertain

abbrev pub told_finding : List TreeFile → Omission → Found
told_finding tree omission = finding_of (kind_of omission) tree (fault_of_omission omission)

-- of an index, what is told of it, each thing in its order
abbrev pub told_findings : List TreeFile → List Omission → List Found
told_findings tree told = map (told_finding tree) told

-- and before it what couldn't be read below the folders of the run
abbrev pub all_findings : List TreeFile → (unread : List PathUnread) → List Omission → List Found
all_findings tree unread told = map unread_finding unread ++ told_findings tree (told_beside unread told)

-- ---- the findings of a run that is refused

-- what is told, as faults of a run
abbrev pub faults_of : List Omission → List Fault
faults_of told = map fault_of_omission told

-- the file with this number would be left out for it
abbrev pub leaves_out : (number : ℕ) → Fault → Bool
leaves_out number (Unread other) = nat_eq number other
leaves_out number (Lex other fault) = nat_eq number other
leaves_out number (Syntax other fault) = nat_eq number other
leaves_out number (Duplicate first second) = nat_eq number second.file
leaves_out number fault = false

abbrev pub is_one_place : FilePlace → FilePlace → Bool
is_one_place a b = nat_eq a.file b.file && (nat_eq a.span.start b.span.start && nat_eq a.span.end b.span.end)

abbrev pub is_import_at : FilePlace → Fault → Bool
is_import_at place (MissingImport other) = is_one_place place other
is_import_at place fault = false

abbrev pub is_use_at : FilePlace → Fault → Bool
is_use_at place (Unresolved other) = is_one_place place other
is_use_at place (Ambiguous other) = is_one_place place other
is_use_at place fault = false

abbrev pub is_gap_at : FilePlace → Fault → Bool
is_gap_at place (OptionGap other) = is_one_place place other
is_gap_at place fault = false

abbrev pub is_uncertain_at : FilePlace → Fault → Bool
is_uncertain_at place (Uncertain other behind) = is_one_place place other
is_uncertain_at place fault = false

-- the second tells of the same file, import, use or option as the first
abbrev pub tells_same : Fault → Fault → Bool
tells_same (Unread number) other = leaves_out number other
tells_same (Lex number fault) other = leaves_out number other
tells_same (Syntax number fault) other = leaves_out number other
tells_same (Duplicate first second) other = leaves_out second.file other
tells_same (MissingImport place) other = is_import_at place other
tells_same (Unresolved place) other = is_use_at place other
tells_same (Ambiguous place) other = is_use_at place other
tells_same (OptionGap place) other = is_gap_at place other
tells_same (Uncertain place behind) other = is_uncertain_at place other
tells_same fault other = false

abbrev pub is_other : Fault → Fault → Bool
is_other fault other = not (tells_same fault other)

-- a fault, and then the others
abbrev pub faults_with : Fault → List Fault → List Fault
faults_with fault faults = fault ∷ filter (is_other fault) faults

-- what each is: for an uncertain use no run is refused
abbrev pub refused_kind : Fault → FindingKind
refused_kind (Uncertain place behind) = kind.Uncertain
refused_kind fault = kind.Fault

abbrev pub refused_in : List TreeFile → List Fault → List Found
refused_in tree faults = map (λ fault. finding_of (refused_kind fault) tree fault) faults

-- the fault for which the run is refused, and then what else would be told, in its order
abbrev pub refused_findings : List TreeFile → Fault → List Omission → List Found
refused_findings tree fault told = refused_in tree (faults_with fault (faults_of told))

-- ---- counts

-- as the last line of what is told has them
abbrev pub counts_of : (sources : ℕ) → List Omission → (status : ℕ) → Counts
counts_of sources told status = record {
  sources = sources - count_by (is_skipped_source sources) told;
  skipped = count_by is_skipped told;
  imports = count_by is_import told;
  uses = count_by is_use told;
  status = status;
}

-- what couldn't be read is skipped, too
abbrev pub counts_with : (sources : ℕ) → (unread : List PathUnread) → List Omission → (status : ℕ) → Counts
counts_with sources unread told status = record (counts_of sources told status) { skipped = left_out unread told }
