-- What is reported of a run, by what it answers, and where the report goes.
use Rattle.std.proofs.Common.{◌≡◌, ◌∙◌, ◌+◌, ap, arith, refl, subst, sym, ℕ, true, List, [], Option, None, Some}
use Rattle.std.proofs.Common.{Result, Ok, Err}
use Rattle.std.specs.List.{count_by}
use Rattle.std.specs.Prelude.{IfErr, IfOk, IfSome, MatchResult, is_some}
use Rattle.std.specs.Option.{option_map}
use Rattle.proto_decl.specs.Values.{Seen}
use Rattle.index_hooks.specs.declared.choice.Choice.{Choice}
use Rattle.source_tree.specs.Files.{TreeFile}
use Rattle.source_tree.specs.Trees.{IsSourceCount}
use Rattle.scip_build.specs.declared.omission.Omission.{Omission}
use Rattle.scip_build.specs.declared.settings.Settings.{Settings}
use Rattle.fault_reports.specs.Reports.{report_of}
use Rattle.fault_reports.specs.declared.report.ReportFormat.{ReportFormat}
use Rattle.protoscip.specs.FaultLines.{HasFilesOf}
use Rattle.protoscip.specs.Findings.{all_findings, counts_of, counts_with, refused_findings}
use Rattle.protoscip.specs.FaultTexts.{status_of}
use Rattle.protoscip.specs.ToldLines.{is_skipped}
use Rattle.protoscip.specs.ToldTrees.{MayNotTell}
use Rattle.protoscip.specs.ToldTrees.MayNotTell.{telling_lacks_thread, telling_lacks_memory}
use Rattle.protoscip.specs.declared.fault.Fault.{Fault}
use Rattle.protoscip.specs.declared.recorded.Recorded.{Recorded}
use Rattle.protoscip.specs.Unread.{PathUnread}
use Rattle.command_line.specs.declared.options.limits.Limits.{Limits}
use Rattle.command_line.specs.declared.options.report.ReportOptions.{ReportOptions}
use Rattle.programs.specs.Placing.{Finishes, Place}
use Rattle.programs.specs.Placing.Finishes.{part_is_put, part_is_refused, breaks_limit, part_is_unmade}
use Rattle.programs.specs.Reporting.{GoesIfAsked, GoesTo, IsReport, IsToldBeside, Reports, due_status}
use Rattle.programs.specs.Reporting.{path_asked, ran_of, told_by, cut_off, of_fault, of_index, put, refused, unmade}
use Rattle.programs.specs.Settled.{settled}
use Rattle.programs.specs.declared.limits.LimitFault.{LimitFault}
use Rattle.basics.proofs.EqualLemmas.{moved2}
use Rattle.programs.proofs.TreeRunLemmas.{part_of}

-- what is reported of what a run lacks, or of its fault, is reported of its answer
pub reported_by : {A : Type 0} (f : A → Recorded) (ran : Result A Fault) (told : List Omission)
    (fault : Option Fault) (P : Result (List Omission) Fault → Type 0)
    → MatchResult ran (λ a. told ≡ (f a).told) (λ _. told ≡ [])
    → MatchResult ran (λ _. fault ≡ None) (λ e. fault ≡ Some e)
    → P (ran_of told fault) → P (told_by (part_of f ran))
reported_by f (Ok a) told fault P is none reports = moved2 (λ t e. P (ran_of t e)) is none reports
reported_by f (Err e) told fault P is some reports = moved2 (λ t e. P (ran_of t e)) is some reports

-- the same of an answer that is all that is recorded
pub reported_of : (ran : Result Recorded Fault) (told : List Omission) (fault : Option Fault)
    (P : Result (List Omission) Fault → Type 0)
    → MatchResult ran (λ recorded. told ≡ recorded.told) (λ _. told ≡ [])
    → MatchResult ran (λ _. fault ≡ None) (λ e. fault ≡ Some e)
    → P (ran_of told fault) → P (told_by ran)
reported_of (Ok recorded) told fault P is none reports = moved2 (λ t e. P (ran_of t e)) is none reports
reported_of (Err e) told fault P is some reports = moved2 (λ t e. P (ran_of t e)) is some reports

-- what holds anyway holds of a value, if there is one
pub any_if_some : {A : Type 0} (P : Type 0) (a : Option A) → P → IfSome a (λ _. P)
any_if_some P None p = tt
any_if_some P (Some a) p = p

-- ---- what is reported

-- the counts where all could be read
counts_alone : (told : List Omission) (status : ℕ) → counts_of 0 told status ≡ counts_with 0 [] told status
counts_alone told status =
    let skipped = count_by is_skipped told in
    let none : skipped ≡ 0 + skipped = omega arith in
    ap (λ (n : ℕ). record (counts_of 0 told status) { skipped = n }) none

module _ (allows : Seen → Choice → Type 0) (settings : Settings) (tree : List TreeFile)
    (unread : List PathUnread) (format : ReportFormat) (status : ℕ) (bytes : List ℕ) where
  pub of_an_index : (told : List Omission) (sources : ℕ) → IsSourceCount tree sources
      → bytes ≡ report_of format (all_findings tree unread told) (counts_with sources unread told status)
      → IsReport allows settings tree unread format (Ok told) status bytes
  of_an_index told sources counted are = record {
    findings = all_findings tree unread told;
    skipped = unread;
    told = told;
    sources = sources;
    found = of_index;
    sources_are = counted;
    bytes_are = are;
  }

  pub of_a_fault : (fault : Fault) (told : List Omission) → IsToldBeside allows settings tree fault told
      → status ≡ status_of fault
      → bytes ≡ report_of format (refused_findings tree fault told) (counts_of 0 told (status_of fault))
      → IsReport allows settings tree unread format (Err fault) status bytes
  of_a_fault fault told beside same are = record {
    findings = refused_findings tree fault told;
    skipped = [];
    told = told;
    sources = 0;
    found = of_fault beside;
    sources_are = refl;
    bytes_are =
        let findings = refused_findings tree fault told in
        are ∙ (ap (λ (s : ℕ). report_of format findings (counts_of 0 told s)) (sym same)
        ∙ ap (report_of format findings) (counts_alone told status));
  }

-- ---- where it goes

-- bytes of which something holds
pub weaker : {Q V : Type 0} (at : Place Q V) (Is : List ℕ → Type 0) (bytes : List ℕ) (workers : ℕ)
    (reported : Result (Unit {0}) Fault) → Is bytes → GoesTo at (λ all. all ≡ bytes) workers reported
    → GoesTo at Is workers reported
weaker at Is bytes workers _ is (put same there) = put (subst Is (sym same) is) there
weaker at Is bytes workers _ is (cut_off begun left same nothing cut gone) =
    cut_off begun left (subst Is (sym same) is) nothing cut gone
weaker at Is bytes workers _ is (refused begun whole same nothing written gone) =
    refused begun whole (subst Is (sym same) is) nothing written gone
weaker at Is bytes workers _ is (unmade may left) = unmade may left

-- if it is asked for
pub goes_asked : {Q V T : Type 0} (bytes_of : T → List ℕ) (at : Place Q V) (options : ReportOptions)
    (Is : ReportFormat → List ℕ → Type 0) (workers : ℕ) (path : Option T) (reported : Result (Unit {0}) Fault)
    → is_some path ≡ true → GoesTo at (Is options.format) workers reported
    → GoesIfAsked at options Is workers (option_map bytes_of path) reported
goes_asked bytes_of at options Is workers None reported asked goes = absurd cc
goes_asked bytes_of at options Is workers (Some path) reported asked goes = goes

-- ---- the files that faults name

untold_files : (tree : List TreeFile) (workers : ℕ) (fault : Fault) → MayNotTell workers fault → HasFilesOf tree fault
untold_files tree workers _ (telling_lacks_thread more) = tt
untold_files tree workers _ telling_lacks_memory = tt

goes_files : {Q V : Type 0} (at : Place Q V) (Is : List ℕ → Type 0) (workers : ℕ) (tree : List TreeFile)
    (reported : Result (Unit {0}) Fault) → GoesTo at Is workers reported → IfErr reported (HasFilesOf tree)
goes_files at Is workers tree _ (put is there) = tt
goes_files at Is workers tree _ (cut_off begun left is nothing cut gone) = tt
goes_files at Is workers tree _ (refused begun whole is nothing written gone) = tt
goes_files at Is workers tree _ (unmade {fault = fault} may left) = untold_files tree workers fault may

asked_files : {Q V : Type 0} (at : Place Q V) (options : ReportOptions) (Is : ReportFormat → List ℕ → Type 0)
    (workers : ℕ) (tree : List TreeFile) (asked : Option (List ℕ)) (reported : Result (Unit {0}) Fault)
    → GoesIfAsked at options Is workers asked reported → IfErr reported (HasFilesOf tree)
asked_files at options Is workers tree None reported goes =
    subst (λ (r : Result (Unit {0}) Fault). IfErr r (HasFilesOf tree)) (sym goes.1) tt
asked_files at options Is workers tree (Some path) reported goes =
    goes_files at (Is options.format) workers tree reported goes

pub reported_files : {Q V : Type 0} (at : Place Q V) (options : ReportOptions) (limits : Limits)
    (allows : Seen → Choice → Type 0) (settings : Settings) (workers : ℕ) (tree : List TreeFile)
    (unread : List PathUnread) (ran : Result (List Omission) Fault) (reported : Result (Unit {0}) Fault)
    → Reports at options limits allows settings workers tree unread ran reported → IfErr reported (HasFilesOf tree)
reported_files at options limits allows settings workers tree unread ran reported reports =
    asked_files at options
    (λ format. IsReport allows settings tree unread format ran (due_status ran reports.0)) workers tree
    (path_asked options) reported reports.2

pub settled_files : {A : Type 0} (tree : List TreeFile) (ran : Result A Fault) (reported : Result (Unit {0}) Fault)
    → IfErr ran (HasFilesOf tree) → IfErr reported (HasFilesOf tree) → IfErr (settled ran reported) (HasFilesOf tree)
settled_files tree (Ok made) (Ok done) of_run of_report = tt
settled_files tree (Ok made) (Err fault) of_run of_report = of_report
settled_files tree (Err fault) reported of_run of_report = of_run

pub finished_files : {P W A : Type 0} (at : Place P W) (whole : W) (tree : List TreeFile) (ran : Result A Fault)
    (broken : Option LimitFault) (done : Result A Fault) → Finishes at whole ran broken done
    → IfErr ran (HasFilesOf tree) → IfErr done (HasFilesOf tree)
finished_files at whole tree _ _ _ (part_is_put filled) have = tt
finished_files at whole tree _ _ _ (part_is_refused left) have = tt
finished_files at whole tree _ _ _ (breaks_limit left) have = tt
finished_files at whole tree _ _ _ (part_is_unmade left) have = have

-- what is said of what a run made is said of what is answered in the end
pub settled_said : {A : Type 0} (Says : A → Type 0) (ran : Result A Fault) (reported : Result (Unit {0}) Fault)
    → IfOk ran Says → IfOk (settled ran reported) Says
settled_said Says (Ok made) (Ok done) says = says
settled_said Says (Ok made) (Err fault) says = tt
settled_said Says (Err fault) reported says = tt

pub finished_said : {P W A : Type 0} (at : Place P W) (whole : W) (Says : A → Type 0) (ran : Result A Fault)
    (broken : Option LimitFault) (done : Result A Fault) → Finishes at whole ran broken done
    → IfOk ran Says → IfOk done Says
finished_said at whole Says _ _ _ (part_is_put filled) says = says
finished_said at whole Says _ _ _ (part_is_refused left) says = tt
finished_said at whole Says _ _ _ (breaks_limit left) says = says
finished_said at whole Says _ _ _ (part_is_unmade left) says = tt
