-- Where the program `index` puts an index, and its report.
use Rattle.std.specs.Prelude.{◌≡◌, ◌⊎◌, ℕ, Bool, true, false, List, [], Option, None, Some, Result, Ok, Err}
use Rattle.std.specs.Prelude.{String, string_bytes, IfSome}
use Rattle.std.specs.Global.{Global}
use Rattle.std.specs.Option.{option_map}
use Rattle.streams.specs.Writers.{IsCutOff, IsWritten, SinkOf, writing}
use Rattle.source_tree.specs.Files.{TreeFile}
use Rattle.source_files.specs.Places.{IsAsked, IsBegun}
use Rattle.source_files.specs.declared.out_place.OutPlace.{Ghosts as OutPlaceOf}
use Rattle.source_files.specs.declared.load_fault.LoadFault.TheVariants as load
use Rattle.command_line.specs.declared.options.IndexOptions.{IndexOptions}
use Rattle.command_line.specs.declared.options.IndexRequest.{IndexRequest}
use Rattle.protoscip.specs.declared.fault.Fault.{Fault}
use Rattle.protoscip.specs.declared.fault.Fault.TheVariants.{Write}
use Rattle.protoscip.specs.declared.recorded.Recorded.{Recorded}
use Rattle.programs.specs.Folders.{roots_in}
use Rattle.programs.specs.declared.limits.LimitFault.{LimitFault}
use Rattle.programs.specs.declared.start_fault.StartFault.{StartFault}
use Rattle.programs.specs.declared.start_fault.StartFault.TheVariants.{IsSource, Load, ReportIsOut, ReportIsSource}

-- a place before and after a call, and what its trait says of it: what it holds; what asking whether the file with a
-- path is the one there may answer; what is known of a part that it refuses, and of one that it is told to give up; and
-- what the trait of a part says, which is put there when it is whole
pub record Place (P W : Type 0) : Type 1 where
  pub holds : P → Option (List ℕ)
  pub same : P → List ℕ → Bool → Type 0
  pub refuses : P → W → Type 0
  pub gives_up : P → W → Type 0
  pub sink : SinkOf W
  pub before : P
  pub after : P

abbrev pub place : {P W : Type 0} → OutPlaceOf P W → SinkOf W → (before after : P) → Place P W
place out sink before after = record {
  holds = out.holds;
  same = out.same;
  refuses = out.refuses;
  gives_up = out.gives_up;
  sink = sink;
  before = before;
  after = after;
}

-- it is as it was
abbrev pub IsLeft : {P W : Type 0} → Place P W → Type 0
IsLeft at = at.after ≡ at.before

-- it was to take a part, and refused that; it is as it was
abbrev pub IsRefused : {P W : Type 0} → Place P W → (part : W) → Type 0
IsRefused at part = at.refuses at.before part × IsLeft at

-- it was told to give a part up; it is as it was
abbrev pub IsGivenUp : {P W : Type 0} → Place P W → (part : W) → Type 0
IsGivenUp at part = at.gives_up at.before part × IsLeft at

-- a part has been put there
abbrev pub IsFilled : {P W : Type 0} → Place P W → (part : W) → Type 0
IsFilled at part = at.holds at.after ≡ at.sink.contents part

-- What becomes of a place by a run that writes to a part of it; `runs` says what the run answers of the part before and
-- after, and `reports` what becomes of its report. If there is an index that `keeps` the limits, and the report isn't
-- refused, the part is put there; or the place refuses it, as a write is refused. Else the part is given up.
pub data Fills {P W : Type 0} (at : Place P W) (keeps : Recorded → Type 0)
    (runs : W → W → Result Recorded Fault → Type 0)
    (reports : Result Recorded Fault → (reported : Result (Unit {0}) Fault) → Type 0)
    : Result Recorded Fault → Type 0 where
  filled : {recorded : Recorded} (begun whole : W) → IsBegun at.sink.contents at.sink.failures begun → keeps recorded
      → runs begun whole (Ok recorded) → reports (Ok recorded) (Ok tt) → IsFilled at whole
      → Fills at keeps runs reports (Ok recorded)
  refused : {recorded : Recorded} {count : ℕ} (begun whole : W) → IsBegun at.sink.contents at.sink.failures begun
      → keeps recorded → runs begun whole (Ok recorded) → reports (Ok recorded) (Ok tt) → IsRefused at whole
      → Fills at keeps runs reports (Err (Write count))
  unreported : {recorded : Recorded} {fault : Fault} (begun whole : W) → IsBegun at.sink.contents at.sink.failures begun
      → runs begun whole (Ok recorded) → reports (Ok recorded) (Err fault) → IsGivenUp at whole
      → Fills at keeps runs reports (Err fault)
  unmade : {fault : Fault} {reported : Result (Unit {0}) Fault} (begun left : W)
      → IsBegun at.sink.contents at.sink.failures begun → runs begun left (Err fault) → reports (Err fault) reported
      → IsGivenUp at left → Fills at keeps runs reports (Err fault)

-- There is an index, written whole, and its report isn't refused, but the part is given up.
pub record Forgoes {P W : Type 0} (at : Place P W) (runs : W → W → Result Recorded Fault → Type 0)
    (reports : Result Recorded Fault → (reported : Result (Unit {0}) Fault) → Type 0) (recorded : Recorded)
    : Type 0 where
  pub begun : W
  pub whole : W
  pub nothing : IsBegun at.sink.contents at.sink.failures begun
  pub ran : runs begun whole (Ok recorded)
  pub reported : reports (Ok recorded) (Ok tt)
  pub given_up : IsGivenUp at whole

-- what becomes of a place and of the part `whole`, to which a run wrote that answered `ran`; `broken` is the limit that
-- its index breaks, and `done` what is answered in the end
pub data Finishes {P W A : Type 0} (at : Place P W) (whole : W)
    : (ran : Result A Fault) → (broken : Option LimitFault) → (done : Result A Fault) → Type 0 where
  part_is_put : {made : A} → IsFilled at whole → Finishes at whole (Ok made) None (Ok made)
  part_is_refused : {made : A} → IsRefused at whole → Finishes at whole (Ok made) None (Err (Write 0))
  breaks_limit : {made : A} {limit : LimitFault} → IsGivenUp at whole
      → Finishes at whole (Ok made) (Some limit) (Ok made)
  part_is_unmade : {fault : Fault} {broken : Option LimitFault} → IsGivenUp at whole
      → Finishes at whole (Err fault) broken (Err fault)

-- These bytes, and no others, were written to a part, which was put there. So the place holds them, if it is known what
-- parts hold.
pub record IsPut {P W : Type 0} (at : Place P W) (bytes : List ℕ) : Type 0 where
  pub begun : W
  pub whole : W
  pub nothing : IsBegun at.sink.contents at.sink.failures begun
  pub written : IsWritten (writing at.sink begun whole) bytes
  pub put : IsFilled at whole
  pub held : at.sink.contents begun ≡ Some [] → at.holds at.after ≡ Some bytes

-- These bytes aren't put there, and the place is as it was: a write to a part failed, which is given up; or all of them
-- were written to it, and the place refused it, as a write is refused.
pub data IsUnput {P W : Type 0} (at : Place P W) (bytes : List ℕ) : Type 0 where
  cut_off : {count : ℕ} (begun left : W) → IsBegun at.sink.contents at.sink.failures begun
      → IsCutOff (writing at.sink begun left) bytes count → IsGivenUp at left → IsUnput at bytes
  refused : (begun whole : W) → IsBegun at.sink.contents at.sink.failures begun
      → IsWritten (writing at.sink begun whole) bytes → IsRefused at whole → IsUnput at bytes

-- whether one of the files that were read is said to be the one at a place
abbrev pub IsRead : {P W : Type 0} → Place P W → IndexOptions → List TreeFile → Bool → Type 0
IsRead at options tree answer = IsAsked (at.same at.before) (roots_in options) tree answer

-- whether the file with a path is the one at the place of the index: by the path `out` of that place, or as the place
-- is asked
abbrev pub IsAt : (same : List ℕ → Bool → Type 0) → (out path : List ℕ) → Bool → Type 0
IsAt same out path true = (path ≡ out) ⊎ same path true
IsAt same out path false = (path ≡ out → ⊥) × same path false

-- if a report is asked for, its file isn't the one at the place of the index
abbrev pub AreTwo : {P W : Type 0} → Place P W → IndexRequest → Type 0
AreTwo at asked =
    IfSome asked.options.report.path
    (λ path. IsAt (at.same at.before) (string_bytes asked.out) (string_bytes path) false)

-- None of the files that were read is said to be the one at the place of the index, nor, if a report is asked for, the
-- one at its place; and the two have different paths, and aren't said to be one.
pub record AreApart {P W Q V : Type 0} (at : Place P W) (report : Place Q V) (asked : IndexRequest)
    (tree : List TreeFile) : Type 0 where
  pub index : IsRead at asked.options tree false
  pub reported : IfSome asked.options.report.path (λ _. IsRead report asked.options tree false)
  pub two : AreTwo at asked

-- why no report is made of a tree: one of the files that were read is said to be the one at its place, whose path is
-- named; or memory ran out
pub data MayNotReport {Q V : Type 0} (at : Place Q V) (options : IndexOptions) (tree : List TreeFile)
    : StartFault → Type 0 where
  report_is_source : {named : String Global} → option_map string_bytes options.report.path ≡ Some (string_bytes named)
      → IsRead at options tree true → MayNotReport at options tree (ReportIsSource named)
  report_lacks_memory : MayNotReport at options tree (Load load.Memory)

-- why the report can't go to its place: it is that of the index, by its path or as that is asked; or memory ran out
pub data IsOneFile (same : List ℕ → Bool → Type 0) (asked : IndexRequest) : StartFault → Type 0 where
  report_is_index : {named : String Global}
      → option_map string_bytes asked.options.report.path ≡ Some (string_bytes named)
      → IsAt same (string_bytes asked.out) (string_bytes named) true → IsOneFile same asked (ReportIsOut named)
  path_lacks_memory : IsOneFile same asked (Load load.Memory)

-- why no part is begun for a tree, the first of these: one of the files that were read is said to be the one at the
-- place of the index, whose path is named; the report would go there; one of them is said to be the one at its place,
-- whose path is named. Memory may run out before each of them.
pub data MayNotBegin {P W Q V : Type 0} (at : Place P W) (report : Place Q V) (asked : IndexRequest) (tree : List TreeFile)
    : StartFault → Type 0 where
  index_is_source : {named : String Global} → string_bytes named ≡ string_bytes asked.out → IsRead at asked.options tree true
      → MayNotBegin at report asked tree (IsSource named)
  report_at_index : {fault : StartFault} → IsRead at asked.options tree false
      → IsOneFile (at.same at.before) asked fault → MayNotBegin at report asked tree fault
  report_at_source : {fault : StartFault} → IsRead at asked.options tree false → AreTwo at asked
      → MayNotReport report asked.options tree fault → MayNotBegin at report asked tree fault
  beginning_lacks_memory : MayNotBegin at report asked tree (Load load.Memory)
