-- What is done with the snapshots of the documents of an index.
-- `gives` is what reading a file may give, and `messages` the stream of messages.
use Rattle.std.specs.Prelude.{◌≡◌, ◌<◌, ◌≤◌, ℕ, List, [], ◌∷◌, ◌++◌, length, take, Option, Result, Ok, Err}
use Rattle.streams.specs.Writers.{Writer, IsUntouched, IsWritten, IsCutOff, AreTold}
use Rattle.source_files.specs.Made.{MakesAll, StopsBehind}
use Rattle.source_files.specs.Makers.{Maker}
use Rattle.scip_records.specs.declared.records.Index.{Index}
use Rattle.scip_records.specs.declared.records.Document.{Document}
use Rattle.scip_site.specs.declared.show_fault.ShowFault.{ShowFault}
use Rattle.scip_site.specs.declared.show_fault.ShowFault.TheVariants.{Write, Memory}
use Rattle.scip_site.specs.Snapshots.{Shown, Outcome, IsOutcome, AreShown, told_by, printed, filed, told}

-- a line is said; or memory ran out before
abbrev pub SaysLine : {M : Type 0} → List ℕ → Writer M → Result (Unit {0}) ShowFault → Type 0
SaysLine line messages (Ok done) = AreTold messages (line ∷ [])
SaysLine line messages (Err Memory) = IsUntouched messages
SaysLine line messages (Err Write) = ⊥

-- ---- where snapshots go

-- they are printed
abbrev pub ArePrinted : {W : Type 0} → Writer W → List Shown → Type 0
ArePrinted out shown = IsWritten out (printed shown)

-- or a write of the last, which isn't left out, fails, and those before it are printed
pub record AreCutOff {W : Type 0} (out : Writer W) (shown : List Shown) : Type 0 where
  pub others : List Shown
  pub path : List ℕ
  pub text : List ℕ
  pub shown_are : shown ≡ others ++ record { path = path; outcome = Ok text } ∷ []
  pub count : ℕ
  pub past_others : length (printed others) ≤ count
  pub cut_off : IsCutOff out (printed shown) count

-- each that isn't left out goes to a file below a folder
abbrev pub AreFiled : {O : Type 0} → Maker O → (folder : List ℕ) → List Shown → Type 0
AreFiled made folder shown = MakesAll (made.files.made made.before) (made.files.made made.after) (filed folder shown)

-- or the file of the last, which isn't left out, is refused
pub record AreFiledButOne {O : Type 0} (made : Maker O) (folder : List ℕ) (shown : List Shown) : Type 0 where
  pub others : List Shown
  pub path : List ℕ
  pub text : List ℕ
  pub shown_are : shown ≡ others ++ record { path = path; outcome = Ok text } ∷ []
  pub stops : StopsBehind (made.files.made made.before) (made.files.made made.after) (filed folder others)

-- where the snapshot of a document goes, whole or but for a part; or memory ran out, and all is `untouched`
abbrev pub Goes : (whole cut : List Shown → Type 0) → (untouched : Type 0) → (path text : List ℕ)
    → Result (Unit {0}) ShowFault → Type 0
Goes whole cut untouched path text (Ok done) = whole (record { path = path; outcome = Ok text } ∷ [])
Goes whole cut untouched path text (Err Write) = cut (record { path = path; outcome = Ok text } ∷ [])
Goes whole cut untouched path text (Err Memory) = untouched

-- ---- documents

-- what becomes of the document with a number; `goes` says what is done with it
pub record IsShownBy {M : Type 0} (gives : List ℕ → Option (List ℕ) → Type 0) (root : List ℕ) (index : Index)
    (number : ℕ) (path : List ℕ) (goes : List Shown → Type 0) (messages : Writer M) : Type 0 where
  pub outcome : Outcome
  pub is : IsOutcome gives root index number path outcome
  pub gone : goes (record { path = path; outcome = outcome } ∷ [])
  pub told_is : AreTold messages (told_by path outcome)

-- it is shown whole; or cut off; or memory ran out, and all is `untouched`
abbrev pub ShowsOne : {M : Type 0} → (gives : List ℕ → Option (List ℕ) → Type 0) → (root : List ℕ) → Index → ℕ
    → (path : List ℕ) → (whole cut : List Shown → Type 0) → (untouched : Type 0) → Writer M
    → Result (Unit {0}) ShowFault → Type 0
ShowsOne gives root index number path whole cut untouched messages (Ok done) =
    IsShownBy gives root index number path whole messages
ShowsOne gives root index number path whole cut untouched messages (Err Write) =
    IsShownBy gives root index number path cut messages
ShowsOne gives root index number path whole cut untouched messages (Err Memory) = untouched × IsUntouched messages

-- what becomes of the first documents of an index
pub record AreShownBy {M : Type 0} (gives : List ℕ → Option (List ℕ) → Type 0) (root : List ℕ) (index : Index)
    (documents : List Document) (goes : List Shown → Type 0) (messages : Writer M) : Type 0 where
  pub shown : List Shown
  pub are : AreShown gives root index 0 documents shown
  pub gone : goes shown
  pub told_are : AreTold messages (told shown)

-- all of them are shown; or a first part of them, the last of which is cut off; or after a first part of them, behind
-- which there are others, memory ran out
abbrev pub Shows : {M : Type 0} → (gives : List ℕ → Option (List ℕ) → Type 0) → (root : List ℕ) → Index
    → (whole cut : List Shown → Type 0) → Writer M → Result (Unit {0}) ShowFault → Type 0
Shows gives root index whole cut messages (Ok done) = AreShownBy gives root index index.documents whole messages
Shows gives root index whole cut messages (Err Write) =
    (many : ℕ) × AreShownBy gives root index (take many index.documents) cut messages
Shows gives root index whole cut messages (Err Memory) =
    (many : ℕ) × (many < length index.documents)
    × AreShownBy gives root index (take many index.documents) whole messages
