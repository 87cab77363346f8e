-- What is said of a line that is there, or isn't.
use Rattle.std.proofs.Common.{◌≡◌, ◌⊎◌, inl, inr, ℕ, Bool, true, false, List, Ok, Err, subst}
use Rattle.std.specs.Prelude.{Result, IfErr, IfOk, MatchResult, OnOk}
use Rattle.streams.specs.Writers.{IsCutOff, IsWritten, SinkOf, Writer, writing}
use Rattle.streams.specs.declared.whole_writes.CutOff.{CutOff}
use Rattle.programs.specs.Messages.{IsSilent, Says, Tells, TellsOne, memory_line, memory_status}
use Rattle.programs.specs.Printing.{EndsCut}

pub told : {M L E : Type 0} (messages : Writer M) (status asked due : ℕ) (bytes : L → List ℕ) (line : Result L E)
    (text : List ℕ)
    → asked ≡ due → IfOk line (λ l. bytes l ≡ text)
    → MatchResult line (λ l. Says (bytes l) asked messages status)
    (λ _. Says memory_line memory_status messages status)
    → Tells text due messages status
told messages status asked due bytes (Ok l) text same is said =
    inl (subst (λ t. Says t due messages status) is
    (subst (λ d. Says (bytes l) d messages status) same said))
told messages status asked due bytes (Err e) text same is said = inr said

-- the same where the line isn't fixed
pub told_one : {M L E : Type 0} (messages : Writer M) (status asked due : ℕ) (bytes : L → List ℕ) (line : Result L E)
    (Due : List ℕ → Type 0)
    → asked ≡ due → IfOk line (λ l. Due (bytes l))
    → MatchResult line (λ l. Says (bytes l) asked messages status)
    (λ _. Says memory_line memory_status messages status)
    → TellsOne Due due messages status
told_one messages status asked due bytes (Ok l) Due same is said =
    inl (bytes l, is, subst (λ d. Says (bytes l) d messages status) same said)
told_one messages status asked due bytes (Err e) Due same is said = inr said

-- nothing is said of a closed pipe, and of another what is due
pub closed_ends : {M : Type 0} (closed : Bool) (due : Type 0) (messages : Writer M) (status : ℕ) → closed ≡ true
    → IsSilent messages status → EndsCut closed due messages status
closed_ends true due messages status is silent = silent
closed_ends false due messages status is silent = absurd cc

pub open_ends : {M : Type 0} (closed : Bool) (due : Type 0) (messages : Writer M) (status : ℕ) → closed ≡ false
    → due → EndsCut closed due messages status
open_ends true due messages status is said = absurd cc
open_ends false due messages status is said = said

-- a text is written, all of it or a first part
pub written_or_cut : {W : Type 0} (sink : SinkOf W) (text : List ℕ) (before after : W)
    (done : Result (Unit {0}) CutOff) → OnOk done (IsWritten (writing sink before after) text)
    → IfErr done (λ (e : CutOff). IsCutOff (writing sink before after) text e.written)
    → IsWritten (writing sink before after) text
    ⊎ ((count : ℕ) × IsCutOff (writing sink before after) text count)
written_or_cut sink text before after (Ok done) ok err = inl ok
written_or_cut sink text before after (Err e) ok err = inr (e.written, err)
