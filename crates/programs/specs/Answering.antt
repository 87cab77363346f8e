-- What the program `query` says.
use Rattle.std.specs.Prelude.{ℕ, Bool, List, Option, Result, Ok, Err}
use Rattle.streams.specs.Writers.{Writer}
use Rattle.programs.specs.declared.query_fault.QueryFault.{QueryFault}
use Rattle.programs.specs.Messages.{IsSilent, TellsOne}
use Rattle.programs.specs.QueryFaults.{IsTold, status_of}

-- nothing after a success; after a fault of the index of the files with these paths its line, explained if that is
-- asked for, with its status. `blames` is what may be said of why a file can't be read.
abbrev pub Answers : {M : Type 0} → (blames : List ℕ → Option (List ℕ) → Type 0) → (explain : Bool)
    → (paths : List (List ℕ)) → Result (Unit {0}) QueryFault → Writer M → (status : ℕ) → Type 0
Answers blames explain paths (Ok done) messages status = IsSilent messages status
Answers blames explain paths (Err fault) messages status =
    TellsOne (IsTold blames explain paths fault) (status_of fault) messages status
