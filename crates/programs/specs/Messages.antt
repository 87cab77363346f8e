-- What a program says on standard error, and the status that it ends with.
use Rattle.std.specs.Prelude.{◌≡◌, ◌⊎◌, ℕ, List, Option, Some, None, codes}
use Rattle.streams.specs.Writers.{IsSaid, IsUntouched, Writer}
use Rattle.protoscip.specs.Lines.{plain_line}
use Rattle.protoscip.specs.Statuses as statuses

-- the stream of messages around a call, and the exit status: this line is said, with its end, or cut off by a write
-- that fails; and the status is the one that is due
abbrev pub Says : {M : Type 0} → (line : List ℕ) → (due : ℕ) → Writer M → (status : ℕ) → Type 0
Says line due messages status =
    (status ≡ due) × IsSaid messages line

-- what is said if there is no memory for a line, and its status
abbrev pub memory_line : List ℕ
memory_line = plain_line (codes "Memory")

abbrev pub memory_status : ℕ
memory_status = statuses.memory_status

-- if a program stops, the line that is due is said, with the status that is due; or, if there is no memory for it,
-- the line and the status of Memory
abbrev pub Tells : {M : Type 0} → (line : List ℕ) → (due : ℕ) → Writer M → (status : ℕ) → Type 0
Tells line due messages status = Says line due messages status ⊎ Says memory_line memory_status messages status

-- if a line isn't fixed: one of which `Due` holds is said, with its status; or the line and the status of Memory
abbrev pub TellsOne : {M : Type 0} → (Due : List ℕ → Type 0) → (due : ℕ) → Writer M → (status : ℕ) → Type 0
TellsOne Due due messages status =
    ((line : List ℕ) × Due line × Says line due messages status) ⊎ Says memory_line memory_status messages status

-- after a success nothing is said, and the exit status is 0
abbrev pub IsSilent : {M : Type 0} → Writer M → (status : ℕ) → Type 0
IsSilent messages status = IsUntouched messages × (status ≡ 0)

-- after a success a text of which `Due` holds is said
abbrev pub SaysOfSuccess : {M : Type 0} → (Due : List ℕ → Type 0) → Writer M → (status : ℕ) → Type 0
SaysOfSuccess Due messages status = (text : List ℕ) × Due text × Says text 0 messages status

-- a given text, if there is one, is said after a success
abbrev pub SaysIfAny : {M : Type 0} → Option (List ℕ) → Writer M → (status : ℕ) → Type 0
SaysIfAny None messages status = IsSilent messages status
SaysIfAny (Some text) messages status = Says text 0 messages status

-- a text of which `Due` holds is said after a success; or, if there is no memory for it, the line of Memory, with its
-- status
abbrev pub TellsOfSuccess : {M : Type 0} → (Due : List ℕ → Type 0) → Writer M → (status : ℕ) → Type 0
TellsOfSuccess Due messages status = TellsOne Due 0 messages status
