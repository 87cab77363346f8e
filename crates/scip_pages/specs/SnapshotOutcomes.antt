-- What is answered to who asks for a snapshot: what is due, or that memory ran out.
use Rattle.std.specs.Prelude.{◌≡◌, Result, Ok, Err, IfErr}
use Rattle.scip_pages.specs.declared.snapshot_fault.SnapshotFault.{SnapshotFault}
use Rattle.scip_pages.specs.declared.snapshot_fault.SnapshotFault.TheVariants.{NoDocument, NoUnit, Misfit, Memory}

-- Memory may run out once the document and its unit are known: its source's lines are listed, of which the first that
-- an occurrence doesn't fit is a misfit.
abbrev pub MayRunOut : {Y : Type 0} → (due : Result Y SnapshotFault) → Type 0
MayRunOut (Err NoDocument) = ⊥
MayRunOut (Err NoUnit) = ⊥
MayRunOut due = Unit {0}

abbrev pub Gives : {X Y : Type 0} → (X → Y) → Result X SnapshotFault → Result Y SnapshotFault → Type 0
Gives view (Ok answer) due = due ≡ Ok (view answer)
Gives view (Err NoDocument) due = due ≡ Err NoDocument
Gives view (Err NoUnit) due = due ≡ Err NoUnit
Gives view (Err (Misfit number)) due = due ≡ Err (Misfit number)
Gives view (Err Memory) due = MayRunOut due

-- of lines that are listed: memory may run out for a text that is due alone
abbrev pub RunsOutForText : {X Y : Type 0} → Result X SnapshotFault → (due : Result Y SnapshotFault) → Type 0
RunsOutForText (Err Memory) due = IfErr due (λ _. ⊥)
RunsOutForText answer due = Unit {0}
