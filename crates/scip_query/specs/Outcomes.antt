-- What a query answers: what is due, or that memory ran out.
use Rattle.std.specs.Prelude.{◌≡◌, Result, Ok, Err}
use Rattle.std.specs.Result.{result_map_both}
use Rattle.scip_query.specs.declared.miss.Miss.{Miss}
use Rattle.scip_query.specs.declared.miss.Miss.TheVariants as miss
use Rattle.scip_query.specs.declared.query_fault.QueryFault.{QueryFault}
use Rattle.scip_query.specs.declared.query_fault.QueryFault.TheVariants.{NoDocument, NothingThere, Memory}

abbrev pub fault_of : Miss → QueryFault
fault_of miss.NoDocument = NoDocument
fault_of miss.NothingThere = NothingThere

-- the answer, as `view` shows it, is what is due; or memory ran out, if an answer is due
abbrev pub Gives : {X Y : Type 0} → (X → Y) → Result X QueryFault → Result Y Miss → Type 0
Gives view (Ok answer) due = due ≡ Ok (view answer)
Gives view (Err NoDocument) due = due ≡ Err miss.NoDocument
Gives view (Err NothingThere) due = due ≡ Err miss.NothingThere
Gives {Y = Y} view (Err Memory) due = (answer : Y) × (due ≡ Ok answer)

-- the answer, as `view` shows it, is what is due: an answer that takes no memory
abbrev pub GivesAtOnce : {X Y : Type 0} → (X → Y) → Result X QueryFault → Result Y Miss → Type 0
GivesAtOnce view answer due =
    result_map_both view (λ (fault : QueryFault). fault) answer ≡ result_map_both (λ asked. asked) fault_of due
