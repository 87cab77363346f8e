-- What clauses say of a `Stolen`.
use Rattle.std.specs.Prelude.{⊤}
use Rattle.index_pool.specs.declared.lanes.ticket.Ticket.{Ticket}
use Rattle.index_pool.specs.declared.lanes.stolen.Stolen.{Stolen}
use Rattle.index_pool.specs.declared.lanes.stolen.Stolen.TheVariants.{Got, Empty, Retry}

-- a fact about the ticket, if there is one
abbrev pub IfGot : Stolen → (Ticket → Type 0) → Type 0
IfGot (Got t) fact = fact t
IfGot Empty fact = ⊤
IfGot Retry fact = ⊤

-- a fact that holds if the queue was empty
abbrev pub IfEmpty : Stolen → Type 0 → Type 0
IfEmpty (Got t) fact = ⊤
IfEmpty Empty fact = fact
IfEmpty Retry fact = ⊤

-- a fact that holds if a further try is asked for
abbrev pub IfRetry : Stolen → Type 0 → Type 0
IfRetry (Got t) fact = ⊤
IfRetry Empty fact = ⊤
IfRetry Retry fact = fact

-- a fact that holds if there is no ticket
abbrev pub IfNotGot : Stolen → Type 0 → Type 0
IfNotGot (Got t) fact = ⊤
IfNotGot Empty fact = fact
IfNotGot Retry fact = fact
